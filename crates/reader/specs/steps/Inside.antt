-- A reading call's answer from its parts.
use Rattle.fields.specs.declared.Args.{Args}
use Rattle.state.specs.State.{reader_with}
use Rattle.state.specs.declared.Scalars.{Scalars}
use Rattle.state.specs.declared.Memory.{Memory}
use Rattle.state.specs.declared.Answer.{Answer}
use Rattle.reader.specs.declared.ReadAnswer.{ReadAnswer}

abbrev pub read_answer : Answer → Scalars → Memory → Args → ReadAnswer
read_answer a s m xs =
    record { answer = a; reader = reader_with s m.entries; input = m.input; former = m.former; args = xs }
