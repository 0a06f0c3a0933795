-- What the functions inside hand over.
use Rattle.std.specs.Prelude.{ℕ, List, ℤ}
use Rattle.refusal.specs.declared.Refusal.{Refusal}
use Rattle.state.specs.State.{reader_with}
use Rattle.state.specs.declared.Entries.{Entries}
use Rattle.state.specs.declared.Scalars.{Scalars}
use Rattle.teams.specs.Teams.{team_reader}
use Rattle.teams.specs.declared.TeamReader.{TeamReader}
use Rattle.many.specs.declared.Stop.{Stop}
use Rattle.many.specs.declared.Stop.TheVariants as stops
use Rattle.reel.specs.declared.Counts.{Counts}
use Rattle.reeling.specs.declared.CallsKept.{CallsKept}
use Rattle.reeling.specs.declared.ReelRead.{ReelRead}

abbrev pub calls_kept : Stop → ℕ → ℕ → Scalars → Counts → CallsKept
calls_kept stop count used s k = record { stop = stop; count = count; used = used; scalars = s; counts = k }

abbrev pub answer_of : CallsKept → Entries → List ℤ → ReelRead
answer_of r e t =
    record { stop = r.stop; count = r.count; used = r.used; reader = team_reader (reader_with r.scalars e) t; counts = r.counts }

abbrev pub not_read : Refusal → TeamReader → Counts → ReelRead
not_read why r k = record { stop = stops.Refused why; count = 0; used = 0; reader = r; counts = k }
