-- A call on a reader by the tests that the code makes. Assumes nothing.
use Prim.Native.Nat.{ℕ}
use mathlib.Core.Path.{◌≡◌, sym, ap, subst, ◌∙◌}
use mathlib.Core.Bool.{Bool, true, false}
use mathlib.Core.List.{List}
use Rattle.refusal.specs.declared.Refusal.TheVariants.{BadState, Closed}
use Rattle.item.specs.Said.{refusing}
use Rattle.state.specs.State.{reader_with, good_reader}
use Rattle.state.specs.Reading.{Step, step_of, is_closed, open_call, good_call, read_call}
use Rattle.state.specs.steps.Parts.{memory_of}
use Rattle.state.specs.declared.Memory.{Memory}
use Rattle.state.specs.declared.Reader.{Reader}
use Rattle.reader.specs.Answers.{Tells}
use Rattle.reader.specs.declared.ReadAnswer.{ReadAnswer}
use Rattle.state.proofs.Numbers.{picks_first, picks_second}

-- the same call by another name
pub renamed : {t u : Step} {r : ReadAnswer} → t ≡ u → Tells t r → Tells u r
renamed {t} {u} {r} e h = subst (λ (v : Step). Tells v r) e h

-- m is the memory that the call on the reader begins with
module _ (r : Reader) (w : List ℕ) (last : Bool) (m : Memory) (e : m ≡ memory_of r.entries) where
  good_law : (b : Bool) → good_reader (reader_with r.scalars m.entries) ≡ b → good_reader r ≡ b
  good_law b g = ap (λ (n : Memory). good_reader (reader_with r.scalars n.entries)) (sym e) ∙ g

  pub call_bad : good_reader (reader_with r.scalars m.entries) ≡ false
      → step_of (refusing BadState) r.scalars (memory_of r.entries) ≡ read_call r w last
  unfolding read_call
  call_bad g = picks_second (good_reader r) _ _ (good_law false g)

  pub call_closed : good_reader (reader_with r.scalars m.entries) ≡ true → is_closed r.scalars.standing ≡ true
      → step_of (refusing Closed) r.scalars (memory_of r.entries) ≡ read_call r w last
  unfolding read_call good_call
  call_closed g c = picks_first (is_closed r.scalars.standing) _ _ c ∙ picks_first (good_reader r) _ _ (good_law true g)

  pub call_open : good_reader (reader_with r.scalars m.entries) ≡ true → is_closed r.scalars.standing ≡ false
      → open_call r.scalars m w last ≡ read_call r w last
  unfolding read_call good_call
  call_open g c =
      ap (λ (n : Memory). open_call r.scalars n w last) e
      ∙ (picks_second (is_closed r.scalars.standing) _ _ c ∙ picks_first (good_reader r) _ _ (good_law true g))
