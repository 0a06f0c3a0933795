-- Laws of the reading call and the step back, of what the calls hand back; proofs/Theorems.antt proves each. docs/FORMAT.md, "What a call
-- may say" and "Stepping back".
use Rattle.std.specs.Prelude.{ℕ, ◌≡◌, Bool, List, ℤ}
use Rattle.refusal.specs.declared.Refusal.{Refusal}
use Rattle.state.specs.Reading.{Event}
use Rattle.state.specs.Slim.{slim}
use Rattle.state.specs.declared.Reader.{Reader}
use Rattle.state.specs.declared.Answer.TheVariants as answers
use Rattle.reader.specs.Answers.{ReadIs}
use Rattle.reader.specs.declared.ReadAnswer.{ReadAnswer}
use Rattle.back.specs.Back.{step_back}
use Rattle.back.specs.declared.Board.{Board}
use Rattle.reading_laws.specs.Causes.{Cause, WantsMore}

-- a reading call refuses n exactly if n has its cause, and leaves the reader that goes with it
pub record RefusesBy (r : Reader) (w : List ℕ) (last : Bool) (a : ReadAnswer) (n : Refusal) : Type 0 where
  pub cause : a.answer ≡ answers.Refused n → Cause r w last n a.reader
  pub refuses : (left : Reader) → Cause r w last n left → (a.answer ≡ answers.Refused n) × (a.reader ≡ left)

abbrev pub RefusalsHaveCauses : Type 0
RefusalsHaveCauses =
    (r : Reader) (w : List ℕ) (last : Bool) (a : ReadAnswer) → ReadIs r w last a → (n : Refusal) → RefusesBy r w last a n

-- it says more exactly if it wants more, and then changes nothing
pub record MoreBy (r : Reader) (w : List ℕ) (last : Bool) (a : ReadAnswer) : Type 0 where
  pub wants : a.answer ≡ answers.More → WantsMore r w last
  pub says : WantsMore r w last → (a.answer ≡ answers.More) × (a.reader ≡ r)

abbrev pub MoreIsWanted : Type 0
MoreIsWanted = (r : Reader) (w : List ℕ) (last : Bool) (a : ReadAnswer) → ReadIs r w last a → MoreBy r w last a

-- what the call hands back is determined, though its promise shows it by views: the answer, the reader, the ten numbers, the former
-- ten and the arguments
abbrev pub ReadDetermined : Type 0
ReadDetermined =
    (r : Reader) (w : List ℕ) (last : Bool) (a b : ReadAnswer) → ReadIs r w last a → ReadIs r w last b → a ≡ b

-- the arguments of a command make no difference to a step back
abbrev pub BackWithoutArguments : Type 0
BackWithoutArguments =
    (b : Board) (e : Event) (ten former : List ℤ) → step_back b e ten former ≡ step_back b (slim e) ten former
