-- What holds of a rewind under way, as statements; proofs/Theorems.antt proves each.
use Rattle.std.specs.Prelude.{ℕ, ◌+◌, ◌≤◌, ◌<◌, ◌≡◌, Bool, true, false, List, [], ◌∷◌, length, ℤ}
use Rattle.refusal.specs.declared.Refusal.{Refusal}
use Rattle.state.specs.Laws.{Sizes}
use Rattle.teams.specs.declared.TeamReader.{TeamReader}
use Rattle.back.specs.TeamBoard.{TeamBack, was, refused}
use Rattle.back.specs.declared.TeamBoard.{TeamBoard}
use Rattle.reel.specs.declared.Reel.{Reel}
use Rattle.rewinding.specs.Rewinding.{rewind_to}
use Rattle.going.specs.Going.{start_rewind, go_on}
use Rattle.going.specs.declared.Rewind.{Rewind}
use Rattle.going.specs.declared.StartAnswer.TheVariants as starts
use Rattle.going.specs.declared.GoAnswer.{GoAnswer}
use Rattle.going.specs.declared.GoAnswer.TheVariants as answers
use Rattle.going.specs.declared.Go.{Go}

-- ---- any rewind, whoever made it, with the lengths that its board's arrays have

pub record BoardSizes (b : TeamBoard) : Type 0 where
  pub entries : Sizes b.board.entries
  pub teams : length b.teams ≡ 256

-- calls one behind the other, each on the rewind that the last one left: the answer of the last, and what it leaves
unfoldable pub go_each : Rewind → ℕ → List ℕ → Go
go_each w n [] = go_on w n
go_each w n (m ∷ ms) = go_each (go_on w n).rewind m ms

unfoldable pub total : List ℕ → ℕ
total [] = 0
total (n ∷ ns) = n + total ns

-- however a number of events is split over calls, the last one answers and leaves what one call over their sum does
abbrev pub SplitsAdd : Type 0
SplitsAdd = (w : Rewind) → BoardSizes w.board → (n : ℕ) (ms : List ℕ) → go_each w n ms ≡ go_on w (n + total ms)

abbrev pub is_going : GoAnswer → Bool
is_going answers.Ended = false
is_going answers.Going = true
is_going (answers.Refused r) = false

-- once it has ended, or was refused, it answers that again and again, with nothing changed
abbrev pub OverStays : Type 0
OverStays =
    (w : Rewind) → BoardSizes w.board → (n m : ℕ) → is_going (go_on w n).answer ≡ false → go_on (go_on w n).rewind m ≡ go_on w n

-- as many events as are newer than its TickStart are enough
abbrev pub EnoughEnds : Type 0
EnoughEnds = (w : Rewind) (n : ℕ) → w.progress.newer ≤ n → is_going (go_on w n).answer ≡ false

-- ---- rewinding in one call

abbrev pub answer_of : TeamBack → GoAnswer
answer_of (was b) = answers.Ended
answer_of (refused r) = answers.Refused r

-- rewinding is a start and, if that isn't refused, one call over enough events, of which 511 always are: it ends and hands out the copy, or is
-- refused and hands out none
pub record InOne (r : TeamReader) (l : Reel) (t : ℤ) : Type 0 where
  pub refuses : (x : Refusal) → (start_rewind r l t).answer ≡ starts.Refused x → rewind_to r l t ≡ refused x
  pub enough : (start_rewind r l t).rewind.progress.newer < 512
  pub answers : (start_rewind r l t).answer ≡ starts.Started → (n : ℕ) → (start_rewind r l t).rewind.progress.newer ≤ n
      → (go_on (start_rewind r l t).rewind n).answer ≡ answer_of (rewind_to r l t)
  pub copy : (start_rewind r l t).answer ≡ starts.Started → (n : ℕ) → (start_rewind r l t).rewind.progress.newer ≤ n
      → (b : TeamBoard) → rewind_to r l t ≡ was b → (go_on (start_rewind r l t).rewind n).rewind.board ≡ b

abbrev pub RewindsInOne : Type 0
RewindsInOne = (r : TeamReader) (l : Reel) (t : ℤ) → InOne r l t
