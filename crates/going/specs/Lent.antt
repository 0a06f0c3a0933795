-- A rewind under way whose arrays are lent.
use Rattle.std.specs.Prelude.{◌≡◌, List, ℤ}
use Rattle.state.specs.declared.Entries.{Entries}
use Rattle.back.specs.Board.{board}
use Rattle.back.specs.TeamBoard.{team_board}
use Rattle.reel.specs.declared.Reel.{Reel}
use Rattle.going.specs.Going.{rewind_of}
use Rattle.going.specs.declared.StartAnswer.{StartAnswer}
use Rattle.going.specs.declared.StartAnswer.TheVariants as starts
use Rattle.going.specs.declared.Start.{Start}
use Rattle.going.specs.declared.LentStart.{LentStart}
use Rattle.going.specs.declared.LentGo.{LentGo}
use Rattle.going.specs.declared.Go.{Go}

-- in a refusal its own reel stays what it was
abbrev pub own_reel : StartAnswer → Reel → Reel → Reel
own_reel starts.Started given own = given
own_reel (starts.Refused r) given own = own

-- what a start answers beside a reel, of the own reel before and after it
pub record StartIs (s : Start) (given own₀ : Reel) (r : LentStart) (own₁ : Reel) : Type 0 where
  pub answer : r.answer ≡ s.answer
  pub board : r.board ≡ s.rewind.board
  pub progress : r.progress ≡ s.rewind.progress
  pub own : own₁ ≡ own_reel s.answer given own₀

-- what going on answers, of the entries and teams that it leaves and of its own reel, of which only the counts change
abbrev pub go_is : LentGo → Entries → List ℤ → Reel → Go
go_is r e t l = record { answer = r.answer; rewind = rewind_of (team_board (board r.tick e) t) l r.progress }
