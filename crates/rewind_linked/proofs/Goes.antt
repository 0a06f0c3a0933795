-- Going on with a rewind that arrays hold. Assumes nothing.
use Rattle.std.specs.Prelude.{Option}
use Prim.Native.Nat.{ℕ}
use mathlib.Core.Path.{◌≡◌, ap, ◌∙◌}
use mathlib.Core.Bool.{Bool}
use mathlib.Core.List.{List}
use lib.ListN.{get_or}
use lib.IntN.{ℤ, pos}
use Rattle.state.specs.declared.Entries.{Entries}
use Rattle.back.specs.Board.{board}
use Rattle.back.specs.TeamBoard.{team_board}
use Rattle.reel.specs.Reel.{counts_of, reel_of}
use Rattle.going.specs.Going.{progress_of, rewind_of, go_on}
use Rattle.going.specs.declared.Go.{Go}
use Rattle.rewind_linked.specs.UnderWay.{tick_in, flag_in, three_with, two_with, go_number, under_way, GoesOn}

module _ (t : ℤ) (rows inputs formers : List ℤ) (e : Entries) (m : List ℤ) (three₀ : List ℕ) (two₀ : List ℤ) (events : ℕ) where
  -- the numbers were read back; going on answered and left x
  pub goes : (u : ℤ) → u ≡ t → (tick : Option ℤ) → tick ≡ tick_in (get_or two₀ 0 (pos 0)) → (misfit : Bool) → misfit ≡ flag_in (get_or two₀ 1 (pos 0))
      → (x : Go)
      → x ≡ go_on
      (rewind_of (team_board (board tick e) m) (reel_of (counts_of (get_or three₀ 0 0) (get_or three₀ 1 0)) rows inputs formers) (progress_of u (get_or three₀ 2 0) misfit))
      events
      → (three₁ : List ℕ) → three₁ ≡ three_with three₀ x.rewind.reel.counts x.rewind.progress.newer
      → (two₁ : List ℤ) → two₁ ≡ two_with two₀ x.rewind.board.board.tick x.rewind.progress.misfit
      → (r : ℕ) → r ≡ go_number x.answer
      → GoesOn (under_way t rows inputs formers e m three₀ two₀) events three₀ two₀ r x.rewind.board.board.entries x.rewind.board.teams three₁ two₁
  goes u same tick at misfit met x went three₁ three two₁ two r answer =
      let done : x ≡ go_on (under_way t rows inputs formers e m three₀ two₀) events = rw (same, at, met) at went in
      record {
        answer = answer ∙ ap (λ (y : Go). go_number y.answer) done;
        copy = ap (λ (y : Go). y.rewind.board.board.entries) done;
        teams = ap (λ (y : Go). y.rewind.board.teams) done;
        three = three ∙ ap (λ (y : Go). three_with three₀ y.rewind.reel.counts y.rewind.progress.newer) done;
        two = two ∙ ap (λ (y : Go). two_with two₀ y.rewind.board.board.tick y.rewind.progress.misfit) done;
      }
