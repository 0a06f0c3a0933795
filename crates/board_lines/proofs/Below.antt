-- Lines of the clients that pass a test, put one behind the other. Assumes nothing.
use Rattle.std.specs.Prelude.{Option, Some, None}
use Prim.Native.Nat.{ℕ, zero, suc, ◌+◌, ◌*◌, ◌≤◌, ◌<◌}
use mathlib.Core.Path.{◌≡◌, refl, ap, ◌∙◌}
use mathlib.Core.Bool.{Bool, true, false, cond, ◌&&◌}
use mathlib.Core.List.{List, [], ◌∷◌, ◌++◌}
use native.Mathlib.Omega.{arith}
use native.Mathlib.Numerals.{add-one}
use borrow.Author.Tests.{lt-ltb, eq-eqb, ne_eqb}
use lib.ListN.{length, length-append}
use lib.Dec.{ltb, eqb}
use lib.IntN.{ℤ, pos}
use Rattle.packer.proofs.Joined.{two_puts, nothing_put}
use Rattle.state.specs.State.{x_of, y_of, ten_of}
use Rattle.state.specs.declared.Entries.{Entries}
use Rattle.teams.specs.Teams.{has_team, number_of, team_of}
use Rattle.lines.specs.Lines.{plain_line}
use Rattle.lines.specs.steps.Puts.{PutsText}
use Rattle.lines.proofs.Texts.{end_le}
use Rattle.row_lines.proofs.Puts.{put_size}
use Rattle.board_lines.specs.BoardLines.{team_word, player_line, input_line, team_line, lines_below}

-- ---- lengths

pub player_le : (e : Entries) (c : ℕ) → length (player_line e c) ≤ 43
player_le e c = omega (arith, end_le (pos c ∷ x_of e c ∷ y_of e c ∷ []))

pub ten_count : (l : List ℤ) (c : ℕ) → length (ten_of l c) ≡ 10
unfolding ten_of
ten_count l c = refl

pub input_le : (e : Entries) (c : ℕ) → length (input_line e c) ≤ 138
input_le e c = omega (arith, end_le (pos c ∷ ten_of e.inputs c), ten_count e.inputs c)

pub team_le : (t : List ℤ) (c : ℕ) → length (team_line t c) ≤ 29
team_le t c = omega (arith, end_le (pos c ∷ number_of t c ∷ []))

times_le : (c n m : ℕ) → c ≤ n → c * m ≤ n * m
times_le zero n m h = omega arith
times_le (suc c) zero m h = absurd (omega arith)
times_le (suc c) (suc n) m h = omega (arith, times_le c n m (omega arith))

-- ---- a line under a mark

module _ (mark : ℕ) (xs : List ℕ) (at : ℕ) (line : List ℕ) where
  pub no_line : (mark ≡ 1 → ⊥) → at ≤ length xs → PutsText xs at (cond (eqb mark 1) line []) at xs
  no_line h k = let t = ne_eqb mark 1 h in rw t (omega arith, nothing_put xs at k)

  pub one_line : mark ≡ 1 → (next : ℕ) (ys : List ℕ) → PutsText xs at line next ys
      → PutsText xs at (cond (eqb mark 1) line []) next ys
  one_line h next ys p = let t = eq-eqb mark 1 h in rw t p

-- ---- the line of a team that was looked up

module _ (c : ℕ) where
  abbrev pub line_for : Option ℤ → List ℕ
  line_for (Some n) = plain_line team_word (pos c ∷ n ∷ [])
  line_for None = []

  line_by_law : (b : Bool) (n : ℤ) → line_for (cond b (Some n) None) ≡ cond b (plain_line team_word (pos c ∷ n ∷ [])) []
  line_by_law true n = refl
  line_by_law false n = refl

  pub line_for_law : (t : List ℤ) (m : Option ℤ) → m ≡ team_of t (pos c) → line_for m ≡ cond (has_team t c) (team_line t c) []
  line_for_law t m e = ap line_for e ∙ line_by_law (has_team t c) (number_of t c)

-- ---- lines of clients

-- the test of a client below 128 is that of its mark
pub below_128 : (c : ℕ) (t : Bool) → c < 128 → (ltb c 128 && t) ≡ t
below_128 c t h = let e = lt-ltb c 128 h in simp e

-- ---- the lines of all

module _ (most : ℕ) (passes : ℕ → Bool) (line : ℕ → List ℕ) (short : (c : ℕ) → length (line c) ≤ most) where
  picked_le : (c : ℕ) (t : Bool) → length (cond t (line c) []) ≤ most
  picked_le c true = short c
  picked_le c false = omega arith

  pub lines_le : (n : ℕ) → length (lines_below n passes line) ≤ n * most
  unfolding lines_below
  lines_le zero = omega arith
  lines_le (suc n) =
      omega (arith, length-append (lines_below n passes line) (cond (passes n) (line n) []), picked_le n (passes n), lines_le n)

  -- at client c: the lines of those below it are put
  pub record Through (out₀ : List ℕ) (at c next : ℕ) (out : List ℕ) : Type 0 where
    pub below : c ≤ 128
    pub puts : PutsText out₀ at (lines_below c passes line) next out

  module _ (out₀ : List ℕ) (at : ℕ) (room : at + 128 * most ≤ length out₀) where
    pub begins : Through out₀ at 0 at out₀
    unfolding lines_below
    begins = record { below = omega arith; puts = (omega arith, nothing_put out₀ at (omega arith)) }

    module _ (c next : ℕ) (out : List ℕ) (i : Through out₀ at c next out) where
      pub same : length out ≡ length out₀
      same =
          put_size out₀ at (lines_below c passes line) next out (omega (arith, lines_le c, times_le c 128 most i.below)) i.puts

      -- there is room for one more
      pub room_left : c < 128 → next + most ≤ length out
      room_left h = omega (arith, i.puts.0, same, lines_le c, times_le (suc c) 128 most h)

      pub onward : c < 128 → (t : Bool) → passes c ≡ t → (m : ℕ) (ys : List ℕ) → PutsText out next (cond t (line c) []) m ys
          → Through out₀ at (c + 1) m ys
      unfolding lines_below
      onward h t e m ys p =
          let one = cond t (line c) [] in
          let all = lines_below c passes line in
          let fits : at + length (all ++ one) ≤ length out₀ =
          omega (arith, length-append all one, lines_le c, picked_le c t, times_le (suc c) 128 most h) in
          record { below = omega arith; puts = rw (add-one, e) (two_puts out₀ at all one fits next out i.puts m ys p) }

      pub done : 128 ≤ c → PutsText out₀ at (lines_below 128 passes line) next out
      done h = let e : c ≡ 128 = omega (arith, i.below) in rw e at i.puts
