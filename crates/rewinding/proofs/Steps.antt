-- Rows stepped over, one after the other. Assumes nothing.
use Prim.Native.Nat.{ℕ, zero, suc, ◌+◌, ◌-◌, ◌<◌, ◌≤◌}
use mathlib.Core.Path.{◌≡◌, refl, ap, ◌∙◌}
use mathlib.Core.Bool.{true, false, cond}
use mathlib.Core.List.{List, []}
use native.Mathlib.Omega.{arith}
use lib.Dec.{ltb}
use lib.IntN.{ℤ}
use borrow.Author.Tests.{lt-ltb}
use Rattle.fields.specs.Views.{zeros}
use Rattle.state.specs.State.{ten_of}
use Rattle.state.proofs.Numbers.{picks_first}
use Rattle.back.specs.TeamBoard.{take_off_team}
use Rattle.back.specs.Undo.{undone, former_in}
use Rattle.back.specs.declared.TeamBoard.{TeamBoard}
use Rattle.back.specs.declared.Undo.{Undo}
use Rattle.back.specs.declared.Undo.TheVariants.{Start, End, New, Change, Old, Input, Team, Nothing}
use Rattle.taking.specs.Taking.{TeamTaken, team_taken_from}
use Rattle.reel.specs.Reel.{of_input, undo_in, place_before, row_at}
use Rattle.reel.specs.declared.Reel.{Reel}
use Rattle.rewinding.specs.Rewinding.{back_row}
use Rattle.rewinding.specs.Walk.{walk}

-- the ten numbers and the former ten of a row other than an input are not looked at
any_ten : (u : Undo) (ten former : List ℤ) (b : TeamBoard)
    → take_off_team (undone u) ten former (former_in u) b ≡ take_off_team (undone u) (of_input u ten []) (of_input u former []) (former_in u) b
unfolding take_off_team
any_ten (Start t) ten former b = refl
any_ten (End t) ten former b = refl
any_ten (New c x y) ten former b = refl
any_ten (Change c x y old-x old-y) ten former b = refl
any_ten (Old c x y) ten former b = refl
any_ten (Input c had) ten former b = refl
any_ten (Team c n m) ten former b = refl
any_ten Nothing ten former b = refl

-- a place before one of the 512 is one of them
pub before_below : (p : ℕ) → p < 512 → place_before p < 512
before_below zero h = omega arith
before_below (suc p) h = omega arith

-- x is what taking the row at a place off leaves
abbrev pub off_at : Reel → ℕ → TeamBoard → TeamTaken
off_at l p b =
    let u = undo_in (ten_of l.rows p) in
    team_taken_from b (take_off_team (undone u) (ten_of l.inputs p) (ten_of l.formers p) (former_in u) b)

module _ (l : Reel) where
  off_row : (p : ℕ) (b : TeamBoard) → off_at l p b ≡ team_taken_from b (back_row (row_at l p) b)
  unfolding row_at
  off_row p b = ap (team_taken_from b) (any_ten (undo_in (ten_of l.rows p)) (ten_of l.inputs p) (ten_of l.formers p) b)

  -- of the n rows before a place, k are stepped over: x is what is left after the next
  module _ (n k p : ℕ) (left : k < n) (b : TeamBoard) (x : TeamTaken) (taken : x ≡ off_at l (place_before p) b) where
    onward : cond x.fits (walk l (n - (k + 1)) (place_before p) (k + 1) x.board) (record { taken = x; over = k; place = p }) ≡ walk l (n - k) p k b
    unfolding walk
    onward =
        let less : n - k ≡ suc (n - suc k) = omega arith in
        let more : k + 1 ≡ suc k = omega arith in
        rw (less, more)
        (ap (λ (t : TeamTaken). cond t.fits (walk l (n - suc k) (place_before p) (suc k) t.board) (record { taken = t; over = k; place = p })) (taken ∙ off_row (place_before p) b))

    pub fitted : x.fits ≡ true → walk l (n - (k + 1)) (place_before p) (k + 1) x.board ≡ walk l (n - k) p k b
    fitted e = picks_first x.fits _ _ e ∙ onward

    pub unfitted : x.fits ≡ false → record { taken = record { fits = false; board = x.board }; over = k; place = p } ≡ walk l (n - k) p k b
    unfitted e = rw e at onward

  pub none_left : (n k p : ℕ) → n ≤ k → (b : TeamBoard) → record { taken = record { fits = true; board = b }; over = k; place = p } ≡ walk l (n - k) p k b
  unfolding walk
  none_left n k p h b = let e : n - k ≡ 0 = omega arith in rw e

-- ---- what the code reads at the place before p: q is that place

read_ten : (l : List ℤ) (p q : ℕ) (r : List ℤ) → p < 512 → q ≡ place_before p → r ≡ cond (ltb q 512) (ten_of l q) (zeros 10)
    → r ≡ ten_of l (place_before p)
read_ten l p q r h e t = rw (e, lt-ltb (place_before p) 512 (before_below p h)) at t

module _ (l : Reel) (p q : ℕ) (h : p < 512) (place : q ≡ place_before p) where
  abbrev At : List ℤ → List ℤ → Type 0
  At ns r = r ≡ cond (ltb q 512) (ten_of ns q) (zeros 10)

  pub took : (b : TeamBoard) (x : TeamTaken) (ns ten old : List ℤ) (u : Undo) → At l.rows ns → u ≡ undo_in ns → At l.inputs ten → At l.formers old
      → x ≡ team_taken_from b (take_off_team (undone u) ten old (former_in u) b) → x ≡ off_at l (place_before p) b
  took b x ns ten old u r v i f t =
      let us : u ≡ undo_in (ten_of l.rows (place_before p)) = v ∙ ap undo_in (read_ten l.rows p q ns h place r) in
      let is = read_ten l.inputs p q ten h place i in
      let fs = read_ten l.formers p q old h place f in
      t ∙ (λ k. team_taken_from b (take_off_team (undone (us k)) (is k) (fs k) (former_in (us k)) b))
