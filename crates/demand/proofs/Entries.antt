-- Entries: they stay good where one is changed, and a change is taken back. Assumes nothing.
use Prim.Native.Nat.{ℕ, zero, suc, ◌+◌, ◌*◌, ◌≤◌, ◌<◌}
use mathlib.Core.Path.{◌≡◌}
use mathlib.Core.Bool.{Bool, true, false, not, cond, ◌&&◌}
use mathlib.Core.List.{List, [], ◌∷◌}
use native.Mathlib.Omega.{arith}
use lib.ListN.{length, get_or, set}
use lib.Seq.{get_or-set_same, set-get_or, set-set}
use lib.Dec.{ltb, eqb}
use lib.IntN.{ℤ, pos}
use borrow.Author.Tests.{eqb-true, lt-ltb}
use Rattle.state.specs.State.{same_int, present, x_of, y_of, with_player, moved, holds, ten_of, put_ten, with_input, good_players, ten_zeros, good_inputs, good_entries}
use Rattle.state.specs.steps.Parts.{good_player, good_input}
use Rattle.state.specs.Laws.{Sizes}
use Rattle.state.specs.declared.Entries.{Entries}
use Rattle.state.proofs.Ten.{ten_put, put_back}
use Rattle.back.specs.Back.{same_all, former_input}
use Rattle.demand.specs.Events.{players}
use Rattle.demand.proofs.Tests.{and-true, same_refl, same_true, same_all_refl, every_at, blank}
use Rattle.demand.proofs.Ten.{ten_zeros_law}

-- a client present at a position
abbrev present_at : Entries → ℕ → ℤ → ℤ → Bool
present_at e c x y = present e c && (same_int (x_of e c) x && same_int (y_of e c) y)

module _ (e : Entries) (z : Sizes e) (c : ℕ) (h : c < 128) where
  pub mark_set : (m : ℕ) → get_or (set e.marks c m) c 0 ≡ m
  mark_set m = get_or-set_same e.marks c m 0 (omega (arith, z.marks))

  pub x_set : (x : ℤ) → get_or (set e.xs c x) c (pos 0) ≡ x
  x_set x = get_or-set_same e.xs c x (pos 0) (omega (arith, z.xs))

  pub y_set : (y : ℤ) → get_or (set e.ys c y) c (pos 0) ≡ y
  y_set y = get_or-set_same e.ys c y (pos 0) (omega (arith, z.ys))

  held_set : (m : ℕ) → get_or (set e.held c m) c 0 ≡ m
  held_set m = get_or-set_same e.held c m 0 (omega (arith, z.held))

  ten_fits : 10 * c + 10 ≤ length e.inputs
  ten_fits = omega (arith, z.inputs)

  -- ---- a change is taken back

  player_back : (m : ℕ) (x y : ℤ) → with_player (with_player e c m x y) c (get_or e.marks c 0) (x_of e c) (y_of e c) ≡ e
  player_back m x y =
      rw (set-set e.marks c m, set-set e.xs c x, set-set e.ys c y, set-get_or e.marks c, set-get_or e.xs c, set-get_or e.ys c)

  input_back : (m : ℕ) (ns : List ℤ) → with_input (with_input e c m ns) c (get_or e.held c 0) (ten_of e.inputs c) ≡ e
  input_back m ns = rw (set-set e.held c m, set-get_or e.held c, put_back e.inputs c ns ten_fits)

  -- a player who is there and moves
  pub moved_is : (x y : ℤ) → eqb (get_or e.marks c 0) 1 ≡ true → moved e c x y ≡ with_player e c 1 x y
  moved_is x y a =
      let q : set e.marks c 1 ≡ e.marks = rw (eqb-true (get_or e.marks c 0) 1 a) at (set-get_or e.marks c 0) in
      rw q

  pub there_back : (m : ℕ) (x y : ℤ) → eqb (get_or e.marks c 0) 1 ≡ true → with_player (with_player e c m x y) c 1 (x_of e c) (y_of e c) ≡ e
  there_back m x y a = rw (eqb-true (get_or e.marks c 0) 1 a) at (player_back m x y)

  -- what a step back asks of the changed entries
  pub stands : (x y : ℤ) → present_at (with_player e c 1 x y) c x y ≡ true
  stands x y = rw (lt-ltb c 128 h, mark_set 1, x_set x, y_set y, same_refl x, same_refl y)

  pub gone : ltb c 128 && not (present (with_player e c 0 (pos 0) (pos 0)) c) ≡ true
  gone = rw (lt-ltb c 128 h, mark_set 0)

  pub held_now : (ns : List ℤ) → length ns ≡ 10 → holds (with_input e c 1 ns) c && same_all (ten_of (put_ten e.inputs c ns) c) ns ≡ true
  held_now ns ten = rw (lt-ltb c 128 h, held_set 1, ten_put e.inputs c ns ten_fits ten) (same_all_refl ns)

  -- ---- good entries

  module _ (g : good_entries e ≡ true) where
    both : (good_players e.marks e.xs e.ys ≡ true) × (good_inputs e.held e.inputs ≡ true)
    both = and-true _ _ g

    player_at_law : (i : ℕ) → i < 128 → good_player e.marks e.xs e.ys i ≡ true
    unfolding good_players
    player_at_law i l = every_at 128 (good_player e.marks e.xs e.ys) both.0 i l

    input_at : (i : ℕ) → i < 128 → good_input e.held e.inputs i ≡ true
    unfolding good_inputs
    input_at i l = every_at 128 (good_input e.held e.inputs) both.1 i l

    -- a player who was absent
    pub absent_back : (x y : ℤ) → eqb (get_or e.marks c 0) 1 ≡ false → with_player (with_player e c 1 x y) c 0 (pos 0) (pos 0) ≡ e
    absent_back x y a =
        let b = blank (get_or e.marks c 0) (same_int (x_of e c) (pos 0) && same_int (y_of e c) (pos 0)) (player_at_law c h) a in
        let s = and-true (same_int (x_of e c) (pos 0)) (same_int (y_of e c) (pos 0)) b.1 in
        rw (b.0, same_true (x_of e c) (pos 0) s.0, same_true (y_of e c) (pos 0) s.1) at (player_back 1 x y)

    -- an input, where there was one or none
    pub former_back : (ns : List ℤ) (had : Bool) → eqb (get_or e.held c 0) 1 ≡ had
        → former_input (with_input e c 1 ns) c had (ten_of e.inputs c) ≡ e
    former_back ns true a = rw (eqb-true (get_or e.held c 0) 1 a) at (input_back 1 ns)
    former_back ns false a =
        let b = blank (get_or e.held c 0) (ten_zeros e.inputs c) (input_at c h) a in
        rw (b.0, ten_zeros_law e.inputs c b.1) at (input_back 1 ns)

-- ---- how many are present

abbrev one : ℕ → ℕ
one m = cond (eqb m 1) 1 0

pub players_set : (l : List ℕ) (c m : ℕ) → c < length l → players (set l c m) + one (get_or l c 0) ≡ players l + one m
unfolding players
players_set [] c m h = absurd (omega arith)
players_set (a ∷ l) zero m h = omega arith
players_set (a ∷ l) (suc c) m h = omega (arith, players_set l c m (omega arith))
