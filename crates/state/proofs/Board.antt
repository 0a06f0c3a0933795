-- Changes of entries: good entries stay good, lengths stay. Assumes nothing.
use Prim.Native.Nat.{ℕ, zero, suc, ◌+◌, ◌*◌, ◌<◌}
use mathlib.Core.Path.{◌≡◌, refl, ap, ◌∙◌}
use mathlib.Core.Bool.{Bool, true, false, cond, ◌&&◌}
use mathlib.Core.List.{List, [], ◌∷◌}
use native.Mathlib.Omega.{arith}
use lib.ListN.{length, get_or, set, length-set, replicate, length-replicate, get_or-replicate}
use lib.Seq.{get_or-set_same, get_or-set_other}
use lib.Dec.{eqb}
use lib.IntN.{ℤ, pos}
use borrow.Author.Tests.{eqb-true, eqb-false}
use Rattle.num.proofs.Cases.{by_bool}
use Rattle.fields.specs.Views.{zeros}
use Rattle.fields.proofs.Answers.{and_both}
use Rattle.state.specs.State.{
  put_ten,
  with_player,
  moved,
  with_input,
  good_entry,
  good_players,
  ten_zeros,
  good_inputs,
  good_entries,
  no_entries,
}
use Rattle.state.specs.steps.Parts.{good_player, zero_at, good_input}
use Rattle.state.specs.Laws.{Sizes}
use Rattle.state.specs.declared.Entries.{Entries}
use Rattle.state.proofs.Every.{left_of_law, right_of, every_from, every_map}
use Rattle.state.proofs.Ten.{put_length, put_other}

-- ---- players

default_at : {A : Type 0} (l : List A) (i : ℕ) (d : A) → get_or (set l i d) i d ≡ d
default_at [] i d = refl
default_at (x ∷ l) zero d = refl
default_at (x ∷ l) (suc i) d = default_at l i d

marked : (m : ℕ) (b : Bool) → m ≡ 1 → good_entry m b ≡ true
marked m b e = rw e

module _ (marks : List ℕ) (xs ys : List ℤ) (c : ℕ) (good : good_players marks xs ys ≡ true) where
  moved_good : (x y : ℤ) → get_or marks c 0 ≡ 1 → good_players marks (set xs c x) (set ys c y) ≡ true
  unfolding good_players
  moved_good x y mark =
      every_map 128 (good_player marks xs ys) (good_player marks (set xs c x) (set ys c y))
      (λ i h e. by_bool (eqb i c)
      (λ t. marked (get_or marks i 0) _ (ap (λ (j : ℕ). get_or marks j 0) (eqb-true i c t) ∙ mark))
      (λ t. rw (get_or-set_other xs c i x (pos 0) (eqb-false i c t), get_or-set_other ys c i y (pos 0) (eqb-false i c t)) e))
      good

  placed_good : (x y : ℤ) → c < length marks → good_players (set marks c 1) (set xs c x) (set ys c y) ≡ true
  unfolding good_players
  placed_good x y within =
      every_map 128 (good_player marks xs ys) (good_player (set marks c 1) (set xs c x) (set ys c y))
      (λ i h e. by_bool (eqb i c)
      (λ t.
      marked (get_or (set marks c 1) i 0) _
      (ap (λ (j : ℕ). get_or (set marks c 1) j 0) (eqb-true i c t) ∙ get_or-set_same marks c 1 0 within))
      (λ t.
      rw (get_or-set_other marks c i 1 0 (eqb-false i c t), get_or-set_other xs c i x (pos 0) (eqb-false i c t), get_or-set_other ys c i y (pos 0) (eqb-false i c t)) e))
      good

  cleared_good : good_players (set marks c 0) (set xs c (pos 0)) (set ys c (pos 0)) ≡ true
  unfolding good_players
  cleared_good =
      every_map 128 (good_player marks xs ys) (good_player (set marks c 0) (set xs c (pos 0)) (set ys c (pos 0)))
      (λ i h e. by_bool (eqb i c)
      (λ t. rw (eqb-true i c t, default_at marks c 0, default_at xs c (pos 0), default_at ys c (pos 0)))
      (λ t.
      rw (get_or-set_other marks c i 0 0 (eqb-false i c t), get_or-set_other xs c i (pos 0) (pos 0) (eqb-false i c t), get_or-set_other ys c i (pos 0) (pos 0) (eqb-false i c t)) e))
      good

-- ---- inputs

tens_other : (l : List ℤ) (c i : ℕ) (ns : List ℤ) → (i ≡ c → ⊥) → ten_zeros l i ≡ true → ten_zeros (put_ten l c ns) i ≡ true
unfolding ten_zeros
tens_other l c i ns o e = every_map 10 (zero_at l i) (zero_at (put_ten l c ns) i) (λ j h z. rw (put_other l c ns i j o h) z) e

entry_map : (p q a b : Bool) → (a ≡ true → b ≡ true) → cond p true (q && a) ≡ true → cond p true (q && b) ≡ true
entry_map true q a b f e = refl
entry_map false true a b f e = f e
entry_map false false a b f e = e

input_good : (held : List ℕ) (inputs : List ℤ) (c : ℕ) (ns : List ℤ) → good_inputs held inputs ≡ true → c < length held
    → good_inputs (set held c 1) (put_ten inputs c ns) ≡ true
unfolding good_inputs
input_good held inputs c ns good within =
    every_map 128 (good_input held inputs) (good_input (set held c 1) (put_ten inputs c ns))
    (λ i h e. by_bool (eqb i c)
    (λ t. marked (get_or (set held c 1) i 0) _ (ap (λ (j : ℕ). get_or (set held c 1) j 0) (eqb-true i c t) ∙ get_or-set_same held c 1 0 within))
    (λ t.
    rw (get_or-set_other held c i 1 0 (eqb-false i c t))
    (entry_map (eqb (get_or held i 0) 1) (eqb (get_or held i 0) 0) (ten_zeros inputs i) (ten_zeros (put_ten inputs c ns) i)
    (tens_other inputs c i ns (eqb-false i c t)) e)))
    good

-- ---- entries

module _ (e : Entries) (good : good_entries e ≡ true) (c : ℕ) where
  players_good : good_players e.marks e.xs e.ys ≡ true
  players_good = left_of_law (good_players e.marks e.xs e.ys) (good_inputs e.held e.inputs) good

  inputs_good : good_inputs e.held e.inputs ≡ true
  inputs_good = right_of (good_players e.marks e.xs e.ys) (good_inputs e.held e.inputs) good

  pub good_moved : (x y : ℤ) → get_or e.marks c 0 ≡ 1 → good_entries (moved e c x y) ≡ true
  good_moved x y mark = and_both _ _ (moved_good e.marks e.xs e.ys c players_good x y mark) inputs_good

  pub good_placed : (x y : ℤ) → c < length e.marks → good_entries (with_player e c 1 x y) ≡ true
  good_placed x y h = and_both _ _ (placed_good e.marks e.xs e.ys c players_good x y h) inputs_good

  pub good_cleared : good_entries (with_player e c 0 (pos 0) (pos 0)) ≡ true
  good_cleared = and_both _ _ (cleared_good e.marks e.xs e.ys c players_good) inputs_good

  pub good_input_law : (ns : List ℤ) → c < length e.held → good_entries (with_input e c 1 ns) ≡ true
  good_input_law ns h = and_both _ _ players_good (input_good e.held e.inputs c ns inputs_good h)

module _ (e : Entries) (s : Sizes e) (c : ℕ) where
  pub size_moved : (x y : ℤ) → Sizes (moved e c x y)
  size_moved x y =
      record { marks = s.marks; xs = length-set e.xs c x ∙ s.xs; ys = length-set e.ys c y ∙ s.ys; held = s.held; inputs = s.inputs }

  pub size_player : (mark : ℕ) (x y : ℤ) → Sizes (with_player e c mark x y)
  size_player mark x y =
      record {
        marks = length-set e.marks c mark ∙ s.marks;
        xs = length-set e.xs c x ∙ s.xs;
        ys = length-set e.ys c y ∙ s.ys;
        held = s.held;
        inputs = s.inputs;
      }

  pub size_input : (mark : ℕ) (ns : List ℤ) → Sizes (with_input e c mark ns)
  unfolding put_ten
  size_input mark ns =
      record {
        marks = s.marks;
        xs = s.xs;
        ys = s.ys;
        held = length-set e.held c mark ∙ s.held;
        inputs = put_length e.inputs c ns ∙ s.inputs;
      }

-- ---- nobody is there

no_players : good_players (replicate {A = ℕ} 128 0) (zeros 128) (zeros 128) ≡ true
unfolding good_players
no_players =
    every_from 128 (good_player (replicate {A = ℕ} 128 0) (zeros 128) (zeros 128))
    (λ i h. rw (get_or-replicate {A = ℕ} 128 i 0 0 h, get_or-replicate {A = ℤ} 128 i (pos 0) (pos 0) h))

no_ten : (i : ℕ) → i < 128 → ten_zeros (zeros 1280) i ≡ true
unfolding ten_zeros
no_ten i h = every_from 10 (zero_at (zeros 1280) i) (λ j k. rw (get_or-replicate {A = ℤ} 1280 (10 * i + j) (pos 0) (pos 0) (omega arith)))

no_inputs : good_inputs (replicate {A = ℕ} 128 0) (zeros 1280) ≡ true
unfolding good_inputs
no_inputs =
    every_from 128 (good_input (replicate {A = ℕ} 128 0) (zeros 1280)) (λ i h. rw (get_or-replicate {A = ℕ} 128 i 0 0 h, no_ten i h))

pub none_good : good_entries no_entries ≡ true
unfolding no_entries
none_good = and_both _ _ no_players no_inputs

pub none_sizes : Sizes no_entries
unfolding no_entries
none_sizes =
    record {
      marks = length-replicate {A = ℕ} 128 0;
      xs = length-replicate {A = ℤ} 128 (pos 0);
      ys = length-replicate {A = ℤ} 128 (pos 0);
      held = length-replicate {A = ℕ} 128 0;
      inputs = length-replicate {A = ℤ} 1280 (pos 0);
    }
