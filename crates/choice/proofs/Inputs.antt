-- The records of the inputs, one client after the other: they bring a reader's inputs to the wanted ones. Assumes nothing.
use Prim.Native.Nat.{ℕ, suc, ◌+◌, ◌*◌, ◌<◌}
use mathlib.Core.Path.{◌≡◌, refl, sym, ap, ◌∙◌}
use mathlib.Core.Bool.{true, false, false≢true}
use mathlib.Core.List.{List, [], ◌∷◌}
use native.Mathlib.Omega.{arith}
use native.Mathlib.Decide.{dec_lt}
use lib.ListN.{get_or, get_or-eq_default}
use lib.Dec.{ltb, eqb}
use lib.IntN.{ℤ, pos}
use mir.Syntax.{w32}
use mir.Val.{SFits}
use borrow.Author.Tests.{lt-ltb, eqb-true}
use Rattle.num.proofs.Cases.{by_bool}
use Rattle.fields.specs.Views.{zeros}
use Rattle.kinds.specs.declared.Kind.TheVariants as kinds
use Rattle.state.specs.State.{same_int, entries_with, ten_of, with_input, ten_zeros, good_players, good_inputs, good_entries}
use Rattle.state.specs.steps.Parts.{good_input}
use Rattle.state.specs.declared.Entries.{Entries}
use Rattle.state.specs.declared.Reader.{Reader}
use Rattle.state.proofs.Ten.{ten_at, ten_length}
use Rattle.demand.proofs.Tests.{and-true, same_true, every_at, blank}
use Rattle.demand.proofs.Ten.{ten_zeros_law}
use Rattle.choice.specs.Chosen.{held_of, same_held, same_all, of_numbers, joined, input_step, input_for}
use Rattle.leading.specs.Records.{Ready}
use Rattle.leading.proofs.Theorems.{input_leads}
use Rattle.choice.proofs.Splice.{over, over_same, over_all, over_ten, over_ten_same, over_ten_all}
use Rattle.choice.proofs.Passes.{Between, Comes, none, one, so, pass}
use Rattle.choice.proofs.Players.{players_to}

-- ---- one entry

record Blank (e : Entries) (c : ℕ) : Type 0 where
  mark : get_or e.held c 0 ≡ 0
  ten : ten_of e.inputs c ≡ zeros 10

blank_input : (e : Entries) → good_entries e ≡ true → (c : ℕ) → c < 128 → eqb (get_or e.held c 0) 1 ≡ false → Blank e c
unfolding good_inputs
blank_input e g c h m =
    let p = (and-true (good_players e.marks e.xs e.ys) (good_inputs e.held e.inputs) g).1 in
    let b = blank (get_or e.held c 0) (ten_zeros e.inputs c) (every_at 128 (good_input e.held e.inputs) p c h) m in
    record { mark = b.0; ten = ten_zeros_law e.inputs c b.1 }

all_same : (a b : List ℤ) → same_all a b ≡ true → a ≡ b
unfolding same_all
all_same [] [] t = refl
all_same [] (y ∷ b) t = absurd (false≢true t)
all_same (x ∷ a) [] t = absurd (false≢true t)
all_same (x ∷ a) (y ∷ b) t =
    let s = and-true (same_int x y) (same_all a b) t in
    rw (same_true x y s.0, all_same a b s.1)

record Same (e w : Entries) (c : ℕ) : Type 0 where
  mark : get_or e.held c 0 ≡ get_or w.held c 0
  ten : ten_of e.inputs c ≡ ten_of w.inputs c

told : (e w : Entries) (c : ℕ) → same_held (held_of e c) (held_of w c) ≡ true → Same e w c
told e w c t =
    let s = and-true (eqb (get_or e.held c 0) (get_or w.held c 0)) (same_all (ten_of e.inputs c) (ten_of w.inputs c)) t in
    record { mark = eqb-true _ _ s.0; ten = all_same _ _ s.1 }

-- ten numbers of 32 bits
ten_fits : (l : List ℤ) (c : ℕ) → ((i : ℕ) → SFits w32 (get_or l i (pos 0))) → (k : ℕ) → SFits w32 (get_or (ten_of l c) k (pos 0))
ten_fits l c f k = at (dec_lt k 10)
  where
    at : Dec (k < 10) → SFits w32 (get_or (ten_of l c) k (pos 0))
    at (yes h) = rw (ten_at l c k h) (f (10 * c + k))
    at (no h) = rw (get_or-eq_default (ten_of l c) (pos 0) {n = k} (omega (arith, ten_length l c))) (record { sfits = omega arith })

-- ---- the entries before client n, on the way from e to w, whose player entries are there

abbrev inputs_to : Entries → Entries → ℕ → Entries
inputs_to e w n =
    entries_with w.marks w.xs w.ys (over 0 n w.held e.held) (over_ten n w.inputs e.inputs)

record Before (e w : Entries) (n : ℕ) (q : Reader) : Type 0 where
  holds : q.entries ≡ inputs_to e w n

module _ (e w : Entries) (b : Between e w) (ts : List ℤ) where
  inputs_start : players_to e w 128 ≡ inputs_to e w 0
  unfolding over over_ten
  inputs_start =
      let s = b.now_sizes in
      let t = b.wanted_sizes in
      let marks = over_all 0 w.marks e.marks 128 t.marks s.marks in
      let xs = over_all (pos 0) w.xs e.xs 128 t.xs s.xs in
      let ys = over_all (pos 0) w.ys e.ys 128 t.ys s.ys in
      rw (marks, xs, ys)

  inputs_end : inputs_to e w 128 ≡ w
  inputs_end =
      let s = b.now_sizes in
      let t = b.wanted_sizes in
      rw (over_all 0 w.held e.held 128 t.held s.held, over_ten_all w.inputs e.inputs 128 t.inputs s.inputs)

  module _ (q : Reader) (n : ℕ) (h : n < 128) (ready : Ready q) (i : Before e w n q) where
    stays : Same e w n → Comes (Before e w (suc n)) q ts [] ts
    stays s =
        let p : inputs_to e w n ≡ inputs_to e w (suc n) =
        rw (over_same 0 w.held e.held n s.mark, over_ten_same w.inputs e.inputs 128 n b.now_sizes.inputs h s.ten) in
        none q ready (record { holds = i.holds ∙ p })

    -- none wanted, so none now
    without : eqb (get_or w.held n 0) 1 ≡ false → Same e w n
    without c =
        let a : eqb (get_or e.held n 0) 1 ≡ false =
        by_bool (eqb (get_or e.held n 0) 1)
        (λ t. absurd (false≢true (sym c ∙ (and-true (ltb n 128) (eqb (get_or w.held n 0) 1) (b.kept n h (rw (lt-ltb n 128 h) t))).1)))
        (λ t. t) in
        let y = blank_input e b.now n h a in
        let z = blank_input w b.wanted n h c in
        record { mark = y.mark ∙ sym z.mark; ten = y.ten ∙ sym z.ten }

    writes : eqb (get_or w.held n 0) 1 ≡ true
        → Comes (Before e w (suc n)) q ts (of_numbers kinds.InputNew (pos n ∷ ten_of w.inputs n) ∷ []) ts
    unfolding over over_ten
    writes c =
        let ns = ten_of w.inputs n in
        let p : with_input q.entries n 1 ns ≡ inputs_to e w (suc n) =
        rw (eqb-true (get_or w.held n 0) 1 c) (ap (λ (k : Entries). with_input k n 1 ns) i.holds) in
        one _ (input_leads q n ns ready h (ten_length w.inputs n) (ten_fits w.inputs n b.inputs))
        (λ t _ names holds. record { holds = holds ∙ p })

    step : Comes (Before e w (suc n)) q ts (input_for e w n) ts
    unfolding input_step
    step =
        by_bool (eqb (get_or w.held n 0) 1)
        (λ c.
        by_bool (same_held (held_of e n) (held_of w n))
        (λ t. rw (c, t) (stays (told e w n t)))
        (λ t. rw (c, t) (writes c)))
        (λ c. rw c (stays (without c)))

  pub inputs_come : (r : Reader) → Ready r → r.entries ≡ players_to e w 128
      → Comes (λ t. t.entries ≡ w) r ts (joined 128 (input_for e w)) ts
  inputs_come r ready p =
      so (λ q _ i. i.holds ∙ inputs_end)
      (pass (Before e w) (λ _. ts) (input_for e w) 128 (λ q n h s k. step q n h s k) r ready (record { holds = p ∙ inputs_start }) 128 (omega arith))
