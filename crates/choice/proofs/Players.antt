-- The records of the player entries, one client after the other: they bring a reader's player entries to the wanted ones. Assumes nothing.
use Rattle.std.specs.Prelude.{Some}
use Prim.Native.Nat.{ℕ, suc, ◌≤◌, ◌<◌}
use mathlib.Core.Path.{◌≡◌, refl, sym, ap, ◌∙◌}
use mathlib.Core.Bool.{true, false}
use mathlib.Core.List.{List, [], ◌∷◌}
use native.Mathlib.Omega.{arith}
use lib.ListN.{get_or}
use lib.Dec.{eqb}
use lib.IntN.{ℤ, pos, negsuc, ◌+ℤ◌, ◌-ℤ◌, +ℤ_comm, -ℤ-+ℤ_cancel}
use mir.Syntax.{w32}
use mir.Val.{Fits, SFits}
use mir.Facts.{sfits_to_z}
use borrow.Author.Tests.{lt-ltb, eqb-true}
use Rattle.num.specs.Wrap.{residue, wrap32}
use Rattle.num.proofs.Cases.{by_bool}
use Rattle.kinds.specs.declared.Kind.TheVariants as kinds
use Rattle.written.specs.Written.{write_content}
use Rattle.state.specs.State.{entries_with, present, x_of, y_of, with_player, moved, zero_in, good_players, good_inputs, good_entries}
use Rattle.state.specs.steps.Parts.{good_player}
use Rattle.state.specs.declared.Entries.{Entries}
use Rattle.state.specs.declared.Reader.{Reader}
use Rattle.demand.proofs.Wrap.{wrap_add, wrap_fits}
use Rattle.demand.proofs.Tests.{and-true, same_true, every_at, blank}
use Rattle.demand.proofs.Entries.{moved_is}
use Rattle.choice.specs.Chosen.{Rec, player_of, same_player, of_numbers, joined, player_step, player_for}
use Rattle.leading.specs.Records.{Ready, Rises, Leaves}
use Rattle.leading.proofs.Theorems.{new_leads, diff_leads, old_leads}
use Rattle.choice.proofs.Splice.{over, over_at, over_same}
use Rattle.choice.proofs.Passes.{Between, Comes, none, one, pass}

-- ---- differences modulo 2 ^ 32

residue_fits : (z : ℤ) → Fits w32 (residue z)
residue_fits (pos n) = record { fits = omega arith }
residue_fits (negsuc n) = record { fits = omega arith }

wrap_within : (z : ℤ) → SFits w32 (wrap32 z)
wrap_within z = sfits_to_z (residue_fits z)

back_by : (x y : ℤ) → SFits w32 y → wrap32 (x +ℤ wrap32 (y -ℤ x)) ≡ y
back_by x y f =
    ap wrap32 (+ℤ_comm x (wrap32 (y -ℤ x))) ∙ wrap_add (y -ℤ x) x ∙ ap wrap32 (-ℤ-+ℤ_cancel y x) ∙ wrap_fits y f

-- ---- one entry

-- the entry of a client without a mark
record Blank (e : Entries) (c : ℕ) : Type 0 where
  mark : get_or e.marks c 0 ≡ 0
  x : x_of e c ≡ pos 0
  y : y_of e c ≡ pos 0

blank_player : (e : Entries) → good_entries e ≡ true → (c : ℕ) → c < 128 → eqb (get_or e.marks c 0) 1 ≡ false → Blank e c
unfolding good_players
blank_player e g c h m =
    let p = (and-true (good_players e.marks e.xs e.ys) (good_inputs e.held e.inputs) g).0 in
    let b = blank (get_or e.marks c 0) _ (every_at 128 (good_player e.marks e.xs e.ys) p c h) m in
    let s = and-true (zero_in e.xs c) (zero_in e.ys c) b.1 in
    record { mark = b.0; x = same_true _ _ s.0; y = same_true _ _ s.1 }

record Same (e w : Entries) (c : ℕ) : Type 0 where
  mark : get_or e.marks c 0 ≡ get_or w.marks c 0
  x : x_of e c ≡ x_of w c
  y : y_of e c ≡ y_of w c

told : (e w : Entries) (c : ℕ) → same_player (player_of e c) (player_of w c) ≡ true → Same e w c
told e w c t =
    let a = and-true _ _ t in
    let b = and-true _ _ a.1 in
    record { mark = eqb-true _ _ a.0; x = same_true _ _ b.0; y = same_true _ _ b.1 }

-- ---- the entries before client n, on the way from e to w

abbrev pub players_to : Entries → Entries → ℕ → Entries
players_to e w n =
    entries_with (over 0 n w.marks e.marks) (over (pos 0) n w.xs e.xs) (over (pos 0) n w.ys e.ys) e.held e.inputs

-- and each client whose entry is to change from here on is above the remembered one
pub record Before (e w : Entries) (n : ℕ) (q : Reader) : Type 0 where
  pub holds : q.entries ≡ players_to e w n
  pub rises : (c : ℕ) → n ≤ c → c < 128 → same_player (player_of e c) (player_of w c) ≡ false → Rises q c

module _ (e w : Entries) (b : Between e w) (ts : List ℤ) (q : Reader) (n : ℕ) (h : n < 128) (ready : Ready q) (i : Before e w n q) where
  mark_is : get_or q.entries.marks n 0 ≡ get_or e.marks n 0
  mark_is = ap (λ (k : Entries). get_or k.marks n 0) i.holds ∙ over_at 0 w.marks e.marks n n (omega arith)

  x_is : x_of q.entries n ≡ x_of e n
  x_is = ap (λ (k : Entries). x_of k n) i.holds ∙ over_at (pos 0) w.xs e.xs n n (omega arith)

  y_is : y_of q.entries n ≡ y_of e n
  y_is = ap (λ (k : Entries). y_of k n) i.holds ∙ over_at (pos 0) w.ys e.ys n n (omega arith)

  present_is : present q.entries n ≡ eqb (get_or e.marks n 0) 1
  present_is = rw (lt-ltb n 128 h, mark_is)

  -- the wanted entry, put in
  placed : (m : ℕ) (x y : ℤ) → get_or w.marks n 0 ≡ m → x_of w n ≡ x → y_of w n ≡ y
      → with_player q.entries n m x y ≡ players_to e w (suc n)
  unfolding over
  placed m x y em ex ey = rw (em, ex, ey) (ap (λ (k : Entries). with_player k n m x y) i.holds)

  -- by a record of client n
  by_record : (c : Rec) {k : Entries} → Leaves q (write_content c) (Some (pos n)) k → k ≡ players_to e w (suc n)
      → Comes (Before e w (suc n)) q ts (c ∷ []) ts
  by_record c l p =
      one c l (λ t _ names holds. record { holds = holds ∙ p; rises = λ d a _ _. rw (names, lt-ltb n d (omega arith)) })

  -- without one
  stays : Same e w n → Comes (Before e w (suc n)) q ts [] ts
  stays s =
      let p : players_to e w n ≡ players_to e w (suc n) =
      let marks = over_same 0 w.marks e.marks n s.mark in
      let xs = over_same (pos 0) w.xs e.xs n s.x in
      let ys = over_same (pos 0) w.ys e.ys n s.y in
      rw (marks, xs, ys) in
      none q ready (record { holds = i.holds ∙ p; rises = λ d a k t. i.rises d (omega arith) k t })

  module _ (differs : same_player (player_of e n) (player_of w n) ≡ false) where
    rises_here : Rises q n
    rises_here = i.rises n (omega arith) h differs

    -- by differences of 32 bits that bring it there
    moves : (dx dy : ℤ) → SFits w32 dx → SFits w32 dy → wrap32 (x_of e n +ℤ dx) ≡ x_of w n → wrap32 (y_of e n +ℤ dy) ≡ y_of w n
        → eqb (get_or e.marks n 0) 1 ≡ true → eqb (get_or w.marks n 0) 1 ≡ true
        → Comes (Before e w (suc n)) q ts (of_numbers (kinds.PlayerDiff (pos n)) (dx ∷ dy ∷ []) ∷ []) ts
    moves dx dy fx fy ex ey a c =
        let to-x : wrap32 (x_of q.entries n +ℤ dx) ≡ x_of w n = ap (λ (z : ℤ). wrap32 (z +ℤ dx)) x_is ∙ ex in
        let to-y : wrap32 (y_of q.entries n +ℤ dy) ≡ y_of w n = ap (λ (z : ℤ). wrap32 (z +ℤ dy)) y_is ∙ ey in
        let p : moved q.entries n (wrap32 (x_of q.entries n +ℤ dx)) (wrap32 (y_of q.entries n +ℤ dy)) ≡ players_to e w (suc n) =
        (λ k. moved q.entries n (to-x k) (to-y k))
        ∙ moved_is q.entries ready.sound.sizes n h (x_of w n) (y_of w n) (ap (λ (m : ℕ). eqb m 1) mark_is ∙ a)
        ∙ placed 1 (x_of w n) (y_of w n) (eqb-true _ _ c) refl refl in
        by_record _
        (diff_leads q n dx dy ready h rises_here fx fy (present_is ∙ a)) p

    leaves : eqb (get_or e.marks n 0) 1 ≡ true → eqb (get_or w.marks n 0) 1 ≡ false
        → Comes (Before e w (suc n)) q ts (of_numbers (kinds.PlayerOld (pos n)) [] ∷ []) ts
    leaves a c =
        let z = blank_player w b.wanted n h c in
        by_record _ (old_leads q n ready h rises_here (present_is ∙ a)) (placed 0 (pos 0) (pos 0) z.mark z.x z.y)

    comes : eqb (get_or e.marks n 0) 1 ≡ false → eqb (get_or w.marks n 0) 1 ≡ true
        → Comes (Before e w (suc n)) q ts (of_numbers (kinds.PlayerNew (pos n)) (x_of w n ∷ y_of w n ∷ []) ∷ []) ts
    comes a c =
        by_record _ (new_leads q n (x_of w n) (y_of w n) ready h rises_here (b.xs n) (b.ys n) (present_is ∙ a))
        (placed 1 (x_of w n) (y_of w n) (eqb-true _ _ c) refl refl)

    nobody : eqb (get_or e.marks n 0) 1 ≡ false → eqb (get_or w.marks n 0) 1 ≡ false → Comes (Before e w (suc n)) q ts [] ts
    nobody a c =
        let y = blank_player e b.now n h a in
        let z = blank_player w b.wanted n h c in
        stays (record { mark = y.mark ∙ sym z.mark; x = y.x ∙ sym z.x; y = y.y ∙ sym z.y })

    changes_it : Comes (Before e w (suc n)) q ts (player_for e w n) ts
    unfolding player_step
    changes_it =
        rw differs
        (by_bool (eqb (get_or e.marks n 0) 1)
        (λ a. by_bool (eqb (get_or w.marks n 0) 1) (λ c. rw (a, c) (moves _ _ (wrap_within (x_of w n -ℤ x_of e n)) (wrap_within (y_of w n -ℤ y_of e n)) (back_by (x_of e n) (x_of w n) (b.xs n)) (back_by (y_of e n) (y_of w n) (b.ys n)) a c)) (λ c. rw (a, c) (leaves a c)))
        (λ a. by_bool (eqb (get_or w.marks n 0) 1) (λ c. rw (a, c) (comes a c)) (λ c. rw (a, c) (nobody a c))))

  step : Comes (Before e w (suc n)) q ts (player_for e w n) ts
  unfolding player_step
  step = by_bool (same_player (player_of e n) (player_of w n)) (λ t. rw t (stays (told e w n t))) (λ t. changes_it t)

module _ (e w : Entries) (b : Between e w) (ts : List ℤ) where
  pub players_come : (r : Reader) → Ready r → Before e w 0 r → Comes (Before e w 128) r ts (joined 128 (player_for e w)) ts
  players_come r ready i =
      pass (Before e w) (λ _. ts) (player_for e w) 128 (λ q n h s k. step e w b ts q n h s k) r ready i 128 (omega arith)
