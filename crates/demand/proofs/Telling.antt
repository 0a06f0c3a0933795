-- What the events tell of the entries is kept by each event. Assumes nothing.
use Prim.Native.Nat.{ℕ, ◌+◌, ◌<◌}
use mathlib.Core.Path.{◌≡◌, refl, sym, ◌∙◌, ap, subst}
use mathlib.Core.Bool.{Bool, true, false, false≢true}
use mathlib.Core.List.{List, ◌∷◌}
use native.Mathlib.Omega.{arith}
use native.Mathlib.Decide.{ℕ_discrete}
use lib.ListN.{get_or, set, take}
use lib.Seq.{get_or-set_other}
use lib.Dec.{eqb}
use lib.IntN.{ℤ, pos, negsuc, ◌+ℤ◌}
use borrow.Author.Tests.{ne_eqb, lt-ltb}
use mir.Syntax.{w32}
use mir.Val.{SFits}
use Rattle.num.specs.Wrap.{wrap32}
use Rattle.state.specs.State.{same_int, present, x_of, y_of, with_player, with_input}
use Rattle.state.specs.Reading.{Event, player_new, player_change, player_old}
use Rattle.state.specs.Laws.{Sizes}
use Rattle.state.specs.declared.Entries.{Entries}
use Rattle.calls.specs.Calls.{Seen}
use Rattle.demand.specs.Events.{
  is_new,
  is_old,
  count,
  present_after,
  is_present,
  difference,
  sum_after,
  sum_of,
  players,
}
use Rattle.demand.specs.Boards.{Told}
use Rattle.demand.proofs.Wrap.{wrap_fits, wrap_add}
use Rattle.demand.proofs.Tests.{same_refl}
use Rattle.demand.proofs.Entries.{mark_set, x_set, y_set, players_set}

-- an event beside which ten numbers and former ones stand
abbrev pub seen : Bool → List ℕ → ℕ → Event → List ℤ → List ℤ → Seen
seen pending w n e ten former = record { event = e; window = w; used = n; pending = pending; ten = ten; former = former }

-- modulo 2 ^ 32 per coordinate
abbrev at : ℤ × ℤ → ℤ × ℤ
at p = (wrap32 p.0, wrap32 p.1)

-- an input changes nothing of this
pub told_input : (e : Entries) (c m : ℕ) (ns : List ℤ) (h : List Seen) → Told e h → Told (with_input e c m ns) h
told_input e c m ns h t =
    record { number = t.number; presence = t.presence; negative = t.negative; position = t.position }

-- an event of no player
pub told_other : (e : Entries) (s : Seen) (h : List Seen) → ((c : ℤ) (b : Bool) → present_after c s.event b ≡ b)
    → ((c : ℤ) (d b : ℤ × ℤ) → sum_after c s.event d b ≡ b) → is_new s.event ≡ 0 → is_old s.event ≡ 0 → Told e h → Told e (s ∷ h)
unfolding count is_present sum_of
told_other e s h p q a b t =
    record {
      number = omega (arith, t.number);
      presence = λ c. rw (p (pos c) (is_present (pos c) h)) (t.presence c);
      negative = λ c. rw (p (negsuc c) (is_present (negsuc c) h)) (t.negative c);
      position =
          λ c.
          rw (p (pos c) (is_present (pos c) h), q (pos c) (difference (take s.used s.window)) (sum_of (pos c) h)) (t.position c);
    }

-- an event says nothing of client c
record Quiet (s : Seen) (c : ℤ) : Type 0 where
  present : (b : Bool) → present_after c s.event b ≡ b
  sum : (d b : ℤ × ℤ) → sum_after c s.event d b ≡ b

-- an event of client k, which leaves the mark m at x, y
module _ (e : Entries) (z : Sizes e) (k : ℕ) (hk : k < 128) (h : List Seen) (t : Told e h) (s : Seen)
    (quiet : (c : ℤ) → same_int c (pos k) ≡ false → Quiet s c) (m : ℕ) (x y : ℤ) where
  -- whether the client is present after it, and the sum then
  abbrev here : Bool
  here = present_after (pos k) s.event (is_present (pos k) h)

  abbrev sum : ℤ × ℤ
  sum = sum_after (pos k) s.event (difference (take s.used s.window)) (sum_of (pos k) h)

  has : (c : ℕ) → eqb m 1 ≡ here → Dec (c ≡ k) → present (with_player e k m x y) c ≡ is_present (pos c) (s ∷ h)
  unfolding is_present
  has c p (yes i) =
      subst (λ (v : ℕ). present (with_player e k m x y) v ≡ is_present (pos v) (s ∷ h)) (sym i)
      (rw (lt-ltb k 128 hk, mark_set e z k hk m) p)
  has c p (no i) =
      rw ((quiet (pos c) (ne_eqb c k i)).present (is_present (pos c) h), get_or-set_other e.marks k c m 0 i) (t.presence c)

  stands : (c : ℕ) → (here ≡ true → ◌≡◌ {A = ℤ × ℤ} (x, y) (at sum)) → Dec (c ≡ k) → is_present (pos c) (s ∷ h) ≡ true
      → ◌≡◌ {A = ℤ × ℤ} (x_of (with_player e k m x y) c, y_of (with_player e k m x y) c) (at (sum_of (pos c) (s ∷ h)))
  unfolding is_present sum_of
  stands c q (yes i) =
      subst
      (λ (v : ℕ).
      is_present (pos v) (s ∷ h) ≡ true
      → ◌≡◌ {A = ℤ × ℤ} (x_of (with_player e k m x y) v, y_of (with_player e k m x y) v) (at (sum_of (pos v) (s ∷ h)))) (sym i)
      (rw (x_set e z k hk x, y_set e z k hk y) q)
  stands c q (no i) =
      let u = quiet (pos c) (ne_eqb c k i) in
      rw (u.present (is_present (pos c) h), u.sum (difference (take s.used s.window)) (sum_of (pos c) h), get_or-set_other e.xs k c x (pos 0) i, get_or-set_other e.ys k c y (pos 0) i)
      (t.position c)

  told_player : eqb m 1 ≡ here → (here ≡ true → ◌≡◌ {A = ℤ × ℤ} (x, y) (at sum))
      → players (set e.marks k m) + count is_old (s ∷ h) ≡ count is_new (s ∷ h)
      → Told (with_player e k m x y) (s ∷ h)
  unfolding is_present
  told_player p q r =
      record {
        number = r;
        presence = λ c. has c p (ℕ_discrete c k);
        negative = λ c. rw ((quiet (negsuc c) refl).present (is_present (negsuc c) h)) (t.negative c);
        position = λ c. stands c q (ℕ_discrete c k);
      }

-- a wrapped sum, and one more difference
grown : (a d x : ℤ) → x ≡ wrap32 a → wrap32 (x +ℤ d) ≡ wrap32 (a +ℤ d)
grown a d x e = ap (λ (v : ℤ). wrap32 (v +ℤ d)) e ∙ wrap_add a d

pair : {a b x y : ℤ} → a ≡ x → b ≡ y → ◌≡◌ {A = ℤ × ℤ} (a, b) (x, y)
pair p q = rw (p, q)

-- the three events of a client k
module _ (e : Entries) (z : Sizes e) (k : ℕ) (hk : k < 128) (h : List Seen) (t : Told e h) (pending : Bool) (w : List ℕ) (n : ℕ) (ten former : List ℤ) where
  was : eqb (get_or e.marks k 0) 1 ≡ true → is_present (pos k) h ≡ true
  was p = sym (t.presence k) ∙ rw (lt-ltb k 128 hk) p

  pub told_new : (x y : ℤ) → eqb (get_or e.marks k 0) 1 ≡ false → SFits w32 x → SFits w32 y
      → Told (with_player e k 1 x y) (seen pending w n (player_new (pos k) x y) ten former ∷ h)
  unfolding count
  told_new x y a fx fy =
      told_player e z k hk h t (seen pending w n (player_new (pos k) x y) ten former)
      (λ c o. record { present = λ b. rw o; sum = λ d b. rw o }) 1 x y
      (rw (same_refl (pos k)))
      (λ q. rw (same_refl (pos k)) (pair (sym (wrap_fits x fx)) (sym (wrap_fits y fy))))
      (let l = rw a at (players_set e.marks k 1 (omega (arith, z.marks))) in omega (arith, t.number))

  pub told_old : (x y : ℤ) → eqb (get_or e.marks k 0) 1 ≡ true
      → Told (with_player e k 0 (pos 0) (pos 0)) (seen pending w n (player_old (pos k) x y) ten former ∷ h)
  unfolding count
  told_old x y a =
      told_player e z k hk h t (seen pending w n (player_old (pos k) x y) ten former)
      (λ c o. record { present = λ b. rw o; sum = λ d b. refl }) 0 (pos 0) (pos 0)
      (rw (same_refl (pos k)))
      (λ q. absurd (false≢true (rw (same_refl (pos k)) at q)))
      (let l = rw a at (players_set e.marks k 0 (omega (arith, z.marks))) in omega (arith, t.number))

  pub told_change : (dx dy : ℤ) → eqb (get_or e.marks k 0) 1 ≡ true → difference (take n w) ≡ (dx, dy)
      → (x y : ℤ) → x ≡ wrap32 (x_of e k +ℤ dx) → y ≡ wrap32 (y_of e k +ℤ dy)
      → Told (with_player e k 1 x y) (seen pending w n (player_change (pos k) x y (x_of e k) (y_of e k)) ten former ∷ h)
  unfolding count
  told_change dx dy a d x y ex ey =
      let p = t.position k (was a) in
      told_player e z k hk h t (seen pending w n (player_change (pos k) x y (x_of e k) (y_of e k)) ten former)
      (λ c o. record { present = λ b. refl; sum = λ d b. rw o }) 1 x y
      (sym (was a))
      (λ q.
      rw (d, same_refl (pos k))
      (pair
      (ex ∙ grown (sum_of (pos k) h).0 dx (x_of e k) (ap (λ (v : ℤ × ℤ). v.0) p))
      (ey ∙ grown (sum_of (pos k) h).1 dy (y_of e k) (ap (λ (v : ℤ × ℤ). v.1) p))))
      (let l = rw a at (players_set e.marks k 1 (omega (arith, z.marks))) in omega (arith, t.number))
