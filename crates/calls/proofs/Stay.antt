-- While a tick is under way, player entries at or below the remembered client stay as they are: a clause for each act, then any list of
-- calls. Assumes nothing.
use Rattle.std.specs.Prelude.{Option, Some, None}
use Prim.Native.Nat.{ℕ}
use mathlib.Core.Path.{◌≡◌, refl, sym, ap, ◌∙◌}
use mathlib.Core.Bool.{Bool, true, false, not, false≢true}
use mathlib.Core.List.{List}
use native.Mathlib.Omega.{arith}
use lib.Seq.{get_or-set_other}
use lib.Dec.{ltb}
use lib.IntN.{ℤ, pos, negsuc}
use lib.Signed.{lt_z}
use borrow.Author.Tests.{ltb-true, ltb-false, not-true, not-false, le-ltb}
use Rattle.kinds.specs.declared.Kind.{Kind}
use Rattle.kinds.specs.declared.Kind.TheVariants as kinds
use Rattle.fields.specs.Fields.{got}
use Rattle.refusal.specs.declared.Refusal.{Refusal}
use Rattle.state.specs.State.{with_player, moved, ten_of, with_input}
use Rattle.state.specs.declared.Memory.{Memory}
use Rattle.state.specs.Reading.{Step, is_closed, closing, raising, naming, ending, skipping, sums, at_or_below, next_kind}
use Rattle.state.specs.steps.Parts.{memory_of}
use Rattle.state.specs.Acts.{HadKind, wants_tick, MayCome, WhyPlayer, Act}
use Rattle.state.specs.Acts as act
use Rattle.state.specs.declared.Entries.{Entries}
use Rattle.state.specs.declared.Scalars.{Scalars}
use Rattle.calls.specs.Calls.{after}
use Rattle.calls.specs.Never.{SamePlayer, PlayersStay}
use Rattle.calls.proofs.Rise.{after_keeps, above, rises, irrefl, act_ticks}

-- q is at or below the remembered client p, c isn't: q is at or below c, and isn't c
behind : (p : Option ℤ) (c : ℤ) (q : ℕ) → at_or_below c p ≡ false → at_or_below (pos q) p ≡ true → at_or_below (pos q) (Some c) ≡ true
behind None c q o b = absurd (false≢true b)
behind (Some (pos a)) (pos c) q o b =
    let lt = ltb-true a c (not-false (ltb a c) o) in
    let le = ltb-false a q (not-true (ltb a q) b) in
    ap not (le-ltb c q (omega arith))
behind (Some (pos a)) (negsuc c) q o b = absurd (false≢true (sym o))
behind (Some (negsuc a)) c q o b = absurd (false≢true b)

other : (p : Option ℤ) (c q : ℕ) → at_or_below (pos c) p ≡ false → at_or_below (pos q) p ≡ true → q ≡ c → ⊥
other p c q o b e = false≢true (sym o ∙ ap (λ (i : ℕ). at_or_below (pos i) p) (sym e) ∙ b)

same_player_law : (e : Entries) (q : ℕ) → SamePlayer e e q
same_player_law e q = record { mark = refl; x = refl; y = refl }

-- through two changes
joined : {d e g : Entries} {q : ℕ} → SamePlayer d e q → SamePlayer e g q → SamePlayer d g q
joined a b = record { mark = b.mark ∙ a.mark; x = b.x ∙ a.x; y = b.y ∙ a.y }

placed_other : (e : Entries) (c mark : ℕ) (x y : ℤ) (q : ℕ) → (q ≡ c → ⊥) → SamePlayer e (with_player e c mark x y) q
placed_other e c mark x y q n =
    record {
      mark = get_or-set_other e.marks c q mark 0 n;
      x = get_or-set_other e.xs c q x (pos 0) n;
      y = get_or-set_other e.ys c q y (pos 0) n;
    }

moved_other : (e : Entries) (c : ℕ) (x y : ℤ) (q : ℕ) → (q ≡ c → ⊥) → SamePlayer e (moved e c x y) q
moved_other e c x y q n =
    record { mark = refl; x = get_or-set_other e.xs c q x (pos 0) n; y = get_or-set_other e.ys c q y (pos 0) n }

may_come : {s : Scalars} {e : Entries} {w : List ℕ} {r : Refusal} {c : ℤ} → WhyPlayer s e w r c → MayCome s c
may_come (act.new_negative h i) = i
may_come (act.new_too_large h i b) = i
may_come (act.diff_negative h i) = i
may_come (act.diff_absent h i o) = i
may_come (act.old_negative h i) = i
may_come (act.old_absent h i o) = i

-- nothing starts a tick any more
data Over (s : Scalars) : Type 0 where
  closed : is_closed s.standing ≡ true → Over s
  finishing : s.pending ≡ Some kinds.Finish → Over s

-- of the clients at or below p: at or below o too, and the same player entries in e as in d
abbrev Kept : Option ℤ → Entries → Option ℤ → Entries → Type 0
Kept p d o e = (q : ℕ) → at_or_below (pos q) p ≡ true → (at_or_below (pos q) o ≡ true) × SamePlayer d e q

-- since tick t with the remembered client p and the entries d: a later tick; or no tick, for good; or still that one
data Since (t : ℤ) (p : Option ℤ) (d : Entries) (s : Scalars) (e : Entries) : Type 0 where
  later : lt_z t s.tick ≡ true → Since t p d s e
  past : s.inside ≡ false → Over s → Since t p d s e
  within : s.tick ≡ t → s.inside ≡ true → Kept p d s.remembered e → Since t p d s e

-- a pending kind is the one taken
pending_is : {s : Scalars} {w : List ℕ} {k j : Kind} {n : ℕ} → s.pending ≡ Some k → HadKind s w j n → j ≡ k
unfolding next_kind
pending_is {s} {w} {k} {j} {n} f h =
    let g : got k 0 ≡ got j n = rw f at h.read in
    cc

abbrev After : ℤ → Option ℤ → Entries → Memory → (Memory → Step) → Type 0
After t p d m f = Since t p d (f m).scalars (f m).memory.entries

module _ (t : ℤ) (p : Option ℤ) (d : Entries) (s : Scalars) (e : Entries) (w : List ℕ) (last : Bool) (m : Memory) where
  act_past : {f : Memory → Step} → Act s e w last f → s.inside ≡ false → s.pending ≡ Some kinds.Finish → After t p d m f
  unfolding closing naming raising
  act_past (act.wants_more l _) o k = past o (finishing k)
  act_past (act.finishes h _) o k = past o (closed refl)
  act_past (act.refuses_plain r _) o k = past o (closed refl)
  act_past (act.refuses_player r c _) o k = past o (closed refl)
  act_past (act.refuses_input r c _) o k = past o (closed refl)
  act_past (act.refuses13 _ _ b q) o k = past o (closed refl)
  act_past (act.tick_starts h q _) o k = absurd (false≢true (ap wants_tick (sym (pending_is k h)) ∙ q))
  act_past (act.tick_ends h q i b x) o k = absurd (false≢true (sym o ∙ i))
  act_past (act.last_tick_ends h i) o k = absurd (false≢true (sym o ∙ i))
  act_past (act.skip_starts h _ x) o k = let z = pending_is k h.kind in let y : ◌≡◌ {A = ℕ} 0 1 = cc in absurd (omega arith)
  act_past (act.skip_ends h i x) o k = absurd (false≢true (sym o ∙ i))
  act_past (act.player_comes h i b _) o k = absurd (false≢true (sym o ∙ i.inside))
  act_past (act.player_moves h i q x y) o k = absurd (false≢true (sym o ∙ i.inside))
  act_past (act.player_leaves h i q) o k = absurd (false≢true (sym o ∙ i.inside))
  act_past (act.input_comes h i q b) o k = absurd (false≢true (sym o ∙ i))
  act_past (act.input_moves h i q b) o k = absurd (false≢true (sym o ∙ i))
  act_past (act.passes h q i) o k = absurd (false≢true (sym o ∙ i))

  -- a player record of client c
  named : (c : ℤ) → MayCome s c → (g : Entries) → ((q : ℕ) → at_or_below (pos q) s.remembered ≡ true → SamePlayer e g q)
      → Kept p d s.remembered e → Kept p d (Some c) g
  named c i g stays kept q b = (behind s.remembered c q i.rises (kept q b).0, joined (kept q b).1 (stays q (kept q b).0))

  placed : (c : ℕ) → MayCome s (pos c) → (mark : ℕ) (x y : ℤ) → Kept p d s.remembered e
      → Kept p d (Some (pos c)) (with_player e c mark x y)
  placed c i mark x y =
      named (pos c) i (with_player e c mark x y) (λ q h. placed_other e c mark x y q (other s.remembered c q i.rises h))

  -- an input touches no player entry
  beside : (c : ℕ) (ns : List ℤ) → Kept p d s.remembered e → Kept p d s.remembered (with_input e c 1 ns)
  beside c ns kept q b = let k = (kept q b).1 in ((kept q b).0, record { mark = k.mark; x = k.x; y = k.y })

  act_within : {f : Memory → Step} → Act s e w last f → s.tick ≡ t → s.inside ≡ true → Kept p d s.remembered e → After t p d m f
  unfolding closing naming raising ending skipping
  act_within (act.wants_more l _) now in_tick_law kept = within now in_tick_law kept
  act_within (act.finishes h o) now in_tick_law kept = absurd (false≢true (sym o ∙ in_tick_law))
  act_within (act.refuses_plain r _) now in_tick_law kept = within now in_tick_law kept
  act_within (act.refuses_player r c y) now in_tick_law kept = within now in_tick_law (named c (may_come y) e (λ q b. same_player_law e q) kept)
  act_within (act.refuses_input r c _) now in_tick_law kept = within now in_tick_law kept
  act_within (act.refuses13 {c} {r} _ i b o) now in_tick_law kept = within now in_tick_law (placed c i 1 (act.first_of r) (act.second_of r) kept)
  act_within (act.tick_starts h q o) now in_tick_law kept = absurd (false≢true (sym o ∙ in_tick_law))
  act_within (act.tick_ends {t = u} h q i b x) now in_tick_law kept = later (rw (← now) (rises s.tick u 0 x))
  act_within (act.last_tick_ends h i) now in_tick_law kept = past refl (finishing refl)
  act_within (act.skip_starts h o x) now in_tick_law kept = absurd (false≢true (sym o ∙ in_tick_law))
  act_within (act.skip_ends h i x) now in_tick_law kept = later (rw (← now) (rises s.tick _ _ x))
  act_within (act.player_comes {c} {r} h i b o) now in_tick_law kept = within now in_tick_law (placed c i 1 (act.first_of r) (act.second_of r) kept)
  act_within (act.player_moves {c} {x = x} {y} h i q _ _) now in_tick_law kept = within now in_tick_law (named (pos c) i (moved e c x y) (λ q g. moved_other e c x y q (other s.remembered c q i.rises g)) kept)
  act_within (act.player_leaves {c} h i q) now in_tick_law kept = within now in_tick_law (placed c i 0 (pos 0) (pos 0) kept)
  act_within (act.input_comes {c} {r} h i q b) now in_tick_law kept = within now in_tick_law (beside c (act.others_of r) kept)
  act_within (act.input_moves {c} {r} h i q b) now in_tick_law kept = within now in_tick_law (beside c (sums (ten_of e.inputs c) (act.others_of r)) kept)
  act_within (act.passes h q i) now in_tick_law kept = within now in_tick_law kept

  act_since : {f : Memory → Step} → Act s e w last f → is_closed s.standing ≡ false → Since t p d s e → After t p d m f
  act_since a o (later h) = later (act_ticks (λ u. lt_z t u ≡ true) (above t) m a h)
  act_since a o (past i (closed c)) = absurd (false≢true (sym o ∙ c))
  act_since a o (past i (finishing k)) = act_past a i k
  act_since a o (within now i kept) = act_within a now i kept

stayed : (t : ℤ) (p : Option ℤ) (d : Entries) (s : Scalars) (e : Entries) → Since t p d s e → s.inside ≡ true → s.tick ≡ t
    → Kept p d s.remembered e
stayed t p d s e (later h) i n = absurd (false≢true (sym (irrefl t) ∙ ap (lt_z t) (sym n) ∙ h))
stayed t p d s e (past o _) i n = absurd (false≢true (sym o ∙ i))
stayed t p d s e (within _ _ kept) i n = kept

pub players_stay : PlayersStay
players_stay r list inside inside-then same =
    let t = r.scalars.tick in
    let p = r.scalars.remembered in
    let d = r.entries in
    let z = after r list in
    stayed t p d z.scalars z.entries
    (after_keeps (λ q. Since t p d q.scalars q.entries) (λ q w last f o a h. act_since t p d q.scalars q.entries w last (memory_of q.entries) a o h) r list
    (within refl inside (λ q b. (b, same_player_law d q))))
    inside-then same
