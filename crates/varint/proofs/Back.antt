-- What is read without a remark is the written form. Assumes nothing.
use Rattle.std.specs.Prelude.{None}
use Prim.Native.Nat.{ℕ, zero, suc, ◌+◌, ◌*◌, ◌-◌, ◌/◌, ◌%◌, ◌≤◌, ◌<◌}
use mathlib.Core.Path.{◌≡◌, refl, ◌∙◌}
use mathlib.Core.List.{List, [], ◌∷◌, ◌++◌}
use mathlib.Core.Bool.{true, false}
use native.Mathlib.Omega.{arith}
use native.Mathlib.Nat.{add-zero}
use lib.ListN.{length, get_or, take, drop}
use lib.Seq.{get_or-drop, take-append_seam}
use lib.Dec.{ltb}
use lib.IntN.{ℤ}
use lib.Signed.{mag}
use borrow.Author.Tests.{eq-eqb, ne_eqb, lt-ltb, ltb-true, ltb-false}
use mir.Syntax.{w32}
use mir.Facts.{to_z_pos, to_z-neg}
use Rattle.varint.specs.Integers.{weight, amount, sign_of, is_last, value_of, remark_of, read_from, read_int}
use Rattle.varint.specs.Written.{sign_bit, extend, later_bytes, canonical}
use Rattle.num.proofs.Cases.{by_bool}
use Rattle.varint.proofs.Writing.{later_none, later_cons}
use Rattle.varint.proofs.RoundTrip.{room, parts, next_weight}
use Rattle.varint.specs.declared.IntRead.TheVariants.{Got}

-- what an answer says of the byte it was read from
module _ (b : ℕ) (s : List ℕ) (at k sign n next : ℕ) (v : ℤ) (r : read_from (b ∷ s) at k sign n ≡ Got v next None) where
  was_last : is_last k b ≡ true → (v ≡ value_of sign (n + amount k b)) × ((next ≡ at + k + 1) × (remark_of k b ≡ None))
  unfolding read_from
  was_last e =
      let q : Got (value_of sign (n + amount k b)) (at + k + 1) (remark_of k b) ≡ Got v next None = rw e at r in
      (cc, (cc, cc))

  went_on : is_last k b ≡ false → read_from s at (k + 1) sign (n + amount k b) ≡ Got v next None
  unfolding read_from
  went_on e = rw e at r

not_short : (at k sign n next : ℕ) (v : ℤ) → read_from [] at k sign n ≡ Got v next None → ⊥
unfolding read_from
not_short at k sign n next v r = let z : ◌≡◌ {A = ℕ} 0 1 = cc in omega arith

-- a later byte
module _ (k b : ℕ) (later : 0 < k) where
  amount_mid : k < 4 → amount k b ≡ b % 128 * weight k
  unfolding amount
  amount_mid h = simp (ne_eqb k 0 (λ q. omega arith), ne_eqb k 4 (λ q. omega arith))

  no_overlong : remark_of k b ≡ None → b ≡ 0 → ⊥
  unfolding remark_of
  no_overlong r q =
      let e = rw (ne_eqb k 0 (λ q. omega arith), eq-eqb b 0 q) at r in
      let z : ◌≡◌ {A = ℕ} 0 1 = cc in
      omega arith

  amount_fifth : k ≡ 4 → b < 16 → amount k b ≡ b * weight k
  unfolding amount
  amount_fifth e h =
      let d : b % 32 ≡ b = omega arith in
      simp (ne_eqb k 0 (λ q. omega arith), eq-eqb k 4 e, d)

no_padding : (b : ℕ) → (b ≡ 0 → ⊥) → remark_of 4 b ≡ None → b < 16
unfolding remark_of
no_padding b some r =
    by_bool (ltb b 16) (λ e. ltb-true b 16 e)
    (λ e.
    let q = rw (ne_eqb b 0 some, e) at r in
    let z : ◌≡◌ {A = ℕ} 0 1 = cc in
    absurd (omega arith))

one_byte : (left b : ℕ) → (b ≡ 0 → ⊥) → b < 128 → later_bytes (suc left) b ≡ b ∷ []
one_byte left b some h =
    let z : b / 128 ≡ 0 = omega arith in
    let e : b % 128 + 0 ≡ b = omega arith in
    later_cons left b some ∙ rw (z, later_none, e)

more_bytes : (left b r : ℕ) → (r ≡ 0 → ⊥) → 128 ≤ b → b < 256 → later_bytes (suc left) (b % 128 + 128 * r) ≡ b ∷ later_bytes left r
more_bytes left b r some h l =
    let z : (b % 128 + 128 * r) / 128 ≡ r = omega arith in
    let e : (b % 128 + 128 * r) % 128 + 128 ≡ b = omega arith in
    later_cons left (b % 128 + 128 * r) (λ q. some (omega arith)) ∙ rw (z, ne_eqb r 0 some, e)

room_more : (left b r : ℕ) → left < 3 → r < room (suc left) → b % 128 + 128 * r < room (suc (suc left))
room_more zero b r l h = omega arith
room_more (suc zero) b r l h = omega arith
room_more (suc (suc zero)) b r l h = omega arith
room_more (suc (suc (suc left))) b r l h = absurd (omega arith)

room_least : (left b : ℕ) → left < 3 → b < 128 → b < room (suc (suc left))
room_least zero b l h = omega arith
room_least (suc zero) b l h = omega arith
room_least (suc (suc zero)) b l h = omega arith
room_least (suc (suc (suc left))) b l h = absurd (omega arith)

-- the later bytes of a list, read without a remark: what is left of the number, and what stands after it
record Back (left k at sign n next : ℕ) (v : ℤ) (s : List ℕ) : Type 0 where
  rest : ℕ
  after : List ℕ
  some : rest ≡ 0 → ⊥
  small : rest < room left
  value : v ≡ value_of sign (n + rest * weight k)
  place : next ≡ at + k + length (later_bytes left rest)
  bytes : s ≡ later_bytes left rest ++ after

-- the last byte
ends : (left k b at sign n next : ℕ) (v : ℤ) (s : List ℕ) → (b ≡ 0 → ⊥) → b < 128 → b < room (suc left) → v ≡ value_of sign (n + b * weight k) → next ≡ at + k + 1 → Back (suc left) k at sign n next v (b ∷ s)
ends left k b at sign n next v s some h l e p =
    let o = one_byte left b some h in
    record { rest = b; after = s; some = some; small = l; value = e; place = rw o p; bytes = rw o }

-- a byte before the last
module _ (left k b at sign n next : ℕ) (v : ℤ) (s : List ℕ) (h4 : k < 4) (p : 0 < k) (l : left < 3) (big : 128 ≤ b) (h : b < 256)
    (g : Back (suc left) (k + 1) at sign (n + amount k b) next v s) where
  more_value : v ≡ value_of sign (n + (b % 128 + 128 * g.rest) * weight k)
  more_value =
      let low : (b % 128 + 128 * g.rest) % 128 ≡ b % 128 = omega arith in
      let high : (b % 128 + 128 * g.rest) / 128 ≡ g.rest = omega arith in
      let w : b % 128 * weight k + g.rest * (128 * weight k) ≡ (b % 128 + 128 * g.rest) * weight k =
      rw (low, high) at (parts (b % 128 + 128 * g.rest) (weight k)) in
      let w2 : b % 128 * weight k + g.rest * weight (k + 1) ≡ (b % 128 + 128 * g.rest) * weight k = rw (next_weight k p) w in
      let a = amount_mid k b p h4 in
      let m : n + amount k b + g.rest * weight (k + 1) ≡ n + (b % 128 + 128 * g.rest) * weight k = omega arith in
      g.value ∙ rw m

  goes_on : Back (suc (suc left)) k at sign n next v (b ∷ s)
  goes_on =
      let o = more_bytes (suc left) b g.rest g.some big h in
      record {
        rest = b % 128 + 128 * g.rest;
        after = g.after;
        some = λ z. g.some (omega arith);
        small = room_more left b g.rest l g.small;
        value = more_value;
        place = rw o (omega (arith, g.place));
        bytes = rw o (rw (← g.bytes));
      }

fifth : (k b at sign n next : ℕ) (v : ℤ) (s : List ℕ) → k ≡ 4 → read_from (b ∷ s) at k sign n ≡ Got v next None → Back 1 k at sign n next v (b ∷ s)
fifth k b at sign n next v s k4 r =
    let p : 0 < k = omega arith in
    let l = was_last b s at k sign n next v r (simp (eq-eqb k 4 k4)) in
    let some = no_overlong k b p l.1.1 in
    let small = no_padding b some (rw k4 at l.1.1) in
    ends 0 k b at sign n next v s some (omega arith) small (l.0 ∙ rw (amount_fifth k b p k4 small)) l.1.0

-- a byte before the fifth that is the last
middle : (left k b at sign n next : ℕ) (v : ℤ) (s : List ℕ) → k < 4 → 0 < k → left < 3 → b < 128 → read_from (b ∷ s) at k sign n ≡ Got v next None → Back (suc (suc left)) k at sign n next v (b ∷ s)
middle left k b at sign n next v s h4 p lt t r =
    let l = was_last b s at k sign n next v r (simp (ne_eqb k 4 (λ q. omega arith), lt-ltb b 128 t)) in
    let d : b % 128 ≡ b = omega arith in
    ends (suc left) k b at sign n next v s (no_overlong k b p l.1.1) t (room_least left b lt t) (l.0 ∙ rw (amount_mid k b p h4, d)) l.1.0

read_back : (left k at sign n next : ℕ) (v : ℤ) (s : List ℕ) → k + suc left ≡ 5 → 0 < k → ((i : ℕ) → get_or s i 0 < 256) → read_from s at k sign n ≡ Got v next None → Back (suc left) k at sign n next v s
read_back left k at sign n next v [] e p h r = absurd (not_short at k sign n next v r)
read_back zero k at sign n next v (b ∷ s) e p h r = fifth k b at sign n next v s (omega arith) r
read_back (suc left) k at sign n next v (b ∷ s) e p h r =
    by_bool (ltb b 128)
    (λ t. middle left k b at sign n next v s (omega arith) p (omega arith) (ltb-true b 128 t) r)
    (λ t.
    goes_on left k b at sign n next v s (omega arith) p (omega arith) (ltb-false b 128 t) (h 0)
    (read_back left (k + 1) at sign (n + amount k b) next v s (omega arith) (omega arith) (λ i. h (suc i))
    (went_on b s at k sign n next v r (simp (ne_eqb k 4 (λ q. omega arith), t)))))

value_split : (sign m : ℕ) → sign < 2 → m < 2147483648 → (mag (value_of sign m) ≡ m) × (sign_bit (value_of sign m) ≡ 64 * sign)
unfolding value_of
value_split zero m s h = rw (to_z_pos w32 {n = m} h) (refl, refl)
value_split (suc zero) m s h =
    let e : 4294967295 - m ≡ 4294967296 - suc m = omega arith in
    rw (e, to_z-neg w32 m h) (refl, refl)
value_split (suc (suc sign)) m s h = absurd (omega arith)

canonical_of : (sign m : ℕ) (v : ℤ) → sign < 2 → m < 2147483648 → v ≡ value_of sign m → canonical v ≡ (m % 64 + 64 * sign + extend (m / 64)) ∷ later_bytes 4 (m / 64)
unfolding canonical
canonical_of sign m v s h e =
    let q = value_split sign m s h in
    rw (e, q.0, q.1)

-- the bytes at the start of a list are those of the written form, and so many are used
record Start (at next : ℕ) (v : ℤ) (s : List ℕ) : Type 0 where
  after : List ℕ
  bytes : s ≡ canonical v ++ after
  place : next ≡ at + length (canonical v)

module _ (b : ℕ) (s : List ℕ) (at next : ℕ) (v : ℤ) (h : b < 256) where
  start_last : b < 128 → read_from (b ∷ s) at 0 (sign_of b) 0 ≡ Got v next None → Start at next v (b ∷ s)
  unfolding amount
  start_last t r =
      let l = was_last b s at 0 (sign_of b) 0 next v r (lt-ltb b 128 t) in
      let e : 0 + b % 64 * 1 ≡ b % 64 = omega arith in
      let z : b % 64 / 64 ≡ 0 = omega arith in
      let d : b % 64 % 64 + 64 * (b / 64 % 2) + 0 ≡ b = omega arith in
      let c : canonical v ≡ b ∷ [] =
      canonical_of (sign_of b) (b % 64) v (omega arith) (omega arith) (l.0 ∙ rw e) ∙ rw (z, later_none, d) in
      record { after = s; bytes = rw c; place = rw c (l.1.0 ∙ rw add-zero) }

  start_more : Back 4 1 at (sign_of b) (b % 64) next v s → 128 ≤ b → Start at next v (b ∷ s)
  start_more g t =
      let m = b % 64 + g.rest * 64 in
      let z : (b % 64 + g.rest * 64) / 64 ≡ g.rest = omega arith in
      let d : (b % 64 + g.rest * 64) % 64 + 64 * (b / 64 % 2) + 128 ≡ b = omega arith in
      let c : canonical v ≡ b ∷ later_bytes 4 g.rest =
      canonical_of (sign_of b) m v (omega arith) (omega (arith, g.small)) g.value ∙ rw (z, ne_eqb g.rest 0 g.some, d) in
      record { after = g.after; bytes = rw (c, ← g.bytes); place = rw c (omega (arith, g.place)) }

start : (s : List ℕ) (at next : ℕ) (v : ℤ) → ((i : ℕ) → get_or s i 0 < 256) → read_from s at 0 (sign_of (get_or s 0 0)) 0 ≡ Got v next None → Start at next v s
unfolding amount
start [] at next v h r = absurd (not_short at 0 0 0 next v r)
start (b ∷ s) at next v h r =
    by_bool (ltb b 128)
    (λ t. start_last b s at next v (h 0) (ltb-true b 128 t) r)
    (λ t.
    let e : 0 + b % 64 * 1 ≡ b % 64 = omega arith in
    start_more b s at next v (h 0)
    (read_back 3 1 at (sign_of b) (b % 64) next v s refl (omega arith) (λ i. h (suc i))
    (rw e at (went_on b s at 0 (sign_of b) 0 next v r t)))
    (ltb-false b 128 t))

-- what is read without a remark, anywhere in a list of bytes, is the written form of its value, and no more
pub read_canonical : (s : List ℕ) (at next : ℕ) (v : ℤ) → ((i : ℕ) → get_or s i 0 < 256) → read_int s at ≡ Got v next None
    → (take (next - at) (drop at s) ≡ canonical v) × (next ≡ at + length (canonical v))
unfolding read_int
read_canonical s at next v h r =
    let first : get_or (drop at s) 0 0 ≡ get_or s at 0 = get_or-drop at s 0 0 ∙ rw add-zero in
    let g = start (drop at s) at next v (λ i. rw (get_or-drop at s i 0) (h (at + i))) (rw first r) in
    let n : next - at ≡ length (canonical v) = omega (arith, g.place) in
    (rw (n, g.bytes) (take-append_seam (canonical v) g.after), g.place)
