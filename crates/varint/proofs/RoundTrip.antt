-- The written form is read back: its value, no remark, all its bytes used. Assumes nothing.
use Rattle.std.specs.Prelude.{None}
use Prim.Native.Nat.{ℕ, zero, suc, ◌+◌, ◌*◌, ◌-◌, ◌/◌, ◌%◌, ◌≤◌, ◌<◌}
use mathlib.Core.Path.{◌≡◌, refl, sym, ◌∙◌, ap}
use mathlib.Core.List.{List, [], ◌∷◌, ◌++◌, append_assoc}
use native.Mathlib.Omega.{arith}
use native.Mathlib.Decide.{ℕ_discrete}
use native.Mathlib.Nat.{div-add-mod', add-mul, mul_assoc, add_comm, add-zero}
use lib.ListN.{length, get_or}
use lib.Seq.{drop-append_seam, get_or-append_seam}
use lib.Pow.{pow-add}
use lib.IntN.{ℤ, pos, negsuc}
use lib.Signed.{mag}
use borrow.Author.Tests.{eq-eqb, ne_eqb, lt-ltb, le-ltb}
use mir.Syntax.{w32}
use mir.Val.{SFits}
use mir.Facts.{to_z_pos, to_z-neg}
use Rattle.varint.specs.Integers.{weight, amount, sign_of, value_of, remark_of, read_from, read_int}
use Rattle.varint.specs.Written.{sign_bit, first_byte, later_byte, later_bytes, canonical}
use Rattle.num.proofs.Cases.{by_eq}
use Rattle.varint.proofs.Writing.{later_none, later_cons}
use Rattle.varint.specs.declared.IntRead.TheVariants.{Got}

-- what is left of a number, and its parts in the next weights
pub parts : (r w : ℕ) → r % 128 * w + r / 128 * (128 * w) ≡ r * w
parts r w =
    add_comm (r % 128 * w) (r / 128 * (128 * w))
    ∙ ap (λ (n : ℕ). n + r % 128 * w) (sym (mul_assoc (r / 128) 128 w))
    ∙ sym (add-mul (r / 128 * 128) (r % 128) w)
    ∙ ap (λ (n : ℕ). n * w) (div-add-mod' r 128)

-- what is left has fewer than this where n more bytes may come
abbrev pub room : ℕ → ℕ
room n = get_or (1 ∷ 16 ∷ 2048 ∷ 262144 ∷ 33554432 ∷ []) n 0

room_less : (left rest : ℕ) → rest < room (suc (suc left)) → rest / 128 < room (suc left)
room_less zero rest h = omega arith
room_less (suc zero) rest h = omega arith
room_less (suc (suc zero)) rest h = omega arith
room_less (suc (suc (suc left))) rest h = absurd (omega arith)

-- one later byte is read
module _ (k rest : ℕ) (at sign n : ℕ) (s : List ℕ) (later : 0 < k) (some : rest ≡ 0 → ⊥) where
  read_end : k < 4 → rest / 128 ≡ 0 → read_from (later_byte rest ∷ s) at k sign n ≡ Got (value_of sign (n + rest * weight k)) (at + k + 1) None
  unfolding read_from amount remark_of
  read_end h z =
      let k0 = ne_eqb k 0 (λ q. omega arith) in
      let k4 = ne_eqb k 4 (λ q. omega arith) in
      let e : rest + 0 ≡ rest = omega arith in
      let d : rest % 128 ≡ rest = omega arith in
      simp (eq-eqb (rest / 128) 0 z, k0, k4, e, d, lt-ltb rest 128 (omega arith), ne_eqb rest 0 some)

  read_fifth : k ≡ 4 → rest < 16 → read_from (later_byte rest ∷ s) at k sign n ≡ Got (value_of sign (n + rest * weight k)) (at + k + 1) None
  unfolding read_from amount remark_of
  read_fifth h z =
      let e : rest % 128 + 0 ≡ rest = omega arith in
      let d : rest % 32 ≡ rest = omega arith in
      rw h (simp (eq-eqb (rest / 128) 0 (omega arith), e, d, lt-ltb rest 16 z, ne_eqb rest 0 some))

  read_on_law : k < 4 → (rest / 128 ≡ 0 → ⊥) → read_from (later_byte rest ∷ s) at k sign n ≡ read_from s at (k + 1) sign (n + rest % 128 * weight k)
  unfolding read_from amount
  read_on_law h z =
      let k0 = ne_eqb k 0 (λ q. omega arith) in
      let k4 = ne_eqb k 4 (λ q. omega arith) in
      let d : (rest % 128 + 128) % 128 ≡ rest % 128 = omega arith in
      simp (ne_eqb (rest / 128) 0 z, k0, k4, d, le-ltb (rest % 128 + 128) 128 (omega arith))

-- each later byte weighs 128 times the one before
pub next_weight : (k : ℕ) → 0 < k → weight (k + 1) ≡ 128 * weight k
next_weight k p =
    let e : 7 * (k + 1) - 1 ≡ 7 + (7 * k - 1) = omega arith in
    rw (ne_eqb k 0 (λ q. omega arith), ne_eqb (k + 1) 0 (λ q. omega arith), e) (pow-add 2 7 (7 * k - 1))

-- the later bytes are read back
later_read : (left k rest at sign n : ℕ) (s : List ℕ) → k + left ≡ 5 → 0 < k → (rest ≡ 0 → ⊥) → rest < room left
    → read_from (later_bytes left rest ++ s) at k sign n ≡ Got (value_of sign (n + rest * weight k)) (at + k + length (later_bytes left rest)) None
later_read zero k rest at sign n s e p some h = absurd (some (omega arith))
later_read (suc zero) k rest at sign n s e p some h =
    let z : rest / 128 ≡ 0 = omega arith in
    rw (later_cons 0 rest some, ap (later_bytes 0) z, later_none)
    (read_fifth k rest at sign n s p some (omega arith) (omega arith))
later_read (suc (suc left)) k rest at sign n s e p some h =
    by_eq (rest / 128) 0
    (λ z.
    rw (later_cons (suc left) rest some, ap (later_bytes (suc left)) z, later_none)
    (read_end k rest at sign n s p some (omega arith) z))
    (λ z.
    let h4 : k < 4 = omega arith in
    let w = next_weight k p in
    let len = length (later_bytes (suc left) (rest / 128)) in
    let m : rest % 128 * weight k + rest / 128 * weight (k + 1) ≡ rest * weight k = rw w (parts rest (weight k)) in
    let q : n + rest % 128 * weight k + rest / 128 * weight (k + 1) ≡ n + rest * weight k = omega arith in
    let r : at + (k + 1) + len ≡ at + k + suc len = omega arith in
    rw (later_cons (suc left) rest some)
    (read_on_law k rest at sign n (later_bytes (suc left) (rest / 128) ++ s) p some h4 z
    ∙ later_read (suc left) (k + 1) (rest / 128) at sign (n + rest % 128 * weight k) s (omega arith) (omega arith) z (room_less left rest h)
    ∙ rw (q, r)))
    (ℕ_discrete (rest / 128) 0)

value_parts : (z : ℤ) → SFits w32 z → value_of (sign_bit z / 64) (mag z) ≡ z
unfolding value_of
value_parts (pos n) f = to_z_pos w32 f.sfits
value_parts (negsuc n) f =
    let e : 4294967295 - n ≡ 4294967296 - suc n = omega arith in
    rw e (to_z-neg w32 n f.sfits)

sign_whole : (z : ℤ) → (sign_bit z ≡ 64 * (sign_bit z / 64)) × (sign_bit z / 64 ≤ 1)
sign_whole (pos n) = omega arith
sign_whole (negsuc n) = omega arith

sign_read : (z : ℤ) (d : ℕ) → d < 64 → ((d + sign_bit z + 0) / 64 % 2 ≡ sign_bit z / 64) × ((d + sign_bit z + 128) / 64 % 2 ≡ sign_bit z / 64)
sign_read (pos n) d h = omega arith
sign_read (negsuc n) d h = omega arith

-- the first byte is read
module _ (z : ℤ) (at sign : ℕ) (s : List ℕ) where
  first_end : mag z / 64 ≡ 0 → (sign_of (first_byte z) ≡ sign_bit z / 64) × (read_from (first_byte z ∷ s) at 0 sign 0 ≡ Got (value_of sign (mag z)) (at + 0 + 1) None)
  unfolding read_from amount remark_of
  first_end e =
      let w = sign_whole z in
      let d : 0 + (mag z % 64 + sign_bit z + 0) % 64 * 1 ≡ mag z = omega arith in
      rw (eq-eqb (mag z / 64) 0 e)
      ((sign_read z (mag z % 64) (omega arith)).0, simp (lt-ltb (mag z % 64 + sign_bit z + 0) 128 (omega arith), d))

  first_on : (mag z / 64 ≡ 0 → ⊥) → (sign_of (first_byte z) ≡ sign_bit z / 64) × (read_from (first_byte z ∷ s) at 0 sign 0 ≡ read_from s at 1 sign (mag z % 64))
  unfolding read_from amount remark_of
  first_on e =
      let w = sign_whole z in
      let d : 0 + (mag z % 64 + sign_bit z + 128) % 64 * 1 ≡ mag z % 64 = omega arith in
      rw (ne_eqb (mag z / 64) 0 e)
      ((sign_read z (mag z % 64) (omega arith)).1, simp (le-ltb (mag z % 64 + sign_bit z + 128) 128 (omega arith), d))

-- the written form at the start of a list
module _ (z : ℤ) (f : SFits w32 z) (at : ℕ) (s : List ℕ) where
  pub from_start : read_from (canonical z ++ s) at 0 (sign_of (first_byte z)) 0 ≡ Got z (at + length (canonical z)) None
  unfolding canonical
  from_start =
      by_eq (mag z / 64) 0
      (λ e.
      let g = first_end z at (sign_of (first_byte z)) s e in
      rw (ap (later_bytes 4) e, later_none) (g.1 ∙ rw (g.0, value_parts z f, add-zero)))
      (λ e.
      let sign = sign_of (first_byte z) in
      let l = later_bytes 4 (mag z / 64) in
      let g = first_on z at sign (l ++ s) e in
      let q : mag z % 64 + mag z / 64 * 64 ≡ mag z = omega arith in
      let r : at + 1 + length l ≡ at + suc (length l) = omega arith in
      g.1
      ∙ later_read 4 1 (mag z / 64) at sign (mag z % 64) s refl (omega arith) e (omega (arith, f.sfits))
      ∙ rw (q, r, g.0, value_parts z f))
      (ℕ_discrete (mag z / 64) 0)

first_at : (z : ℤ) (before after : List ℕ) → get_or (before ++ (canonical z ++ after)) (length before) 0 ≡ first_byte z
unfolding canonical
first_at z before after = get_or-append_seam before (first_byte z) (later_bytes 4 (mag z / 64) ++ after) 0

-- the written form, anywhere in a list
pub canonical_read : (z : ℤ) → SFits w32 z → (before after : List ℕ) → read_int (before ++ canonical z ++ after) (length before) ≡ Got z (length before + length (canonical z)) None
unfolding read_int
canonical_read z f before after =
    rw (append_assoc before (canonical z) after, drop-append_seam)
    (rw (first_at z before after) (from_start z f (length before) after))
