-- Which kinds are refused: those below -11, and -11 in version 1. Assumes nothing.
use Prim.Native.Nat.{ℕ, zero, suc, ◌+◌}
use mathlib.Core.Path.{◌≡◌, refl, sym, subst}
use mathlib.Core.List.{List}
use native.Mathlib.Omega.{arith}
use lib.IntN.{ℤ, pos, negsuc}
use borrow.Author.Tests.{lt-ltb}
use Rattle.refusal.specs.declared.Refusal.{Refusal}
use Rattle.refusal.specs.declared.Refusal.TheVariants.{UnknownType}
use Rattle.varint.specs.Integers.{read_int}
use Rattle.varint.specs.declared.IntRead.{IntRead}
use Rattle.varint.specs.declared.IntRead.TheVariants as ints
use Rattle.fields.specs.Fields.{refused}
use Rattle.kinds.specs.Kinds.{kind_of, read_kind}
use Rattle.kinds.specs.steps.Kinds.{with_client, extension_kind, after_number}
use Rattle.kinds.specs.declared.Version.{Version}
use Rattle.kinds.specs.declared.Version.TheVariants.{V1, V2}
use Rattle.kinds.specs.declared.Kind.{Kind}
use Rattle.kinds.proofs.Arms.{low}
use Rattle.causes.specs.Causes.{UnknownKind, below, extension_in_one, KindRefused, unknown_type}
use Rattle.causes.proofs.Calm.{not_got, not_out}

client_never : {C : Type 0} (f : ℤ → Kind) (i : IntRead) {r : Refusal} → with_client f i ≡ refused r → C
client_never f (ints.Got c next remark) e = not_got e
client_never f ints.RunsOut e = not_out e

-- the refusal of a number that was read as a kind
abbrev Unknown : Version → ℤ → Refusal → Type 0
Unknown v z r = (r ≡ UnknownType z) × UnknownKind v z

in_one : (v : Version) (n : ℕ) (r : Refusal) → extension_kind v n ≡ refused r → Unknown v (negsuc 10) r
in_one V1 n r e = (cc, extension_in_one)
in_one V2 n r e = not_got e

abbrev eleven : ℕ → ℕ
eleven k = suc (suc (suc (suc (suc (suc (suc (suc (suc (suc (suc k))))))))))

number_refused : (v : Version) (w : List ℕ) (z : ℤ) (n : ℕ) (r : Refusal) → kind_of v w z n ≡ refused r → Unknown v z r
number_refused v w (pos c) n r e = not_got e
number_refused v w (negsuc zero) n r e = not_got e
number_refused v w (negsuc (suc zero)) n r e = not_got e
number_refused v w (negsuc (suc (suc zero))) n r e = client_never _ (read_int w n) e
number_refused v w (negsuc (suc (suc (suc zero)))) n r e = client_never _ (read_int w n) e
number_refused v w (negsuc (suc (suc (suc (suc zero))))) n r e = not_got e
number_refused v w (negsuc (suc (suc (suc (suc (suc zero)))))) n r e = not_got e
number_refused v w (negsuc (suc (suc (suc (suc (suc (suc zero))))))) n r e = not_got e
number_refused v w (negsuc (suc (suc (suc (suc (suc (suc (suc zero)))))))) n r e = not_got e
number_refused v w (negsuc (suc (suc (suc (suc (suc (suc (suc (suc zero))))))))) n r e = not_got e
number_refused v w (negsuc (suc (suc (suc (suc (suc (suc (suc (suc (suc zero)))))))))) n r e = not_got e
number_refused v w (negsuc (suc (suc (suc (suc (suc (suc (suc (suc (suc (suc zero))))))))))) n r e = in_one v n r e
number_refused v w (negsuc (suc (suc (suc (suc (suc (suc (suc (suc (suc (suc (suc k)))))))))))) n r e =
    let p : 11 + k ≡ eleven k = omega arith in (cc, below (lt-ltb 10 (eleven k) (omega arith)))

after_refused : (v : Version) (w : List ℕ) (at : ℕ) (i : IntRead) (r : Refusal) → read_int w at ≡ i → after_number v w i ≡ refused r
    → KindRefused v w at r
after_refused v w at (ints.Got z n m) r i e =
    let u = number_refused v w z n r e in
    subst (KindRefused v w at) (sym u.0) (unknown_type i u.1)
after_refused v w at ints.RunsOut r i e = not_out e

pub kind_refused_law : (v : Version) (w : List ℕ) (at : ℕ) (r : Refusal) → read_kind v w at ≡ refused r → KindRefused v w at r
unfolding read_kind
kind_refused_law v w at r e = after_refused v w at (read_int w at) r refl e

by_unknown : {v : Version} {z : ℤ} (w : List ℕ) (n : ℕ) → UnknownKind v z → kind_of v w z n ≡ refused (UnknownType z)
by_unknown {v} {z} w n (below l) = sym (low v w z n l)
by_unknown w n extension_in_one = refl

-- and back
pub refused_kind : {v : Version} {w : List ℕ} {at : ℕ} {r : Refusal} → KindRefused v w at r → read_kind v w at ≡ refused r
unfolding read_kind
refused_kind {w = w} (unknown_type {next = n} i u) = rw i (by_unknown w n u)
