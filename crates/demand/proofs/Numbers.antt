-- What is read before and in a record: integers, one after the other. Assumes nothing.
use Rattle.std.specs.Prelude.{Option, Some, None}
use Prim.Native.Nat.{ℕ, zero, suc}
use mathlib.Core.Path.{◌≡◌, refl, ap}
use mathlib.Core.List.{List, [], ◌∷◌}
use native.Mathlib.Omega.{arith}
use lib.ListN.{length, get_or, replicate}
use lib.IntN.{ℤ, pos, negsuc}
use mir.Syntax.{w32}
use mir.Val.{SFits}
use Rattle.varint.specs.Integers.{read_int}
use Rattle.varint.specs.declared.Remark.{Remark}
use Rattle.varint.specs.declared.IntRead.{IntRead}
use Rattle.varint.specs.declared.IntRead.TheVariants as ints
use Rattle.varint.proofs.Prefix.{int_fits}
use Rattle.packer.specs.declared.Part.{Part}
use Rattle.fields.specs.Fields.{int, Value, num, Reading, got, runs_out, refused, read_fields}
use Rattle.fields.specs.steps.Sorts.{int_field, push, and_then}
use Rattle.fields.specs.Views.{numbers}
use Rattle.kinds.specs.Kinds.{kind_of, read_kind}
use Rattle.kinds.specs.steps.Kinds.{with_client, extension_kind, after_number}
use Rattle.kinds.specs.declared.Version.{Version}
use Rattle.kinds.specs.declared.Version.TheVariants.{V1, V2}
use Rattle.kinds.specs.declared.Kind.{Kind}
use Rattle.kinds.specs.declared.Kind.TheVariants.{PlayerNew, PlayerOld}
use Rattle.state.specs.Reading.{next_kind}
use Rattle.demand.proofs.Integers.{Run, none, one, run_append}

-- ---- fields that are numbers

-- so many numbers were read, or the bytes ran out
pub data Ints (w : List ℕ) (at n : ℕ) : Reading (List (Value Part)) → Type 0 where
  had : (vs : List (Value Part)) (next : ℕ) → Run w at (numbers vs) next → length (numbers vs) ≡ n → Ints w at n (got vs next)
  out : Ints w at n runs_out

module _ (w : List ℕ) where
  pushed : {at m n : ℕ} {z : ℤ} {o : Reading (List (Value Part))} (r : Option Remark) → read_int w at ≡ ints.Got z m r → Ints w m n o
      → Ints w at (suc n) (push (num z) o)
  unfolding numbers
  pushed {z = z} r e (had vs next s l) = had (num z ∷ vs) next (one r e s) (ap suc l)
  pushed r e out = out

  next_int : (at n : ℕ) (x : IntRead) (k : ℕ → Reading (List (Value Part))) → read_int w at ≡ x
      → ((m : ℕ) → Ints w m n (k m)) → Ints w at (suc n) (and_then (int_field x) k)
  next_int at n (ints.Got z m r) k e f = pushed r e (f m)
  next_int at n ints.RunsOut k e f = out

  pub ints_read : (n at : ℕ) → Ints w at n (read_fields (replicate n int) w at)
  unfolding numbers
  ints_read zero at = had [] at none refl
  ints_read (suc n) at = next_int at n (read_int w at) (read_fields (replicate n int) w) refl (ints_read n)

-- they are numbers of 32 bits
pub run_fits : {w : List ℕ} {at next : ℕ} {zs : List ℤ} → Run w at zs next → (i : ℕ) → SFits w32 (get_or zs i (pos 0))
run_fits none i = record { sfits = omega arith }
run_fits {w} (one {at} {m} {next} {z} {zs} r e s) zero = int_fits w at z m r e
run_fits {w} (one r e s) (suc i) = run_fits s i

-- ---- the kind

-- integers stand before the place
pub record Began (w : List ℕ) (at : ℕ) : Type 0 where
  pub before : List ℤ
  pub run : Run w 0 before at

abbrev pub KindAt : List ℕ → Reading Kind → Type 0
KindAt w (got k n) = Began w n
KindAt w runs_out = Unit {0}
KindAt w (refused r) = Unit {0}

begun : {w : List ℕ} {zs : List ℤ} {at : ℕ} → Run w 0 zs at → Began w at
begun {w} {zs} s = record { before = zs; run = s }

client_at : {w : List ℕ} {zs : List ℤ} {at : ℕ} (kind : ℤ → Kind) → Run w 0 zs at → (x : IntRead) → read_int w at ≡ x
    → KindAt w (with_client kind x)
client_at kind s (ints.Got c next r) e = begun (run_append s (one r e none))
client_at kind s ints.RunsOut e = tt

extension_at : (v : Version) {w : List ℕ} {zs : List ℤ} {at : ℕ} → Run w 0 zs at → KindAt w (extension_kind v at)
extension_at V1 s = tt
extension_at V2 s = begun s

kind_at : (v : Version) (w : List ℕ) (z : ℤ) (at : ℕ) → Run w 0 (z ∷ []) at → KindAt w (kind_of v w z at)
kind_at v w (pos c) at s = begun s
kind_at v w (negsuc zero) at s = begun s
kind_at v w (negsuc (suc zero)) at s = begun s
kind_at v w (negsuc (suc (suc zero))) at s = client_at PlayerNew s (read_int w at) refl
kind_at v w (negsuc (suc (suc (suc zero)))) at s = client_at PlayerOld s (read_int w at) refl
kind_at v w (negsuc (suc (suc (suc (suc zero))))) at s = begun s
kind_at v w (negsuc (suc (suc (suc (suc (suc zero)))))) at s = begun s
kind_at v w (negsuc (suc (suc (suc (suc (suc (suc zero))))))) at s = begun s
kind_at v w (negsuc (suc (suc (suc (suc (suc (suc (suc zero)))))))) at s = begun s
kind_at v w (negsuc (suc (suc (suc (suc (suc (suc (suc (suc zero))))))))) at s = begun s
kind_at v w (negsuc (suc (suc (suc (suc (suc (suc (suc (suc (suc zero)))))))))) at s = begun s
kind_at v w (negsuc (suc (suc (suc (suc (suc (suc (suc (suc (suc (suc zero))))))))))) at s = extension_at v s
kind_at v w (negsuc (suc (suc (suc (suc (suc (suc (suc (suc (suc (suc (suc n)))))))))))) at s = tt

number_at : (v : Version) (w : List ℕ) (x : IntRead) → read_int w 0 ≡ x → KindAt w (after_number v w x)
number_at v w (ints.Got z n r) e = kind_at v w z n (one r e none)
number_at v w ints.RunsOut e = tt

pub next_at : (v : Version) (p : Option Kind) (w : List ℕ) → KindAt w (next_kind v p w)
unfolding next_kind read_kind
next_at v None w = number_at v w (read_int w 0) refl
next_at v (Some k) w = record { before = []; run = none }
