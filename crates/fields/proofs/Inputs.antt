-- The numbers of an input as the code reads them: one number more, and what the answers are. Assumes nothing.
use Rattle.std.specs.Prelude.{Option}
use Prim.Native.Nat.{ℕ, suc, ◌+◌, ◌-◌, ◌≤◌, ◌<◌}
use mathlib.Core.Path.{◌≡◌, refl, sym, ◌∙◌}
use mathlib.Core.List.{List, [], ◌∷◌, ◌++◌, append_assoc, append-nil}
use native.Mathlib.Omega.{arith}
use native.Mathlib.Numerals.{add-one}
use lib.ListN.{length, take, set, replicate, length-set}
use lib.Seq.{take_all, take-suc-set}
use lib.IntN.{ℤ}
use Rattle.varint.specs.Integers.{read_int}
use Rattle.varint.specs.declared.Remark.{Remark}
use Rattle.varint.specs.declared.IntRead.TheVariants as ints
use Rattle.packer.specs.declared.Part.{Part}
use Rattle.fields.specs.Fields.{Field, int, Value, num, Reading, got, runs_out, refused, read_fields}
use Rattle.fields.specs.steps.Sorts.{push, input_fields}
use Rattle.fields.specs.Views.{ten_fields, zeros, numbers}
use Rattle.fields.specs.steps.Reads.{input_with, ten_read, input_read}
use Rattle.fields.specs.declared.InputAnswer.TheVariants as code
use Rattle.fields.specs.declared.InputRead.{InputRead}

-- ---- so many numbers, after those that were had

abbrev number_fields : ℕ → List Field
number_fields n = replicate n int

-- the answer from the numbers that were had and those still to come
pub more : ℤ → List ℤ → Reading (List (Value Part)) → InputRead
more cid zs (got vs next) = input_with (code.Got cid next) (zs ++ numbers vs)
more cid zs runs_out = input_with code.RunsOut (zeros 10)
more cid zs (refused r) = input_with code.RunsOut (zeros 10)

none_had : (cid : ℤ) (x : Reading (List (Value Part))) → ten_read cid x ≡ more cid [] x
unfolding more
none_had cid (got vs next) = refl
none_had cid runs_out = refl
none_had cid (refused r) = refl

one_had : (cid z : ℤ) (zs : List ℤ) (y : Reading (List (Value Part))) → more cid zs (push (num z) y) ≡ more cid (zs ++ z ∷ []) y
unfolding more numbers
one_had cid z zs (got vs next) = rw (append_assoc zs (z ∷ []) (numbers vs))
one_had cid z zs runs_out = refl
one_had cid z zs (refused r) = refl

module _ (n : ℕ) (s : List ℕ) (cid : ℤ) (zs : List ℤ) (at : ℕ) where
  step_out : read_int s at ≡ ints.RunsOut → more cid zs (read_fields (number_fields (suc n)) s at) ≡ input_with code.RunsOut (zeros 10)
  unfolding more
  step_out e = rw e

  step_more : (z : ℤ) (next : ℕ) (r : Option Remark) → read_int s at ≡ ints.Got z next r
      → more cid zs (read_fields (number_fields (suc n)) s at) ≡ more cid (zs ++ z ∷ []) (read_fields (number_fields n) s next)
  step_more z next r e = rw e (one_had cid z zs (read_fields (number_fields n) s next))

-- ---- so many of the ten numbers were read

pub record Far (s : List ℕ) (at : ℕ) (input : List ℤ) (next k : ℕ) : Type 0 where
  pub few : k ≤ 10
  pub size : length input ≡ 10
  pub left : (cid : ℤ) → ten_read cid (read_fields ten_fields s at) ≡ more cid (take k input) (read_fields (number_fields (10 - k)) s next)

pub far_start : (s : List ℕ) (at : ℕ) → Far s at (zeros 10) at 0
far_start s at = record { few = omega arith; size = refl; left = λ cid. none_had cid (read_fields ten_fields s at) }

module _ (s : List ℕ) (at : ℕ) (input : List ℤ) (next k : ℕ) (far : Far s at input next k) where
  pub far_done : 10 ≤ k → (cid : ℤ) → input_with (code.Got cid next) input ≡ ten_read cid (read_fields ten_fields s at)
  unfolding more numbers
  far_done h cid =
      let e : k ≡ 10 = omega (arith, far.few) in
      let all : take 10 input ≡ input = take_all 10 input (omega (arith, far.size)) in
      sym (far.left cid ∙ rw (e, all, append-nil))

  module _ (some : k < 10) (cid : ℤ) where
    next_of : ten_read cid (read_fields ten_fields s at) ≡ more cid (take k input) (read_fields (number_fields (suc (10 - (k + 1)))) s next)
    next_of = let e : 10 - k ≡ suc (10 - (k + 1)) = omega arith in far.left cid ∙ rw e

    pub far_out : read_int s next ≡ ints.RunsOut → input_with code.RunsOut (zeros 10) ≡ ten_read cid (read_fields ten_fields s at)
    far_out e = sym (next_of ∙ step_out (10 - (k + 1)) s cid (take k input) next e)

    next_more : (z : ℤ) (past : ℕ) (r : Option Remark) → read_int s next ≡ ints.Got z past r
        → ten_read cid (read_fields ten_fields s at) ≡ more cid (take (k + 1) (set input k z)) (read_fields (number_fields (10 - (k + 1))) s past)
    next_more z past r e =
        let t : take (k + 1) (set input k z) ≡ take k input ++ z ∷ [] = rw add-one (take-suc-set input k z (omega (arith, far.size))) in
        next_of ∙ step_more (10 - (k + 1)) s cid (take k input) next z past r e ∙ rw t

  pub far_more : k < 10 → (z : ℤ) (past : ℕ) (r : Option Remark) → read_int s next ≡ ints.Got z past r → Far s at (set input k z) past (k + 1)
  far_more some z past r e =
      record {
        few = omega arith;
        size = length-set input k z ∙ far.size;
        left = λ cid. next_more some cid z past r e;
      }

-- ---- the client before them

pub input_out : (s : List ℕ) (at : ℕ) → read_int s at ≡ ints.RunsOut → input_with code.RunsOut (zeros 10) ≡ input_read (read_fields input_fields s at)
input_out s at e = rw e

push_read : (z : ℤ) (y : Reading (List (Value Part))) → ten_read z y ≡ input_read (push (num z) y)
unfolding numbers
push_read z (got vs next) = refl
push_read z runs_out = refl
push_read z (refused r) = refl

pub input_got : (s : List ℕ) (at : ℕ) (z : ℤ) (next : ℕ) (r : Option Remark) → read_int s at ≡ ints.Got z next r
    → ten_read z (read_fields ten_fields s next) ≡ input_read (read_fields input_fields s at)
input_got s at z next r e = rw e (push_read z (read_fields ten_fields s next))
