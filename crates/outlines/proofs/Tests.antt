-- Tests put in another order, and lists of numbers and of strings. Assumes nothing.
use Prim.Native.Nat.{ℕ}
use mathlib.Core.Path.{◌≡◌, refl, sym, ◌∙◌, ap}
use mathlib.Core.Bool.{Bool, true, false, ◌&&◌, and-true, and-false}
use mathlib.Core.List.{List, [], ◌∷◌, map}
use native.Mathlib.Omega.{arith}
use lib.ListN.{length, replicate}
use lib.Dec.{leb}
use lib.IntN.{ℤ, pos, negsuc}
use lib.Signed.{non_neg}
use borrow.Author.Tests.{le-leb, lt-leb}
use mir.Syntax.{w32}
use mir.Val.{SFits, of_z}
use Rattle.packer.specs.Parts.{shown}
use Rattle.packer.specs.Texts.{no_zero}
use Rattle.packer.specs.declared.Part.{Part}
use Rattle.fields.specs.Fields.{int, num, mean}
use Rattle.fields.specs.Views.{ten_fields}
use Rattle.fields.specs.Writing.{strings_bytes, write_fields, inside}
use Rattle.fields.specs.steps.Sorts.{all_no_zero, all_inside}
use Rattle.fields.specs.Forms.{all_writable}
use Rattle.pieces.specs.steps.Pieces.{pieces_bytes, pieces_ok, number_pieces}
use Rattle.pieces.specs.declared.Piece.TheVariants.{Str}

pub crossed : (a b x y : Bool) → (a && b) && (x && y) ≡ (a && x) && (b && y)
crossed false b x y = refl
crossed true true x y = refl
crossed true false true y = refl
crossed true false false y = refl

-- a text inside the bytes lent, with a written form
pub one_text : (i c : Bool) → (i && true) && (c && true) ≡ (i && c) && true
one_text true c = refl
one_text false c = refl

pub two_parts : (u i c : Bool) → (u && (i && true)) && c ≡ u && ((i && c) && true)
two_parts true true c = sym (and-true c)
two_parts true false c = refl
two_parts false i c = refl

-- few arguments; a command and its arguments inside the bytes lent; the command and the arguments without 00
command_few : (i j a b : Bool) → (i && (j && true)) && (a && (b && true)) ≡ (i && a) && (j && b)
command_few i j a b = rw (and-true j, and-true b) (crossed i j a b)

pub command : (n m i j a b : Bool) → (n ≡ true → m ≡ true) → n && ((i && (j && true)) && (a && ((m && b) && true))) ≡ (i && a) && (n && (j && b))
command true m i j a b h = rw (h refl) (command_few i j a b)
command false m i j a b h = sym (and-false (i && a))

-- ---- dt is held as the i32 with its bits

pub small_dt_law : (z : ℤ) → SFits w32 z → leb (of_z w32 z) 2147483647 ≡ non_neg z
small_dt_law (pos n) f = le-leb n 2147483647 (omega (arith, f.sfits))
small_dt_law (negsuc n) f = lt-leb (of_z w32 (negsuc n)) 2147483647 (omega (arith, f.sfits))

pub dt_is : (z : ℤ) → non_neg z ≡ true → pos (of_z w32 z) ≡ z
dt_is (pos n) e = refl
dt_is (negsuc n) e = let q : ◌≡◌ {A = ℕ} 0 1 = cc in absurd (omega arith)

-- ---- numbers

module _ (s : List ℕ) where
  ints_writable : (zs : List ℤ) → all_writable (replicate (length zs) int) (map (mean s) (map num zs)) ≡ true
  ints_writable [] = refl
  ints_writable (z ∷ zs) = ints_writable zs

  ints_written : (zs : List ℤ) → write_fields (replicate (length zs) int) (map (mean s) (map num zs)) ≡ pieces_bytes s (number_pieces zs)
  ints_written [] = refl
  ints_written (z ∷ zs) = rw (ints_written zs)

  pub ints_ok : (zs : List ℤ) → pieces_ok s (number_pieces zs) ≡ true
  ints_ok [] = refl
  ints_ok (z ∷ zs) = ints_ok zs

  module _ (zs : List ℤ) (h : length zs ≡ 10) where
    ten_fields_law : ten_fields ≡ replicate (length zs) int
    ten_fields_law = sym (ap (λ n. replicate n int) h)

    pub ten_writable : all_writable ten_fields (map (mean s) (map num zs)) ≡ true
    ten_writable = ap (λ fs. all_writable fs (map (mean s) (map num zs))) ten_fields_law ∙ ints_writable zs

    pub ten_written : write_fields ten_fields (map (mean s) (map num zs)) ≡ pieces_bytes s (number_pieces zs)
    ten_written = ap (λ fs. write_fields fs (map (mean s) (map num zs))) ten_fields_law ∙ ints_written zs

  -- ---- strings

  pub strings_ok : (ps : List Part) → all_inside s ps && all_no_zero (map (shown s) ps) ≡ pieces_ok s (map Str ps)
  strings_ok [] = refl
  strings_ok (p ∷ ps) =
      crossed (inside s p) (all_inside s ps) (no_zero (shown s p)) (all_no_zero (map (shown s) ps))
      ∙ ap (λ b. (inside s p && no_zero (shown s p)) && b) (strings_ok ps)

  pub strings_written : (ps : List Part) → strings_bytes (map (shown s) ps) ≡ pieces_bytes s (map Str ps)
  unfolding strings_bytes
  strings_written [] = refl
  strings_written (p ∷ ps) = rw (strings_written ps)
