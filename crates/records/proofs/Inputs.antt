-- An input: eleven numbers are read as a client and ten numbers beside it. Assumes nothing.
use Prim.Native.Nat.{ℕ, zero, suc}
use mathlib.Core.Path.{◌≡◌, refl, ◌∙◌, ap}
use mathlib.Core.Bool.{Bool, true, false}
use mathlib.Core.List.{List, [], ◌∷◌, map}
use native.Mathlib.Omega.{arith}
use lib.ListN.{length, get_or, drop, replicate}
use lib.IntN.{ℤ, pos}
use Rattle.varint.specs.Integers.{read_int}
use Rattle.varint.specs.declared.IntRead.{IntRead}
use Rattle.varint.specs.declared.IntRead.TheVariants as ints
use Rattle.packer.specs.declared.Part.{Part}
use Rattle.fields.specs.Fields.{int, Value, num, Reading, got, runs_out, refused, read_fields}
use Rattle.fields.specs.steps.Sorts.{int_field, push, and_then, input_fields}
use Rattle.fields.specs.Views.{numbers}
use Rattle.fields.specs.steps.Reads.{input_read}
use Rattle.fields.specs.declared.InputAnswer.{InputAnswer}
use Rattle.fields.specs.declared.InputAnswer.TheVariants as inputs
use Rattle.fields.specs.declared.InputRead.{InputRead}
use Rattle.item.specs.Records.{content, as_content, read_rest}
use Rattle.item.specs.Contents.{record_with, no_args}
use Rattle.item.specs.declared.Item.TheVariants as records
use Rattle.item.specs.declared.Tag.TheVariants.{Plain}
use Rattle.records.specs.steps.Views.{input_item, record_read, alone, read_is, tidy_answer, RestRead}
use Rattle.kinds.specs.steps.Kinds.{input_kind}
use Rattle.records.specs.declared.RecordRead.{RecordRead}
use Rattle.records.specs.declared.RecordAnswer.TheVariants as answers

-- ---- n numbers are got, or the bytes run out

abbrev pub Numbers : ℕ → Reading (List (Value Part)) → Type 0
Numbers n (got vs next) = (map num (numbers vs) ≡ vs) × (length (numbers vs) ≡ n)
Numbers n runs_out = Unit
Numbers n (refused r) = ⊥

one_more : (n : ℕ) (z : ℤ) (x : Reading (List (Value Part))) → Numbers n x → Numbers (suc n) (push (num z) x)
unfolding numbers
one_more n z (got vs next) h = (ap (λ (l : List (Value Part)). num z ∷ l) h.0, ap suc h.1)
one_more n z runs_out h = tt
one_more n z (refused r) h = h

after : (n : ℕ) (s : List ℕ) → ((at : ℕ) → Numbers n (read_fields (replicate n int) s at)) → (i : IntRead)
    → Numbers (suc n) (and_then (int_field i) (read_fields (replicate n int) s))
after n s h (ints.Got z next r) = one_more n z (read_fields (replicate n int) s next) (h next)
after n s h ints.RunsOut = tt

pub all_numbers : (n : ℕ) (s : List ℕ) (at : ℕ) → Numbers n (read_fields (replicate n int) s at)
unfolding numbers
all_numbers zero s at = (refl, refl)
all_numbers (suc n) s at = after n s (all_numbers n s) (read_int s at)

-- ---- the record that the code makes of them

abbrev pub input_record : Bool → InputAnswer → List ℤ → RecordRead
input_record new (inputs.Got cid next) ten = record_read (answers.Got next) (record_with (input_item new cid) ten no_args)
input_record new inputs.RunsOut ten = alone answers.RunsOut records.Finish

split : (ns : List ℤ) (vs : List (Value Part)) → map num ns ≡ vs → length ns ≡ 11 → num (get_or ns 0 (pos 0)) ∷ map num (drop 1 ns) ≡ vs
split [] vs e l = absurd (omega arith)
split (z ∷ ns) vs e l = e

input_values : (new : Bool) (x : Reading (List (Value Part))) → Numbers 11 x
    → read_is (input_record new (input_read x).answer (input_read x).input) ≡ as_content (Plain (input_kind new)) x
input_values true (got vs next) h =
    ap (λ (l : List (Value Part)). got (content (Plain (input_kind true)) l) next) (split (numbers vs) vs h.0 h.1)
input_values false (got vs next) h =
    ap (λ (l : List (Value Part)). got (content (Plain (input_kind false)) l) next) (split (numbers vs) vs h.0 h.1)
input_values new runs_out h = refl
input_values new (refused r) h = absurd h

input_tidy : (new : Bool) (a : InputAnswer) (ten : List ℤ)
    → tidy_answer (input_record new a ten).answer (input_record new a ten).value ≡ (input_record new a ten).value
input_tidy true (inputs.Got cid next) ten = refl
input_tidy false (inputs.Got cid next) ten = refl
input_tidy new inputs.RunsOut ten = refl

input_is : (new : Bool) (s : List ℕ) (at : ℕ) → as_content (Plain (input_kind new)) (read_fields input_fields s at) ≡ read_rest (input_kind new) s at
unfolding read_rest
input_is true s at = refl
input_is false s at = refl

pub input_rest : (new : Bool) (s : List ℕ) (at : ℕ) (i : InputRead) (a : InputAnswer)
    → i ≡ input_read (read_fields input_fields s at) → i.answer ≡ a → RestRead (input_kind new) s at (input_record new a i.input)
input_rest new s at i a e f =
    rw (← f, e) (record {
      values = input_values new (read_fields input_fields s at) (all_numbers 11 s at) ∙ input_is new s at;
      tidy = input_tidy new (input_read (read_fields input_fields s at)).answer (input_read (read_fields input_fields s at)).input;
    })
