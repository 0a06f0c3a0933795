-- The arguments as the code reads them: one string more, the array that holds them, and what the answers are. Assumes nothing.
use Rattle.std.specs.Prelude.{Option}
use Prim.Native.Nat.{ℕ, suc, ◌+◌, ◌-◌, ◌≤◌, ◌<◌}
use mathlib.Core.Path.{◌≡◌, refl, sym, ◌∙◌, ap}
use mathlib.Core.List.{List, [], ◌∷◌, ◌++◌}
use native.Mathlib.Omega.{arith}
use native.Mathlib.Numerals.{add-one}
use lib.ListN.{length, take, drop, set, replicate, length-set, take-append-drop}
use lib.Seq.{drop-drop, drop-set-lt, take-suc-set, length-take-le}
use lib.IntN.{pos, negsuc}
use borrow.Author.Tests.{lt-ltb, le-ltb}
use Rattle.refusal.specs.declared.Refusal.TheVariants.{NegativeNumArgs, NumArgsTooLarge}
use Rattle.varint.specs.Integers.{read_int}
use Rattle.varint.specs.declared.Remark.{Remark}
use Rattle.varint.specs.declared.IntRead.TheVariants as ints
use Rattle.packer.specs.Parts.{read_string}
use Rattle.packer.specs.declared.Part.{Part}
use Rattle.packer.specs.declared.PartRead.TheVariants as parts
use Rattle.fields.specs.Fields.{args, Reading, got, runs_out, refused, args_from, read_field}
use Rattle.fields.specs.steps.Sorts.{one_arg, as_strings, no_part}
use Rattle.fields.specs.Views.{args_with}
use Rattle.fields.specs.steps.Reads.{read_args, args_read, field_parts}
use Rattle.fields.specs.declared.Args.{Args}
use Rattle.fields.specs.declared.ArgsAnswer.{ArgsAnswer}
use Rattle.fields.specs.declared.ArgsAnswer.TheVariants as code
use Rattle.fields.specs.declared.ArgsRead.{ArgsRead}

-- ---- the array after so many strings: their parts, then empty ones

pub record Held (ps : List Part) (count : ℕ) : Type 0 where
  pub few : count ≤ 16
  pub size : length ps ≡ 16
  pub empty : drop count ps ≡ replicate (16 - count) no_part

held_none : Held (replicate 16 no_part) 0
held_none = record { few = omega arith; size = refl; empty = refl }

module _ (ps : List Part) (count : ℕ) (h : Held ps count) where
  held_length : length (take count ps) ≡ count
  held_length = length-take-le count ps (omega (arith, h.few, h.size))

  held_args : record { count = count; parts = ps } ≡ args_with (take count ps)
  unfolding args_with
  held_args = rw (held_length, ← h.empty, take-append-drop count ps)

  module _ (p : Part) (room : count < 16) where
    held_rest : drop (count + 1) ps ≡ replicate (16 - (count + 1)) no_part
    held_rest =
        let e : 16 - count ≡ suc (16 - (count + 1)) = omega arith in
        sym (drop-drop 1 count ps) ∙ rw (h.empty, e)

    held_more : Held (set ps count p) (count + 1)
    held_more =
        record {
          few = omega arith;
          size = length-set ps count p ∙ h.size;
          empty = drop-set-lt (count + 1) ps count p (omega arith) ∙ held_rest;
        }

    held_take : take (count + 1) (set ps count p) ≡ take count ps ++ p ∷ []
    held_take = rw add-one (take-suc-set ps count p (omega (arith, h.size)))

-- ---- one string more

module _ (n : ℕ) (s : List ℕ) (had : List Part) (at : ℕ) where
  step : args_from (suc n) s had at ≡ one_arg (read_string s at) had (args_from n s)
  unfolding args_from
  step = refl

  pub step_out : read_string s at ≡ parts.RunsOut → args_from (suc n) s had at ≡ runs_out
  step_out e = step ∙ rw e

  module _ (p : Part) (next : ℕ) (e : read_string s at ≡ parts.Got p next) where
    pub step_more : length had < 16 → args_from (suc n) s had at ≡ args_from n s (had ++ p ∷ []) next
    step_more h = step ∙ rw (e, lt-ltb (length had) 16 h)

    pub step_many : 16 ≤ length had → args_from (suc n) s had at ≡ refused NumArgsTooLarge
    step_many h = step ∙ rw (e, le-ltb (length had) 16 h)

-- ---- so many of n strings were read

pub record Far (s : List ℕ) (at n : ℕ) (ps : List Part) (next count : ℕ) : Type 0 where
  pub held : Held ps count
  pub some : count ≤ n
  pub left : args_from n s [] at ≡ args_from (n - count) s (take count ps) next

abbrev pub answered : ArgsAnswer → Args → ArgsRead
answered a ps = record { answer = a; args = ps }

pub far_start : (s : List ℕ) (at n : ℕ) → Far s at n (replicate 16 no_part) at 0
far_start s at n = let e : n - 0 ≡ n = omega arith in record { held = held_none; some = omega arith; left = rw e }

module _ (s : List ℕ) (at n : ℕ) (ps : List Part) (next count : ℕ) (far : Far s at n ps next count) where
  all_of : n ≤ count → args_from n s [] at ≡ got (take count ps) next
  unfolding args_from
  all_of h = let e : n - count ≡ 0 = omega arith in far.left ∙ rw e

  pub far_done : n ≤ count → answered (code.Got next) (record { count = count; parts = ps }) ≡ args_read (args_from n s [] at)
  far_done h = ap (answered (code.Got next)) (held_args ps count far.held) ∙ sym (ap args_read (all_of h))

  module _ (more : count < n) where
    next_of : args_from n s [] at ≡ args_from (suc (n - (count + 1))) s (take count ps) next
    next_of = let e : n - count ≡ suc (n - (count + 1)) = omega arith in far.left ∙ rw e

    pub far_out : read_string s next ≡ parts.RunsOut → args_from n s [] at ≡ runs_out
    far_out e = next_of ∙ step_out (n - (count + 1)) s (take count ps) next e

    module _ (p : Part) (past : ℕ) (e : read_string s next ≡ parts.Got p past) where
      pub far_many : count ≡ 16 → args_from n s [] at ≡ refused NumArgsTooLarge
      far_many h =
          next_of ∙ step_many (n - (count + 1)) s (take count ps) next p past e (omega (arith, held_length ps count far.held))

      pub far_more : (count ≡ 16 → ⊥) → Far s at n (set ps count p) past (count + 1)
      far_more h =
          let room : count < 16 = omega (arith, far.held.few) in
          let m = step_more (n - (count + 1)) s (take count ps) next p past e (omega (arith, held_length ps count far.held)) in
          record {
            held = held_more ps count far.held p room;
            some = omega arith;
            left = next_of ∙ m ∙ rw (held_take ps count far.held p room);
          }

-- ---- the count before them

strings_read : (x : Reading (List Part)) → args_read x ≡ args_read (field_parts (as_strings x))
strings_read (got ps next) = refl
strings_read runs_out = refl
strings_read (refused r) = refl

module _ (s : List ℕ) (at : ℕ) where
  pub count_out : read_int s at ≡ ints.RunsOut → read_args code.RunsOut [] ≡ args_read (field_parts (read_field args s at))
  count_out e = rw e

  module _ (n next : ℕ) (r : Option Remark) where
    pub count_negative : read_int s at ≡ ints.Got (negsuc n) next r
        → read_args (code.Refused NegativeNumArgs) [] ≡ args_read (field_parts (read_field args s at))
    count_negative e = rw e

    pub count_got : read_int s at ≡ ints.Got (pos n) next r → args_read (args_from n s [] next) ≡ args_read (field_parts (read_field args s at))
    count_got e = rw e (strings_read (args_from n s [] next))
