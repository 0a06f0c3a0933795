-- A command: its arguments stand beside it, or are passed over. Assumes nothing.
use Prim.Native.Nat.{ℕ}
use mathlib.Core.Path.{◌≡◌, refl, sym, ◌∙◌, ap}
use mathlib.Core.List.{List, [], ◌∷◌}
use lib.ListN.{take}
use lib.Seq.{take-append_seam}
use lib.IntN.{ℤ, pos, negsuc}
use Rattle.varint.specs.Integers.{read_int}
use Rattle.varint.specs.declared.IntRead.{IntRead}
use Rattle.varint.specs.declared.IntRead.TheVariants as ints
use Rattle.packer.specs.declared.Part.{Part}
use Rattle.fields.specs.Fields.{args, Value, num, bytes, strings, Reading, got, runs_out, refused, args_from, read_field, read_fields}
use Rattle.fields.specs.steps.Sorts.{as_strings, args_field, push, and_then}
use Rattle.fields.specs.Views.{zeros, args_with}
use Rattle.fields.specs.steps.Reads.{args_read, field_parts}
use Rattle.fields.specs.declared.ArgsAnswer.{ArgsAnswer}
use Rattle.fields.specs.declared.ArgsAnswer.TheVariants as arguments
use Rattle.fields.specs.declared.ArgsRead.{ArgsRead}
use Rattle.fields.proofs.Appended.{joined, fields_joined}
use Rattle.item.specs.Records.{Content, content, as_content, read_rest}
use Rattle.item.specs.Contents.{record_with}
use Rattle.item.specs.Own.{own_fields}
use Rattle.kinds.specs.declared.Kind.TheVariants as kinds
use Rattle.item.specs.declared.Item.TheVariants as records
use Rattle.item.specs.declared.Tag.TheVariants.{Plain}
use Rattle.records.specs.steps.Views.{item_is, own, head_is, command_read, read_is, tidy_answer, RestRead}
use Rattle.records.specs.declared.ItemRead.{ItemRead}
use Rattle.records.specs.declared.ItemRead.TheVariants as items
use Rattle.records.specs.declared.HeadRead.{HeadRead}
use Rattle.records.specs.declared.HeadRead.TheVariants as heads
use Rattle.records.specs.declared.RecordRead.{RecordRead}

-- ---- the arguments are several strings

strings_again : (z : Reading (List Part)) → as_strings z ≡ as_strings (field_parts (as_strings z))
strings_again (got ps next) = refl
strings_again runs_out = refl
strings_again (refused r) = refl

args_again : (s : List ℕ) (i : IntRead) → args_field s i ≡ as_strings (field_parts (args_field s i))
args_again s (ints.Got (pos n) next r) = strings_again (args_from n s [] next)
args_again s (ints.Got (negsuc n) next r) = refl
args_again s ints.RunsOut = refl

-- as many of the parts as there are arguments
kept : (ps : List Part) → take (args_with ps).count (args_with ps).parts ≡ ps
unfolding args_with
kept ps = take-append_seam ps _

-- ---- a command with the arguments that were read

module _ (cid : ℤ) (n : ℕ) (cmd : Part) where
  abbrev made : Reading (List Part) → RecordRead
  made z = command_read (args_read z).answer (records.ConsoleCommand cid n cmd) (args_read z).args

  -- the record of its arguments' field, which is the last
  abbrev before : List ℕ → Reading (Value Part) → Reading (Content Part)
  before s v = as_content (Plain kinds.ConsoleCommand) (push (num cid) (push (num (pos n)) (push (bytes cmd) (and_then v (read_fields [] s)))))

  values : (s : List ℕ) (z : Reading (List Part)) → read_is (made z) ≡ before s (as_strings z)
  values s (got ps next) =
      ap (λ (l : List Part). got (content (Plain kinds.ConsoleCommand) (num cid ∷ num (pos n) ∷ bytes cmd ∷ strings l ∷ [])) next) (kept ps)
  values s runs_out = refl
  values s (refused r) = refl

  tidy : (z : Reading (List Part)) → tidy_answer (made z).answer (made z).value ≡ (made z).value
  tidy (got ps next) = ap (λ (l : List Part). record_with (records.ConsoleCommand cid n cmd) (zeros 10) (args_with l)) (kept ps)
  tidy runs_out = refl
  tidy (refused r) = refl

  -- without them

  abbrev pub item_after : ArgsAnswer → ItemRead
  item_after (arguments.Got next) = items.Got (records.ConsoleCommand cid n cmd) next
  item_after arguments.RunsOut = items.RunsOut
  item_after (arguments.Refused r) = items.Refused r

  own_before : (s : List ℕ) (z : Reading (List Part)) → item_is (item_after (args_read z).answer) ≡ own (before s (as_strings z))
  own_before s (got ps next) = refl
  own_before s runs_out = refl
  own_before s (refused r) = refl

-- ---- the record in the window

abbrev after_head : List ℕ → HeadRead → Reading (Content Part)
after_head s (heads.Got cid n cmd next) = before cid n cmd s (read_field args s next)
after_head s heads.RunsOut = runs_out

module _ (s : List ℕ) (at : ℕ) (h : HeadRead) (is : head_is h ≡ read_fields (own_fields (Plain kinds.ConsoleCommand)) s at) where
  head_joined : (x : HeadRead) → after_head s x ≡ as_content (Plain kinds.ConsoleCommand) (joined (head_is x) (read_fields (args ∷ []) s))
  head_joined (heads.Got cid n cmd next) = refl
  head_joined heads.RunsOut = refl

  head_rest : (x : HeadRead) → h ≡ x → after_head s x ≡ read_rest kinds.ConsoleCommand s at
  unfolding read_rest
  head_rest x e =
      head_joined x
      ∙ ap (λ (y : Reading (List (Value Part))). as_content (Plain kinds.ConsoleCommand) (joined y (read_fields (args ∷ []) s))) (ap head_is (sym e) ∙ is)
      ∙ ap (as_content (Plain kinds.ConsoleCommand)) (sym (fields_joined (own_fields (Plain kinds.ConsoleCommand)) (args ∷ []) s at))

  pub no_head : h ≡ heads.RunsOut → runs_out ≡ read_rest kinds.ConsoleCommand s at
  no_head e = head_rest heads.RunsOut e

  module _ (cid : ℤ) (n : ℕ) (cmd : Part) (next : ℕ) (e : h ≡ heads.Got cid n cmd next) where
    abbrev given : Reading (List Part)
    given = field_parts (read_field args s next)

    behind : before cid n cmd s (as_strings given) ≡ read_rest kinds.ConsoleCommand s at
    behind = ap (before cid n cmd s) (sym (args_again s (read_int s next))) ∙ head_rest (heads.Got cid n cmd next) e

    pub command_rest : (x : ArgsRead) → x ≡ args_read given
        → RestRead kinds.ConsoleCommand s at (command_read x.answer (records.ConsoleCommand cid n cmd) x.args)
    command_rest x q = rw q (record { values = values cid n cmd s given ∙ behind; tidy = tidy cid n cmd given })

    pub command_own : (x : ArgsAnswer) → x ≡ (args_read given).answer
        → item_is (item_after cid n cmd x) ≡ own (read_rest kinds.ConsoleCommand s at)
    command_own x q = rw q (own_before cid n cmd s given) ∙ ap own behind
