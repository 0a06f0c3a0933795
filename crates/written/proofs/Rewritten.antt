-- A program's record that was read without a remark and without spare payload: the writer doesn't refuse it, and writes the bytes
-- that were read. Assumes nothing.
use Prim.Native.Nat.{ℕ}
use mathlib.Core.Path.{◌≡◌, refl, ap}
use mathlib.Core.Bool.{true, ◌&&◌}
use mathlib.Core.List.{List, [], ◌∷◌, ◌++◌, map}
use native.Mathlib.Omega.{arith}
use lib.ListN.{length, take, length-map}
use lib.Dec.{leb}
use Rattle.varint.specs.Laws.{Bytes}
use Rattle.packer.specs.Parts.{shown}
use Rattle.packer.specs.declared.Part.{Part}
use Rattle.fields.specs.Fields.{int, mask, str, args, Value, strings, got, mean}
use Rattle.fields.specs.Views.{args_with}
use Rattle.fields.specs.Writing.{parts_inside}
use Rattle.fields.specs.steps.Sorts.{all_no_zero}
use Rattle.fields.specs.Forms.{writable, all_writable}
use Rattle.fields.proofs.Answers.{and_both, and_split}
use Rattle.item.specs.Records.{meaning, read_record}
use Rattle.item.specs.Remarks.{record_remarks}
use Rattle.item.specs.Contents.{item_of, record_of, tidy_record}
use Rattle.item.specs.Own.{own_fields}
use Rattle.item.specs.steps.Beside.{beside, tidy_kind, tidy_tag}
use Rattle.kinds.specs.declared.Version.{Version}
use Rattle.kinds.specs.declared.Kind.{Kind}
use Rattle.kinds.specs.declared.Kind.TheVariants as kinds
use Rattle.item.specs.declared.Tag.{Tag}
use Rattle.item.specs.declared.Tag.TheVariants.{Plain, Named, Other}
use Rattle.item.specs.declared.Record.{Record}
use Rattle.item.proofs.Lengths.{lengths}
use Rattle.written.specs.Written.{record_bytes}
use Rattle.written.specs.Form.{tag_count}
use Rattle.written.specs.Form.{tag_writable, content_writable, has_form}
use Rattle.written.proofs.Whole.{record_same}

-- the strings behind three other values are at most 16
strings_few : (s : List ℕ) (xs : List (Value Part)) → length xs ≡ 3 → (ps : List Part)
    → all_writable (int ∷ mask ∷ str ∷ args ∷ []) (map (mean s) (xs ++ strings ps ∷ [])) ≡ true → leb (length (map (shown s) ps)) 16 ≡ true
strings_few s [] h ps w = absurd (omega arith)
strings_few s (a ∷ []) h ps w = absurd (omega arith)
strings_few s (a ∷ b ∷ []) h ps w = absurd (omega arith)
strings_few s (a ∷ b ∷ c ∷ []) h ps w =
    let bs = map (shown s) ps in
    let o = and_split (writable str (mean s c)) ((leb (length bs) 16 && all_no_zero bs) && true) w in
    let p = and_split (leb (length bs) 16 && all_no_zero bs) true o.1 in
    (and_split (leb (length bs) 16) (all_no_zero bs) p.0).0
strings_few s (a ∷ b ∷ c ∷ d ∷ xs) h ps w = absurd (omega arith)

-- so are the arguments of a record that holds nothing else beside its values
module _ (v : Version) (s : List ℕ) (xs : List (Value Part)) (r : Record) where
  command_few : length xs ≡ 3 → tidy_kind kinds.ConsoleCommand r ≡ r → tag_writable v (Plain kinds.ConsoleCommand) (map (mean s) (xs ++ beside (Plain kinds.ConsoleCommand) r.input r.args)) ≡ true
      → leb r.args.count 16 ≡ true
  unfolding args_with
  command_few h tidy w =
      let ps = take r.args.count r.args.parts in
      let n : length ps ≡ r.args.count = ap (λ (x : Record). x.args.count) tidy in
      rw (← n, ← length-map ps (shown s)) (strings_few s xs h ps w)

  kind_few : (k : Kind) → length xs ≡ length (own_fields (Plain k)) → tidy_kind k r ≡ r → tag_writable v (Plain k) (map (mean s) (xs ++ beside (Plain k) r.input r.args)) ≡ true
      → leb (tag_count (Plain k) r.args) 16 ≡ true
  kind_few (kinds.PlayerDiff c) h tidy w = refl
  kind_few kinds.Finish h tidy w = refl
  kind_few kinds.TickSkip h tidy w = refl
  kind_few (kinds.PlayerNew c) h tidy w = refl
  kind_few (kinds.PlayerOld c) h tidy w = refl
  kind_few kinds.InputDiff h tidy w = refl
  kind_few kinds.InputNew h tidy w = refl
  kind_few kinds.Message h tidy w = refl
  kind_few kinds.Join h tidy w = refl
  kind_few kinds.Drop h tidy w = refl
  kind_few kinds.ConsoleCommand h tidy w = command_few h tidy w
  kind_few kinds.Ex h tidy w = refl

  tag_few : (t : Tag) → length xs ≡ length (own_fields t) → tidy_tag t r ≡ r → tag_writable v t (map (mean s) (xs ++ beside t r.input r.args)) ≡ true
      → leb (tag_count t r.args) 16 ≡ true
  tag_few (Plain k) h tidy w = kind_few k h tidy w
  tag_few (Named k) h tidy w = refl
  tag_few Other h tidy w = refl

pub record_rewritten : (v : Version) (s : List ℕ) (r : Record) (next : ℕ) → Bytes s → read_record v s 0 ≡ got (record_of r) next
    → tidy_record r ≡ r → record_remarks v s 0 ≡ 0 → (has_form v s r ≡ true) × (record_bytes s r ≡ take next s)
unfolding content_writable has_form record_bytes
record_rewritten v s r next b g tidy clean =
    let c = record_of r in
    let x = record_same v s c next b g clean in
    let few = tag_few v s (item_of r.item).values r c.tag (lengths r.item) tidy x.writable in (
      and_both (leb (tag_count c.tag r.args) 16) (parts_inside s c.values && content_writable v (meaning s c)) few
          (and_both (parts_inside s c.values) (content_writable v (meaning s c)) x.inside x.writable),
      x.same,
    )
