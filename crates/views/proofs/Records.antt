-- A record with what stands beside it is known by its content. Assumes nothing.
use mathlib.Core.Path.{◌≡◌, refl, sym, ap, ◌∙◌}
use mathlib.Core.List.{List, [], ◌∷◌, map, append_cancel_left}
use lib.ListN.{take}
use lib.IntN.{ℤ}
use Rattle.packer.specs.declared.Part.{Part}
use Rattle.fields.specs.Fields.{Value, num}
use Rattle.fields.specs.Views.{zeros, numbers}
use Rattle.fields.specs.declared.Args.{Args}
use Rattle.item.specs.Records.{Content}
use Rattle.item.specs.Contents.{item_of, with_beside, no_args, record_with}
use Rattle.item.specs.steps.Beside.{beside_values, beside, tidy_beside, tidy_tag}
use Rattle.kinds.specs.Kinds.{Beside, nothing, ten, arguments, of_extension, kind_row}
use Rattle.item.specs.declared.Tag.{Tag}
use Rattle.item.specs.declared.Tag.TheVariants.{Plain, Named, Other}
use Rattle.item.specs.declared.Item.{Item}
use Rattle.item.specs.declared.Record.{Record}
use Rattle.views.specs.Shown.{RecordsShown}
use Rattle.views.proofs.Items.{same_item}

-- ---- what stands beside a record, from the content

abbrev nums : List ℤ → List (Value Part)
nums zs = map num zs

numbers_num : (zs : List ℤ) → numbers (nums zs) ≡ zs
unfolding numbers
numbers_num [] = refl
numbers_num (z ∷ zs) = ap (λ (l : List ℤ). z ∷ l) (numbers_num zs)

pub same_ten : (a b : List ℤ) → nums a ≡ nums b → a ≡ b
same_ten a b e = sym (numbers_num a) ∙ ap numbers e ∙ numbers_num b

pub same_beside : (i : Item) (zs zs' : List ℤ) (xs ys : Args) → with_beside (item_of i) zs xs ≡ with_beside (item_of i) zs' ys
    → beside (item_of i).tag zs xs ≡ beside (item_of i).tag zs' ys
same_beside i zs zs' xs ys e = append_cancel_left (item_of i).values _ _ (ap (λ (c : Content Part). c.values) e)

-- ---- and nothing else stands there

module _ (a b : Record) (i : a.item ≡ b.item) where
  same_none : record_with a.item (zeros 10) no_args ≡ a → record_with b.item (zeros 10) no_args ≡ b → a ≡ b
  same_none ta tb = sym ta ∙ rw i tb

  same_input : record_with a.item a.input no_args ≡ a → record_with b.item b.input no_args ≡ b
      → nums a.input ≡ nums b.input → a ≡ b
  same_input ta tb e = let t : a.input ≡ b.input = same_ten a.input b.input e in sym ta ∙ rw (i, t) tb

  same_by : (k : Beside) → tidy_beside k a ≡ a → tidy_beside k b ≡ b
      → beside_values k a.input a.args ≡ beside_values k b.input b.args → a ≡ b
  same_by nothing ta tb e = same_none ta tb
  same_by ten ta tb e = same_input ta tb e
  same_by arguments ta tb e =
      let t : take a.args.count a.args.parts ≡ take b.args.count b.args.parts = cc in sym ta ∙ rw (i, t) tb
  same_by of_extension ta tb e = same_none ta tb

  same_tag : (t : Tag) → tidy_tag t a ≡ a → tidy_tag t b ≡ b → beside t a.input a.args ≡ beside t b.input b.args → a ≡ b
  same_tag (Plain k) ta tb e = same_by (kind_row k).beside ta tb e
  same_tag (Named k) ta tb e = same_none ta tb
  same_tag Other ta tb e = same_none ta tb

pub records_shown : RecordsShown
records_shown a b ta tb e =
    let i : a.item ≡ b.item = same_item a.item b.item a.input b.input a.args b.args e in
    same_tag a b i (item_of a.item).tag ta (rw i tb)
    (same_beside a.item a.input b.input a.args b.args
    (e ∙ ap (λ (j : Item). with_beside (item_of j) b.input b.args) (sym i)))
