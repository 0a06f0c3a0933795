-- What stands beside a record, by kind and by tag.
use Rattle.std.specs.Prelude.{List, [], ◌∷◌, map, get_or, ℤ, pos}
use Rattle.packer.specs.declared.Part.{Part}
use Rattle.fields.specs.Fields.{Value, num, strings, on_num}
use Rattle.fields.specs.Views.{zeros, args_with}
use Rattle.fields.specs.declared.Args.{Args}
use Rattle.kinds.specs.Kinds.{Beside, by_beside, kind_row}
use Rattle.kinds.specs.declared.Kind.{Kind}
use Rattle.item.specs.Contents.{beside_of, parts_of, no_args, record_with}
use Rattle.item.specs.declared.Tag.{Tag}
use Rattle.item.specs.declared.Record.{Record}

abbrev pub beside_values : Beside → List ℤ → Args → List (Value Part)
beside_values b zs xs = by_beside [] (map num zs) (strings (parts_of xs) ∷ []) [] b

abbrev pub beside_kind : Kind → List ℤ → Args → List (Value Part)
beside_kind k zs xs = beside_values (kind_row k).beside zs xs

abbrev pub beside : Tag → List ℤ → Args → List (Value Part)
beside t zs xs = beside_values (beside_of t) zs xs

abbrev pub tidy_beside : Beside → Record → Record
tidy_beside b r =
    record_with r.item (by_beside (zeros 10) r.input (zeros 10) (zeros 10) b) (by_beside no_args no_args (args_with (parts_of r.args)) no_args b)

abbrev pub tidy_tag : Tag → Record → Record
tidy_tag t r = tidy_beside (beside_of t) r

abbrev pub tidy_kind : Kind → Record → Record
tidy_kind k r = tidy_beside (kind_row k).beside r

-- the first number of a record's values
abbrev pub first_number : List (Value Part) → ℤ
first_number vs = on_num (pos 0) (λ z. z) (get_or vs 0 (num (pos 0)))
