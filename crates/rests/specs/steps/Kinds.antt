-- Which kinds share a function of this crate.
use Rattle.std.specs.Prelude.{Bool, true, false, ℤ, Option, Some, None}
use Rattle.kinds.specs.declared.Kind.{Kind}
use Rattle.kinds.specs.declared.Kind.TheVariants as kinds
use Rattle.state.specs.Sorts.{Sort, sort_of}
use Rattle.state.specs.Sorts as sorts

abbrev pub pair_kind : Bool → ℤ → Kind
pair_kind true cid = kinds.PlayerNew cid
pair_kind false cid = kinds.PlayerDiff cid

-- a record that changes no entry
abbrev pub other_sort : Sort → Bool
other_sort (sorts.player p c) = false
other_sort (sorts.input new) = false
other_sort sorts.skip = false
other_sort sorts.finish = false
other_sort (sorts.other ex) = true

abbrev pub is_other : Kind → Bool
is_other k = other_sort (sort_of k)

-- of an input, whether it is an InputNew
abbrev pub input_of : Sort → Option Bool
input_of (sorts.player p c) = None
input_of (sorts.input new) = Some new
input_of sorts.skip = None
input_of sorts.finish = None
input_of (sorts.other ex) = None
