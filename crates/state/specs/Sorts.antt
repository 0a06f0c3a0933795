-- Records, as far as the rules tell them apart. docs/FORMAT.md, "Ticks and the board".
use Rattle.std.specs.Prelude.{true}
pub use Rattle.kinds.specs.Kinds.{Change, moves, comes, leaves, Sort, player, input, skip, finish, other, sort_of}
use Rattle.item.specs.declared.Tag.{Tag}
use Rattle.item.specs.declared.Tag.TheVariants.{Plain, Named, Other}

abbrev pub tag_sort : Tag → Sort
tag_sort (Plain k) = sort_of k
tag_sort (Named k) = other true
tag_sort Other = other true
