-- The number of a record's kind, for rows and lines.
use Rattle.std.specs.Prelude.{ℤ, negsuc}
use Rattle.kinds.specs.Kinds.{kind_number}
use Rattle.item.specs.declared.Tag.{Tag}
use Rattle.item.specs.declared.Tag.TheVariants.{Plain, Named, Other}

-- -11 for every extension
abbrev pub tag_number : Tag → ℤ
tag_number (Plain k) = kind_number k
tag_number (Named e) = negsuc 10
tag_number Other = negsuc 10
