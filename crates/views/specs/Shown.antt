-- What the views of refusals and records show tells them apart: where the views are the same, so is what was viewed.
use Rattle.std.specs.Prelude.{◌≡◌}
use Rattle.refusal.specs.Numbers.{number_of, values_of}
use Rattle.refusal.specs.declared.Refusal.{Refusal}
use Rattle.item.specs.Contents.{item_of, record_of, tidy_record}
use Rattle.item.specs.declared.Item.{Item}
use Rattle.item.specs.declared.Record.{Record}

-- a refusal is known by its number and values
abbrev pub RefusalsShown : Type 0
RefusalsShown = (a b : Refusal) → number_of a ≡ number_of b → values_of a ≡ values_of b → a ≡ b

-- a record is known by its content
abbrev pub ItemsShown : Type 0
ItemsShown = (a b : Item) → item_of a ≡ item_of b → a ≡ b

-- with what stands beside it too, if nothing stands there that does not belong to the record
abbrev pub RecordsShown : Type 0
RecordsShown = (a b : Record) → tidy_record a ≡ a → tidy_record b ≡ b → record_of a ≡ record_of b → a ≡ b
