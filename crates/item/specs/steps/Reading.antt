-- Reading a record and its remarks, step by step, by name.
use Rattle.std.specs.Prelude.{ℕ, ◌+◌, List}
use Rattle.varint.specs.Integers.{read_int}
use Rattle.varint.specs.declared.IntRead.{IntRead}
use Rattle.packer.specs.Parts.{shown, read_data}
use Rattle.packer.specs.declared.Part.{Part}
use Rattle.packer.specs.declared.PartRead.{PartRead}
use Rattle.packer.specs.declared.DataRead.{DataRead}
use Rattle.fields.specs.Fields.{Reading, got, with_got, with_part, with_data}
use Rattle.fields.specs.Remarks.{remark_in, if_got}
use Rattle.kinds.specs.declared.Kind.{Kind}
use Rattle.extensions.specs.Extensions.{find}
use Rattle.item.specs.Records.{Content, rest_of, of_found, read_rest}
use Rattle.item.specs.Remarks.{found_remarks, rest_remarks, client_remark}

-- the fields of an extension stand in its data; what is left of the data is spare
abbrev pub up_to : ℕ → Reading (Content Part) → Reading (Content Part)
up_to end x = with_got x (λ c next. got c end)

abbrev pub after_data : List ℕ → Part → DataRead → Reading (Content Part)
after_data s id x = with_data x (λ p next. of_found s id p (find (shown s id)) next)

abbrev pub after_id : List ℕ → PartRead → Reading (Content Part)
after_id s x = with_part x (λ id n. after_data s id (read_data s n))

abbrev pub after_kind : List ℕ → Reading Kind → Reading (Content Part)
after_kind s x = with_got x (λ k. read_rest k s)

-- ---- remarks

abbrev pub data_remarks : List ℕ → Part → DataRead → ℕ
data_remarks s id x = if_got (with_data x got) (λ p next. found_remarks s p (find (shown s id)) next)

abbrev pub id_remarks : List ℕ → PartRead → ℕ
id_remarks s x = if_got (with_part x got) (λ id n. remark_in (read_int s n) + data_remarks s id (read_data s n))

abbrev pub remarks_after : List ℕ → IntRead → Reading Kind → ℕ
remarks_after s i x = if_got x (λ k next. remark_in i + (client_remark k s i + rest_remarks s (rest_of k) next))
