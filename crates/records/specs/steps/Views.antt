-- What the functions of this crate hand over, as the definitions say it.
use Rattle.std.specs.Prelude.{ℕ, ◌≡◌, Bool, true, false, List, [], ◌∷◌, ℤ, pos}
use Rattle.packer.specs.declared.Part.{Part}
use Rattle.fields.specs.Fields.{Value, num, bytes, Reading, got, runs_out, refused}
use Rattle.fields.specs.Views.{zeros}
use Rattle.fields.specs.declared.Args.{Args}
use Rattle.fields.specs.declared.ArgsAnswer.{ArgsAnswer}
use Rattle.fields.specs.declared.ArgsAnswer.TheVariants as args
use Rattle.shapes.specs.declared.Shape.TheVariants as shapes
use Rattle.item.specs.Records.{Content, read_rest, read_record}
use Rattle.item.specs.Contents.{item_of, record_with, no_args, record_of, blank, tidy_record}
use Rattle.item.specs.Own.{own_content}
use Rattle.kinds.specs.declared.Version.{Version}
use Rattle.kinds.specs.declared.Kind.{Kind}
use Rattle.kinds.specs.declared.Kind.TheVariants as kinds
use Rattle.item.specs.declared.Item.{Item}
use Rattle.item.specs.declared.Item.TheVariants as records
use Rattle.item.specs.declared.Record.{Record}
use Rattle.records.specs.declared.ItemRead.{ItemRead}
use Rattle.records.specs.declared.ItemRead.TheVariants as items
use Rattle.records.specs.declared.Rest.{Rest}
use Rattle.records.specs.declared.Rest.TheVariants as rests
use Rattle.records.specs.declared.HeadRead.{HeadRead}
use Rattle.records.specs.declared.HeadRead.TheVariants as heads
use Rattle.records.specs.declared.RecordAnswer.{RecordAnswer}
use Rattle.records.specs.declared.RecordAnswer.TheVariants as answers
use Rattle.records.specs.declared.RecordRead.{RecordRead}

-- ---- a record without what stands beside it

abbrev pub own : Reading (Content Part) → Reading (Content Part)
own (got c next) = got (own_content c) next
own runs_out = runs_out
own (refused r) = refused r

abbrev pub item_is : ItemRead → Reading (Content Part)
item_is (items.Got i next) = got (item_of i) next
item_is items.RunsOut = runs_out
item_is (items.Refused r) = refused r

-- ---- how the code reads the rest of a kind

abbrev pub rest_code : Kind → Rest
rest_code (kinds.PlayerDiff c) = rests.Shaped shapes.IntInt
rest_code kinds.Finish = rests.Shaped shapes.Nothing
rest_code kinds.TickSkip = rests.Dt
rest_code (kinds.PlayerNew c) = rests.Shaped shapes.IntInt
rest_code (kinds.PlayerOld c) = rests.Shaped shapes.Nothing
rest_code kinds.InputDiff = rests.Input false
rest_code kinds.InputNew = rests.Input true
rest_code kinds.Message = rests.Shaped shapes.IntData
rest_code kinds.Join = rests.Shaped shapes.Int
rest_code kinds.Drop = rests.Shaped shapes.IntStr
rest_code kinds.ConsoleCommand = rests.Command
rest_code kinds.Ex = rests.Extension

abbrev pub is_shaped : Rest → Bool
is_shaped (rests.Shaped shape) = true
is_shaped rests.Dt = false
is_shaped (rests.Input new) = false
is_shaped rests.Command = false
is_shaped rests.Extension = false

abbrev pub input_item : Bool → ℤ → Item
input_item true cid = records.InputNew cid
input_item false cid = records.InputDiff cid

abbrev pub record_read : RecordAnswer → Record → RecordRead
record_read a r = record { answer = a; value = r }

abbrev pub alone : RecordAnswer → Item → RecordRead
alone a i = record_read a (record_with i (zeros 10) no_args)

-- a command before its arguments
abbrev pub head_is : HeadRead → Reading (List (Value Part))
head_is (heads.Got cid flags cmd next) = got (num cid ∷ num (pos flags) ∷ bytes cmd ∷ []) next
head_is heads.RunsOut = runs_out

abbrev pub command_read : ArgsAnswer → Item → Args → RecordRead
command_read (args.Got next) i xs = record_read (answers.Got next) (record_with i (zeros 10) xs)
command_read args.RunsOut i xs = alone answers.RunsOut records.Finish
command_read (args.Refused r) i xs = alone (answers.Refused r) records.Finish

abbrev pub whole_of : ItemRead → RecordRead
whole_of (items.Got i next) = alone (answers.Got next) i
whole_of items.RunsOut = alone answers.RunsOut records.Finish
whole_of (items.Refused r) = alone (answers.Refused r) records.Finish

-- ---- a whole record; where there is none, a blank one stands beside the answer

abbrev pub answer_is : RecordAnswer → Record → Reading (Content Part)
answer_is (answers.Got next) r = got (record_of r) next
answer_is answers.RunsOut r = runs_out
answer_is (answers.Refused n) r = refused n

abbrev pub read_is : RecordRead → Reading (Content Part)
read_is r = answer_is r.answer r.value

abbrev pub tidy_answer : RecordAnswer → Record → Record
tidy_answer (answers.Got next) r = tidy_record r
tidy_answer answers.RunsOut r = blank
tidy_answer (answers.Refused n) r = blank

-- the rest of a record of a kind, as the definition reads it
pub record RestRead (kind : Kind) (s : List ℕ) (at : ℕ) (r : RecordRead) : Type 0 where
  pub values : read_is r ≡ read_rest kind s at
  pub tidy : tidy_answer r.answer r.value ≡ r.value

-- a record at the start of a window
pub record RecordAt (v : Version) (s : List ℕ) (r : RecordRead) : Type 0 where
  pub values : read_is r ≡ read_record v s 0
  pub tidy : tidy_answer r.answer r.value ≡ r.value
