-- What the record call hands back, as the definition says it.
use Rattle.std.specs.Prelude.{ℕ, ◌≡◌, Bool, List}
use Rattle.packer.specs.declared.Part.{Part}
use Rattle.item.specs.Said.{Said, gives, more, refusing}
use Rattle.item.specs.Records.{Content, record_call}
use Rattle.item.specs.Contents.{record_of, blank, tidy_record}
use Rattle.kinds.specs.declared.Version.{Version}
use Rattle.item.specs.declared.Record.{Record}
use Rattle.record_call.specs.declared.CallAnswer.{CallAnswer}
use Rattle.record_call.specs.declared.CallAnswer.TheVariants as calls
use Rattle.record_call.specs.declared.RecordCall.{RecordCall}

abbrev pub said_by : CallAnswer → Record → Said (Content Part)
said_by (calls.Got used) r = gives (record_of r) used
said_by calls.More r = more
said_by (calls.Refused n) r = refusing n

abbrev pub tidy_said : CallAnswer → Record → Record
tidy_said (calls.Got used) r = tidy_record r
tidy_said calls.More r = blank
tidy_said (calls.Refused n) r = blank

pub record Called (v : Version) (s : List ℕ) (last : Bool) (r : RecordCall) : Type 0 where
  pub said : said_by r.answer r.value ≡ record_call v s last
  pub tidy : tidy_said r.answer r.value ≡ r.value
