-- How many events a body has.
use Rattle.std.specs.Prelude.{ℕ, min, Bool, true, false, List, length, Option, Some, None}
use Rattle.item.specs.Said.{Said, gives, more, finish, refuses}
use Rattle.kinds.specs.declared.Version.{Version}
use Rattle.kinds.specs.declared.Version.TheVariants.{V1, V2}
use Rattle.state.specs.State.{empty_reader}
use Rattle.state.specs.Reading.{Event}
use Rattle.calls.specs.Along.{calls, enough}

abbrev pub version_if : Bool → Version
version_if true = V2
version_if false = V1

-- the events before finish or a refusal, the body read whole from an empty reader
unfoldable pub events_in : Version → List ℕ → ℕ
events_in v body = length (calls (enough body) (empty_reader v) body true).seen

-- a count goes to 2^62, which no body in a memory reaches
abbrev pub most : ℕ
most = 4611686018427387904

abbrev pub event_count : Version → List ℕ → ℕ
event_count v body = min most (events_in v body)

-- the bytes that the event of a call used
abbrev pub used_by : Said Event → Option ℕ
used_by (gives e n) = Some n
used_by more = None
used_by (finish n) = None
used_by (refuses k vs) = None
