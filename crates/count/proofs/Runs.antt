-- Runs of calls on a whole body: what a first call adds to the number of events. Assumes nothing.
use Rattle.std.specs.Prelude.{Option, Some, None}
use Prim.Native.Nat.{ℕ, suc}
use native.Mathlib.Omega.{arith}
use mathlib.Core.Path.{◌≡◌, refl}
use mathlib.Core.Bool.{Bool, true}
use mathlib.Core.List.{List}
use lib.ListN.{length, drop}
use Rattle.item.specs.Said.{Said, gives, more, finish, refuses}
use Rattle.kinds.specs.declared.Version.{Version}
use Rattle.state.specs.State.{empty_reader}
use Rattle.state.specs.Reading.{Event, read_call, reader_after}
use Rattle.state.specs.declared.Reader.{Reader}
use Rattle.calls.specs.Along.{along, all_of, calls}
use Rattle.calls.specs.Laws.{Within}
use Rattle.calls.proofs.Theorems.{events_of_few}
use Rattle.calls.proofs.Runs.{follow}
use Rattle.count.specs.Count.{events_in, most, event_count, used_by}

pub sees_all : (last : Bool) → Within (all_of last)
sees_all last bytes = omega arith

-- the events of a run of at most so many calls
abbrev pub events : ℕ → Reader → List ℕ → ℕ
events k r w = length (calls k r w true).seen

pub no_calls : (r : Reader) (w : List ℕ) → events 0 r w ≡ 0
unfolding along
no_calls r w = refl

-- so many calls as a count goes to
pub most_calls_law : (v : Version) (body : List ℕ) → events most (empty_reader v) body ≡ event_count v body
unfolding events_in
most_calls_law v body = events_of_few (all_of true) (sees_all true) most (empty_reader v) body

-- ---- by the bytes that the first call's event used, if it gives one

abbrev Counts : ℕ → Reader → List ℕ → ℕ → Option ℕ → Type 0
Counts k r w n (Some used) = n ≡ suc (events k (reader_after (read_call r w true)) (drop used w))
Counts k r w n None = n ≡ 0

said_counts : (k : ℕ) (r : Reader) (w : List ℕ) (a : Said Event) → Counts k r w (length (follow (all_of true) k r w a).seen) (used_by a)
said_counts k r w (gives e n) = refl
said_counts k r w more = refl
said_counts k r w (finish n) = refl
said_counts k r w (refuses j vs) = refl

pub first_counts : (k : ℕ) (r : Reader) (w : List ℕ) (u : Option ℕ) → u ≡ used_by (read_call r w true).said → Counts k r w (events (suc k) r w) u
unfolding along
first_counts k r w u e = rw e (said_counts k r w (read_call r w true).said)
