-- What holds of calls one behind the other, as statements; proofs/Theorems.antt proves each.
use Rattle.std.specs.Prelude.{ℕ, ◌+◌, ◌≤◌, min, ◌≡◌, Bool, false, List, [], ◌∷◌, ◌++◌, length, drop}
use Rattle.item.specs.Said.{Said, gives, more, finish, refuses}
use Rattle.kinds.specs.declared.Version.{Version}
use Rattle.state.specs.State.{empty_reader}
use Rattle.state.specs.Reading.{Event, read_call, reader_after}
use Rattle.state.specs.Laws.{used_in, Sound, ForgetsBetween}
use Rattle.state.specs.declared.Reader.{Reader}
use Rattle.calls.specs.Calls.{Call, Seen, after, events}
use Rattle.calls.specs.Along.{Halt, is_full, wants_more, finishes, is_refused, Run, along, enough}

-- ---- one call

-- it uses at most its window
abbrev pub CallWithin : Type 0
CallWithin = (r : Reader) (w : List ℕ) (last : Bool) → used_in (read_call r w last).said ≤ length w

-- more comes only where the flag is off, and leaves the reader
abbrev pub MoreLeaves : Type 0
MoreLeaves =
    (r : Reader) (w : List ℕ) (last : Bool) → (read_call r w last).said ≡ more
    → (last ≡ false) × (reader_after (read_call r w last) ≡ r)

abbrev pub NotMore : Said Event → Type 0
NotMore (gives e n) = Unit {0}
NotMore more = ⊥
NotMore (finish n) = Unit {0}
NotMore (refuses k vs) = Unit {0}

-- a call that does not want more says and leaves the same on a longer window, with either flag
abbrev pub CallLonger : Type 0
CallLonger =
    (r : Reader) (w x : List ℕ) (last : Bool) → NotMore (read_call r w false).said → read_call r (w ++ x) last ≡ read_call r w false

-- ---- readers reached by reading: by any list of calls from an empty one

-- each is good
abbrev pub ReachedSound : Type 0
ReachedSound = (v : Version) (list : List Call) → Sound (after (empty_reader v) list)

-- an open one outside a tick, with nothing pending, remembers no client
abbrev pub ReachedForgetBetween : Type 0
ReachedForgetBetween = (v : Version) (list : List Call) → ForgetsBetween (after (empty_reader v) list).scalars

-- ---- calls along bytes

unfoldable pub last_first : List Seen → List Seen
last_first [] = []
last_first (x ∷ xs) = last_first xs ++ x ∷ []

-- a run is that of a list of calls: what holds of lists of calls holds of runs
pub record IsList (r : Reader) (run : Run) : Type 0 where
  pub list : List Call
  pub left : after r list ≡ run.reader
  pub same : events r list ≡ last_first run.seen

abbrev pub RunsAreLists : Type 0
RunsAreLists = (see : List ℕ → Call) (k : ℕ) (r : Reader) (bytes : List ℕ) → IsList r (along see k r bytes)

-- a run, and one that goes on where nothing but the number of calls ended it
abbrev pub continued : Halt → Run → Run → Run
continued is_full a b = record { seen = a.seen ++ b.seen; halt = b.halt; used = a.used + b.used; reader = b.reader }
continued wants_more a b = a
continued finishes a b = a
continued (is_refused k vs) a b = a

-- a run of a + b calls is one of a and then one of b
abbrev pub RunsSplit : Type 0
RunsSplit =
    (see : List ℕ → Call) (a b : ℕ) (r : Reader) (bytes : List ℕ) → let first = along see a r bytes in
    along see (a + b) r bytes ≡ continued first.halt first (along see b first.reader (drop first.used bytes))

-- no more events than calls; as many, where nothing else ended the run
abbrev pub FewEvents : Type 0
FewEvents =
    (see : List ℕ → Call) (k : ℕ) (r : Reader) (bytes : List ℕ) → let run = along see k r bytes in
    (length run.seen ≤ k) × (run.halt ≡ is_full → length run.seen ≡ k)

-- each event has ten numbers and ten former ones beside it
unfoldable pub TensBeside : List Seen → Type 0
TensBeside [] = Unit {0}
TensBeside (x ∷ xs) = ((length x.ten ≡ 10) × (length x.former ≡ 10)) × TensBeside xs

abbrev pub RunTens : Type 0
RunTens = (see : List ℕ → Call) (k : ℕ) (r : Reader) (bytes : List ℕ) → TensBeside (along see k r bytes).seen

-- no call sees more than the bytes that are left
abbrev pub Within : (List ℕ → Call) → Type 0
Within see = (bytes : List ℕ) → length (see bytes).window ≤ length bytes

abbrev pub RunWithin : Type 0
RunWithin =
    (see : List ℕ → Call) → Within see → (k : ℕ) (r : Reader) (bytes : List ℕ) → (along see k r bytes).used ≤ length bytes

-- more calls than enough change nothing
abbrev pub EnoughCalls : Type 0
EnoughCalls =
    (see : List ℕ → Call) → Within see → (k : ℕ) (r : Reader) (bytes : List ℕ)
    → along see (enough bytes + k) r bytes ≡ along see (enough bytes) r bytes

-- at most k calls give all the events, or the first k
abbrev pub EventsOfFew : Type 0
EventsOfFew =
    (see : List ℕ → Call) → Within see → (k : ℕ) (r : Reader) (bytes : List ℕ)
    → length (along see k r bytes).seen ≡ min k (length (along see (enough bytes) r bytes).seen)
