-- What holds of lists beside a reader and of bodies, as statements; proofs/Theorems.antt proves each. docs/FORMAT.md, "The results list".
use Rattle.std.specs.Prelude.{ℕ, zero, suc, ◌+◌, ◌*◌, ◌≤◌, ◌≡◌, Bool, true, false, List, [], ◌++◌, length, drop, ℤ}
use Rattle.item.specs.Said.{Said, gives, more, finish, refuses}
use Rattle.kinds.specs.declared.Version.{Version}
use Rattle.state.specs.State.{empty_reader}
use Rattle.state.specs.Reading.{Event, read_call, reader_after}
use Rattle.state.specs.declared.Reader.{Reader}
use Rattle.calls.specs.Along.{Halt, is_full, wants_more, finishes, is_refused, Run, calls}
use Rattle.results.specs.Results.{Finish, finish_of, finishes_in, keep, fits}
use Rattle.results.specs.declared.Results.{Results}
use Rattle.listing.specs.Listing.{whole_run, events_of, finishes_of, ListRun, list_run}
use Rattle.listed.specs.Listed.{body_run, body_finishes}

-- ---- the tick of a finish is the reader's at its call

abbrev pub of_event : Said Event → (Event → ℕ → List Finish) → List Finish
of_event (gives e n) f = f e n
of_event more f = []
of_event (finish n) f = []
of_event (refuses k vs) f = []

-- the finishes of calls, each in the tick of the reader that it is read on
unfoldable pub finishes_at : ℕ → Reader → List ℕ → Bool → List Finish
finishes_at zero r w last = []
finishes_at (suc c) r w last =
    let t = read_call r w last in
    of_event t.said (λ e n. finish_of r.scalars.tick e ++ finishes_at c (reader_after t) (drop n w) last)

abbrev pub OpenTick : Type 0
OpenTick =
    (c : ℕ) (r : Reader) (w : List ℕ) (last : Bool)
    → finishes_in r.scalars.tick (events_of (calls c r w last).seen) ≡ finishes_at c r w last

-- ---- a list beside a reader is that of all the bytes: a call that wants more, and the next one on the bytes that it left and further
-- ones behind them, are together one call on all of them, whose list can count that far

pub record Together (first second whole : ListRun) : Type 0 where
  pub halt : second.halt ≡ whole.halt
  pub bytes : first.used + second.used ≡ whole.used
  pub list : second.list ≡ whole.list
  pub reader : second.reader ≡ whole.reader

abbrev pub BesideIsWhole : Type 0
BesideIsWhole =
    (l : Results) (r : Reader) (a b : List ℕ) (last : Bool) → let first = list_run l r (whole_run r a false) in
    let whole = whole_run r (a ++ b) last in
    first.halt ≡ wants_more → fits (keep l (finishes_of r whole)) ≡ true
    → Together first (list_run first.list first.reader (whole_run first.reader (drop first.used a ++ b) last)) (list_run l r whole)

-- ---- a body

-- it ends in finish or a refusal
abbrev pub Ends : Halt → Type 0
Ends is_full = ⊥
Ends wants_more = ⊥
Ends finishes = Unit {0}
Ends (is_refused k vs) = Unit {0}

abbrev pub BodyEnds : Type 0
BodyEnds = (v : Version) (body : List ℕ) → Ends (body_run v body).halt

-- each finish takes 16 bytes at least, so the count of others can always rise that far
abbrev pub FinishesInBytes : Type 0
FinishesInBytes = (v : Version) (body : List ℕ) → 16 * length (body_finishes v body) ≤ length body

-- a refused body is listed up to its refusal: as many calls as it has events give these and no refusal, and the next one is the refused
pub record UpTo (run before : Run) (bytes : List ℕ) (last : Bool) (k : ℕ) (vs : List ℤ) : Type 0 where
  pub halt : before.halt ≡ is_full
  pub seen : before.seen ≡ run.seen
  pub next : (read_call before.reader (drop before.used bytes) last).said ≡ refuses k vs

abbrev pub RefusedListed : Type 0
RefusedListed =
    (v : Version) (body : List ℕ) (k : ℕ) (vs : List ℤ) → (body_run v body).halt ≡ is_refused k vs
    → UpTo (body_run v body) (calls (length (body_run v body).seen) (empty_reader v) body true) body true k vs
