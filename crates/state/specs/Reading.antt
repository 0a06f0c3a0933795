-- One reading call: what it says, and what it leaves. docs/FORMAT.md, "Ticks and the board" (rules 1 to 7) and "What a call may say".
use Rattle.std.specs.Prelude.{ℕ, ◌+◌, Bool, true, false, not, cond, List, map, get_or, drop, ltb, ℤ, pos, negsuc, ◌+ℤ◌, nat_abs, Option, Some, None}
use Rattle.std.specs.Int.Signed.{lt_z}
use Rattle.refusal.specs.declared.Refusal.{Refusal}
use Rattle.refusal.specs.declared.Refusal.TheVariants.{
  UnexpectedEnd,
  InvalidClientId,
  ClientTooLarge,
  TickOverflow,
  PlayerNewDuplicate,
  PlayerDiffWithoutNew,
  PlayerOldWithoutNew,
  InputDiffWithoutNew,
  BadState,
  Closed,
}
use Rattle.num.specs.Wrap.{wrap32}
use Rattle.packer.specs.declared.Part.{Part}
use Rattle.fields.specs.Fields.{Reading, got, runs_out, refused}
use Rattle.fields.specs.Views.{zeros, numbers}
use Rattle.item.specs.Said.{Said, gives, more, finish, refusing}
use Rattle.kinds.specs.Kinds.{read_kind}
use Rattle.item.specs.Records.{Content, read_rest}
use Rattle.item.specs.Contents.{cid_of}
use Rattle.kinds.specs.declared.Version.{Version}
use Rattle.kinds.specs.declared.Kind.{Kind}
use Rattle.state.specs.Sorts.{Sort, sort_of, tag_sort}
use Rattle.state.specs.Sorts as sorts
use Rattle.state.specs.State.{
  larger,
  with_entries,
  present,
  x_of,
  y_of,
  with_player,
  moved,
  holds,
  places,
  ten_of,
  with_input,
  reader_with,
  good_reader,
  scalars_of,
}
use Rattle.state.specs.declared.Memory.{Memory}
use Rattle.state.specs.declared.Standing.{Standing}
use Rattle.state.specs.declared.Standing.TheVariants.{Open, Finished, Refused}
use Rattle.state.specs.declared.Scalars.{Scalars}
use Rattle.state.specs.declared.Reader.{Reader}
use Rattle.state.specs.declared.Rule.{Rule}
use Rattle.state.specs.declared.Rule.TheVariants.{Reads, Starts, Ends, EndsHere, Over}

-- ---- events, and what a call leaves

-- of an input: the client, and whether it had one before; the ten numbers and the former ten stand in the memory
pub data Event : Type 0 where
  tick_start : ℤ → Event
  tick_end : ℤ → Event
  player_new : ℤ → ℤ → ℤ → Event
  player_change : ℤ → ℤ → ℤ → ℤ → ℤ → Event
  player_old : ℤ → ℤ → ℤ → Event
  input : ℤ → Bool → Event
  other : Content Part → Event

pub record Step : Type 0 where
  pub said : Said Event
  pub scalars : Scalars
  pub memory : Memory

abbrev pub step_of : Said Event → Scalars → Memory → Step
step_of a s m = record { said = a; scalars = s; memory = m }

-- ---- the scalars

-- the scalars that a call leaves; the version stays
abbrev pub turned : Scalars → ℤ → Bool → Option ℤ → ℤ → Option Kind → Standing → Scalars
turned s t i p m k c = scalars_of s.version t i p m k c

-- finish and a refusal close a reader, each by its own mark
abbrev pub is_closed : Standing → Bool
is_closed Open = false
is_closed Finished = true
is_closed Refused = true

-- after a refusal or finish: closed by it, with nothing pending
unfoldable pub closing : Standing → Scalars → Scalars
closing by s = turned s s.tick s.inside s.remembered s.largest None by

abbrev pub raised_to : ℤ → Option ℤ → ℤ
raised_to m (Some c) = larger m c
raised_to m None = m

-- after a record: nothing is pending, and the largest client has risen to the record's
unfoldable pub raising : Option ℤ → Scalars → Scalars
raising c s = turned s s.tick s.inside s.remembered (raised_to s.largest c) None s.standing

-- after a player record of the client c, which is remembered too
unfoldable pub naming : ℤ → Scalars → Scalars
naming c s = turned s s.tick s.inside (Some c) (larger s.largest c) None s.standing

-- at the start or the end of a tick the kind is pending
unfoldable pub starting : Kind → Scalars → Scalars
starting k s = turned s s.tick true s.remembered s.largest (Some k) s.standing

unfoldable pub ending : ℤ → Option ℤ → Kind → Scalars → Scalars
ending t p k s = turned s t false p s.largest (Some k) s.standing

-- after a TickSkip nothing is pending, and no client is remembered
unfoldable pub skipping : ℤ → Bool → Scalars → Scalars
skipping t i s = turned s t i None s.largest None s.standing

unfoldable pub refusal_step : Refusal → Scalars → Memory → Step
refusal_step r s m = step_of (refusing r) (closing Refused s) m

-- more changes nothing
unfoldable pub out_of : Bool → Scalars → Memory → Step
out_of true s m = refusal_step UnexpectedEnd s m
out_of false s m = step_of more s m

-- k + 1 ticks on, unless that passes 2147483647; a tick below 0 is no good reader's
unfoldable pub next_tick : ℤ → ℕ → Option ℤ
next_tick (pos t) k = cond (ltb 2147483647 (t + k + 1)) None (Some (pos (t + k + 1)))
next_tick (negsuc t) k = None

-- by the next tick: what go says of it, or over
abbrev pub if_tick : {A : Type 0} → (ℤ → A) → A → Option ℤ → A
if_tick go over (Some t) = go t
if_tick go over None = over

-- ---- a record on a reader; n bytes are used

unfoldable pub player_diff : Scalars → Memory → ℤ → ℤ → ℤ → ℕ → Step
player_diff s m (negsuc c) dx dy n = refusal_step PlayerDiffWithoutNew s m
player_diff s m (pos c) dx dy n =
    let e = m.entries in
    let x = wrap32 (x_of e c +ℤ dx) in
    let y = wrap32 (y_of e c +ℤ dy) in
    cond (present e c)
    (step_of (gives (player_change (pos c) x y (x_of e c) (y_of e c)) n) s (with_entries (moved e c x y) m))
    (refusal_step PlayerDiffWithoutNew s m)

-- 13 overwrites the position first
unfoldable pub new_player : Scalars → Memory → ℤ → ℤ → ℤ → ℕ → Step
new_player s m (negsuc c) x y n = refusal_step InvalidClientId s m
new_player s m (pos c) x y n =
    let placed = with_entries (with_player m.entries c 1 x y) m in
    cond (ltb c 128)
    (cond (present m.entries c)
    (refusal_step PlayerNewDuplicate s placed)
    (step_of (gives (player_new (pos c) x y) n) s placed))
    (refusal_step ClientTooLarge s m)

unfoldable pub old_player : Scalars → Memory → ℤ → ℕ → Step
old_player s m (negsuc c) n = refusal_step InvalidClientId s m
old_player s m (pos c) n =
    let e = m.entries in
    cond (present e c)
    (step_of (gives (player_old (pos c) (x_of e c) (y_of e c)) n) s (with_entries (with_player e c 0 (pos 0) (pos 0)) m))
    (refusal_step PlayerOldWithoutNew s m)

-- the sums of ten numbers and ten differences, with wrap at 32 bits
unfoldable pub sums : List ℤ → List ℤ → List ℤ
sums a b = map (λ k. wrap32 (get_or a k (pos 0) +ℤ get_or b k (pos 0))) places

-- the ten numbers become ns; the former stand beside them
abbrev pub changed : Memory → ℕ → List ℤ → Memory
changed m c ns =
    record { entries = with_input m.entries c 1 ns; input = ns; former = ten_of m.entries.inputs c }

unfoldable pub input_diff : Scalars → Memory → ℤ → List ℤ → ℕ → Step
input_diff s m (negsuc c) ds n = refusal_step InvalidClientId s m
input_diff s m (pos c) ds n =
    cond (holds m.entries c)
    (step_of (gives (input (pos c) true) n) s (changed m c (sums (ten_of m.entries.inputs c) ds)))
    (refusal_step InputDiffWithoutNew s m)

unfoldable pub input_new : Scalars → Memory → ℤ → List ℤ → ℕ → Step
input_new s m (negsuc c) ns n = refusal_step InvalidClientId s m
input_new s m (pos c) ns n =
    cond (ltb c 128)
    (step_of (gives (input (pos c) (holds m.entries c)) n) s (changed m c ns))
    (refusal_step ClientTooLarge s m)

-- inside, the old tick ends; outside, the new one starts
unfoldable pub tick_skip : Scalars → Memory → ℕ → ℕ → Step
tick_skip s m dt n =
    let ends : ℤ → Step = λ t. step_of (gives (tick_end s.tick) n) (skipping t false s) m in
    let starts : ℤ → Step = λ t. step_of (gives (tick_start t) n) (skipping t true s) m in
    if_tick (λ t. cond s.inside (ends t) (starts t)) (refusal_step TickOverflow s m) (next_tick s.tick dt)

abbrev pub first : List ℤ → ℤ
first zs = get_or zs 0 (pos 0)

abbrev pub second : List ℤ → ℤ
second zs = get_or zs 1 (pos 0)

-- rules 5 to 7, by the record's sort and its numbers; dt is not negative
abbrev pub apply_sort : Sort → Scalars → Memory → Content Part → List ℤ → ℕ → Step
apply_sort (sorts.player sorts.moves cid) s m c zs n = player_diff (naming cid s) m cid (first zs) (second zs) n
apply_sort (sorts.player sorts.comes cid) s m c zs n = new_player (naming cid s) m cid (first zs) (second zs) n
apply_sort (sorts.player sorts.leaves cid) s m c zs n = old_player (naming cid s) m cid n
apply_sort (sorts.input true) s m c zs n = input_new (raising (Some (first zs)) s) m (first zs) (drop 1 zs) n
apply_sort (sorts.input false) s m c zs n = input_diff (raising (Some (first zs)) s) m (first zs) (drop 1 zs) n
apply_sort sorts.skip s m c zs n = tick_skip s m (nat_abs (first zs)) n
apply_sort sorts.finish s m c zs n = step_of (finish n) (closing Finished s) m
apply_sort (sorts.other ex) s m c zs n = step_of (gives (other c) n) (raising (cid_of c) s) m

unfoldable pub apply : Scalars → Memory → Content Part → ℕ → Step
apply s m c n = apply_sort (tag_sort c.tag) s m c (numbers c.values) n

-- ---- the tick rules (2 to 4)

abbrev pub at_or_below : ℤ → Option ℤ → Bool
at_or_below c None = false
at_or_below c (Some p) = not (lt_z p c)

-- a player's client at or below the remembered one ends the tick
unfoldable pub player_rule : Scalars → ℤ → Rule
player_rule s c =
    cond s.inside (cond (at_or_below c s.remembered) (if_tick Ends Over (next_tick s.tick 0)) Reads) Starts

-- a kind other than TickSkip and Finish, and of no player, outside a tick
abbrev pub other_rule : Scalars → Rule
other_rule s = cond s.inside Reads Starts

abbrev pub sort_rule : Scalars → Sort → Rule
sort_rule s (sorts.player p c) = player_rule s c
sort_rule s (sorts.input new) = other_rule s
sort_rule s sorts.skip = Reads
sort_rule s sorts.finish = cond s.inside EndsHere Reads
sort_rule s (sorts.other ex) = other_rule s

unfoldable pub tick_rule : Scalars → Kind → Rule
tick_rule s k = sort_rule s (sort_of k)

-- ---- the call

-- a kind or the rest of a record, from the window
abbrev pub if_read : {A : Type 0} → Scalars → Memory → Bool → (A → ℕ → Step) → Reading A → Step
if_read s m last go (got x n) = go x n
if_read s m last go runs_out = out_of last s m
if_read s m last go (refused r) = refusal_step r s m

abbrev pub with_rule : Scalars → Memory → List ℕ → Bool → Kind → ℕ → Rule → Step
with_rule s m w last k n Reads = if_read s m last (apply s m) (read_rest k w n)
with_rule s m w last k n Starts = step_of (gives (tick_start s.tick) n) (starting k s) m
with_rule s m w last k n (Ends t) = step_of (gives (tick_end s.tick) n) (ending t None k s) m
with_rule s m w last k n EndsHere = step_of (gives (tick_end s.tick) n) (ending s.tick s.remembered k s) m
with_rule s m w last k n Over = refusal_step TickOverflow s m

-- rule 1: the pending kind is taken, else a kind is read
unfoldable pub next_kind : Version → Option Kind → List ℕ → Reading Kind
next_kind v None w = read_kind v w 0
next_kind v (Some k) w = got k 0

-- a call on an open reader
unfoldable pub open_call : Scalars → Memory → List ℕ → Bool → Step
open_call s m w last =
    if_read s m last (λ k n. with_rule s m w last k n (tick_rule s k)) (next_kind s.version s.pending w)

-- a call on a good reader
unfoldable pub good_call : Scalars → Memory → List ℕ → Bool → Step
good_call s m w last = cond (is_closed s.standing) (step_of (refusing Closed) s m) (open_call s m w last)

-- a call on any scalars and memory: 17 comes first
abbrev pub call_on : Scalars → Memory → List ℕ → Bool → Step
call_on s m w last = cond (good_reader (reader_with s m.entries)) (good_call s m w last) (step_of (refusing BadState) s m)

-- a call on any reader: beside an answer that is no input event stand zeros
unfoldable pub read_call : Reader → List ℕ → Bool → Step
read_call r w last = call_on r.scalars (record { entries = r.entries; input = zeros 10; former = zeros 10 }) w last

abbrev pub reader_after : Step → Reader
reader_after t = reader_with t.scalars t.memory.entries
