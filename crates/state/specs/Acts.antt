-- Laws: the acts of a reading call, all that a call on an open reader may do. Each has what holds before it, what it says and what it
-- leaves. That every call is one of them is proved once (proofs/Acts.antt); a law of calls is then a clause for each act. docs/FORMAT.md, "Ticks
-- and the board" and "What a call may say".
use Rattle.std.specs.Prelude.{ℕ, ◌≡◌, Bool, true, false, List, drop, ltb, ℤ, pos, negsuc, ◌+ℤ◌, nat_abs, Some, None}
use Rattle.refusal.specs.declared.Refusal.{Refusal}
use Rattle.refusal.specs.declared.Refusal.TheVariants.{
  UnexpectedEnd,
  InvalidClientId,
  ClientTooLarge,
  TickOverflow,
  PlayerNewDuplicate,
  PlayerDiffWithoutNew,
  PlayerOldWithoutNew,
  InputDiffWithoutNew,
  BadState,
  Closed,
}
use Rattle.num.specs.Wrap.{wrap32}
use Rattle.packer.specs.declared.Part.{Part}
use Rattle.fields.specs.Fields.{got, runs_out, refused}
use Rattle.fields.specs.Views.{numbers}
use Rattle.item.specs.Said.{Said, gives, more, finish, refusing}
use Rattle.item.specs.Records.{Content, read_rest}
use Rattle.item.specs.Contents.{cid_of}
use Rattle.kinds.specs.declared.Kind.{Kind}
use Rattle.kinds.specs.declared.Kind.TheVariants as kinds
use Rattle.state.specs.Sorts.{Change, Sort, sort_of}
use Rattle.state.specs.Sorts as sorts
use Rattle.state.specs.State.{with_entries, present, x_of, y_of, with_player, moved, holds, ten_of, with_input, good_reader}
use Rattle.state.specs.declared.Memory.{Memory}
use Rattle.state.specs.Reading.{Event, tick_start, tick_end, player_new, player_change, player_old, input, other, Step, step_of, is_closed, closing, raising, naming, starting, ending, skipping, next_tick, sums, first, second, at_or_below, next_kind, open_call, read_call}
use Rattle.state.specs.steps.Parts.{memory_of}
use Rattle.state.specs.declared.Entries.{Entries}
use Rattle.state.specs.declared.Standing.TheVariants.{Finished, Refused}
use Rattle.state.specs.declared.Scalars.{Scalars}
use Rattle.state.specs.declared.Reader.{Reader}

-- ---- what a call says and leaves, whatever ten numbers and former ten stood in the memory

abbrev pub says : Said Event → Scalars → Entries → Memory → Step
says x t e m = step_of x t (with_entries e m)

abbrev pub refuses : Refusal → Scalars → Entries → Memory → Step
refuses r t e m = says (refusing r) (closing Refused t) e m

-- client c's ten numbers become ns; had: it had some before
abbrev pub says_input : ℕ → Bool → List ℤ → ℕ → Scalars → Entries → Memory → Step
says_input c had ns n t e m =
    step_of (gives (input (pos c) had) n) t (record { entries = with_input e c 1 ns; input = ns; former = ten_of e.inputs c })

-- ---- what was read

-- the kind k, pending or read, ends before byte n
pub record HadKind (s : Scalars) (w : List ℕ) (k : Kind) (n : ℕ) : Type 0 where
  pub read : next_kind s.version s.pending w ≡ got k n

-- a record of kind k with the content c ends before byte n
pub record Had (s : Scalars) (w : List ℕ) (k : Kind) (c : Content Part) (n : ℕ) : Type 0 where
  pub at : ℕ
  pub kind : HadKind s w k at
  pub rest : read_rest k w at ≡ got c n

abbrev pub first_of : Content Part → ℤ
first_of r = first (numbers r.values)

abbrev pub second_of : Content Part → ℤ
second_of r = second (numbers r.values)

abbrev pub others_of : Content Part → List ℤ
others_of r = drop 1 (numbers r.values)

-- the kind of a player record, and its client
pub record PlayerKind (k : Kind) (c : ℤ) : Type 0 where
  pub change : Change
  pub sort : sort_of k ≡ sorts.player change c

-- the kind of an input
pub record InputKind (k : Kind) : Type 0 where
  pub new : Bool
  pub sort : sort_of k ≡ sorts.input new

-- the kind of a record that changes no entry
pub record OtherKind (k : Kind) : Type 0 where
  pub extension : Bool
  pub sort : sort_of k ≡ sorts.other extension

-- a record of the sort comes inside a tick
abbrev pub sort_wants : Sort → Bool
sort_wants (sorts.player p c) = true
sort_wants (sorts.input new) = true
sort_wants sorts.skip = false
sort_wants sorts.finish = false
sort_wants (sorts.other ex) = true

abbrev pub wants_tick : Kind → Bool
wants_tick k = sort_wants (sort_of k)

-- inside a tick whose last player record, if any, was of a lower client: client c may come
pub record MayCome (s : Scalars) (c : ℤ) : Type 0 where
  pub inside : s.inside ≡ true
  pub rises : at_or_below c s.remembered ≡ false

-- the tick rules let a record of the kind be read
abbrev pub SortReads : Scalars → Sort → Type 0
SortReads s (sorts.player p c) = MayCome s c
SortReads s (sorts.input new) = s.inside ≡ true
SortReads s sorts.skip = Unit {0}
SortReads s sorts.finish = s.inside ≡ false
SortReads s (sorts.other ex) = s.inside ≡ true

abbrev pub MayRead : Scalars → Kind → Type 0
MayRead s k = SortReads s (sort_of k)

-- ---- why a call gives no event

-- the bytes needed run out: those of the kind, or those of a record that may be read
pub data BytesRunOut (s : Scalars) (w : List ℕ) : Type 0 where
  in_kind : next_kind s.version s.pending w ≡ runs_out → BytesRunOut s w
  in_rest : {k : Kind} {n : ℕ} → HadKind s w k n → MayRead s k → read_rest k w n ≡ runs_out → BytesRunOut s w

-- 3 to 7, 12 and 21: no record was read, or a TickSkip
pub data WhyPlain (s : Scalars) (w : List ℕ) (last : Bool) : Refusal → Type 0 where
  no_more_come : last ≡ true → BytesRunOut s w → WhyPlain s w last UnexpectedEnd
  kind_refused : {r : Refusal} → next_kind s.version s.pending w ≡ refused r → WhyPlain s w last r
  rest_refused : {r : Refusal} {k : Kind} {n : ℕ} → HadKind s w k n → MayRead s k → read_rest k w n ≡ refused r → WhyPlain s w last r
  ends_past : {k : Kind} {n : ℕ} {c : ℤ} → HadKind s w k n → PlayerKind k c → s.inside ≡ true → at_or_below c s.remembered ≡ true
      → next_tick s.tick 0 ≡ None → WhyPlain s w last TickOverflow
  skips_past : {r : Content Part} {n : ℕ} → Had s w kinds.TickSkip r n → next_tick s.tick (nat_abs (first_of r)) ≡ None
      → WhyPlain s w last TickOverflow

-- 8, 10, 14 and 15: a player record of client c was read
pub data WhyPlayer (s : Scalars) (e : Entries) (w : List ℕ) : Refusal → ℤ → Type 0 where
  new_negative : {c : ℕ} {r : Content Part} {n : ℕ} → Had s w (kinds.PlayerNew (negsuc c)) r n → MayCome s (negsuc c)
      → WhyPlayer s e w InvalidClientId (negsuc c)
  new_too_large : {c : ℕ} {r : Content Part} {n : ℕ} → Had s w (kinds.PlayerNew (pos c)) r n → MayCome s (pos c) → ltb c 128 ≡ false
      → WhyPlayer s e w ClientTooLarge (pos c)
  diff_negative : {c : ℕ} {r : Content Part} {n : ℕ} → Had s w (kinds.PlayerDiff (negsuc c)) r n → MayCome s (negsuc c)
      → WhyPlayer s e w PlayerDiffWithoutNew (negsuc c)
  diff_absent : {c : ℕ} {r : Content Part} {n : ℕ} → Had s w (kinds.PlayerDiff (pos c)) r n → MayCome s (pos c) → present e c ≡ false
      → WhyPlayer s e w PlayerDiffWithoutNew (pos c)
  old_negative : {c : ℕ} {r : Content Part} {n : ℕ} → Had s w (kinds.PlayerOld (negsuc c)) r n → MayCome s (negsuc c)
      → WhyPlayer s e w InvalidClientId (negsuc c)
  old_absent : {c : ℕ} {r : Content Part} {n : ℕ} → Had s w (kinds.PlayerOld (pos c)) r n → MayCome s (pos c) → present e c ≡ false
      → WhyPlayer s e w PlayerOldWithoutNew (pos c)

-- 8, 10 and 16: an input of client c was read
pub data WhyInput (s : Scalars) (e : Entries) (w : List ℕ) : Refusal → ℤ → Type 0 where
  input_negative : {k : Kind} {c : ℕ} {r : Content Part} {n : ℕ} → Had s w k r n → InputKind k → s.inside ≡ true → first_of r ≡ negsuc c
      → WhyInput s e w InvalidClientId (negsuc c)
  input_too_large : {c : ℕ} {r : Content Part} {n : ℕ} → Had s w kinds.InputNew r n → s.inside ≡ true → first_of r ≡ pos c
      → ltb c 128 ≡ false → WhyInput s e w ClientTooLarge (pos c)
  input_absent : {c : ℕ} {r : Content Part} {n : ℕ} → Had s w kinds.InputDiff r n → s.inside ≡ true → first_of r ≡ pos c
      → holds e c ≡ false → WhyInput s e w InputDiffWithoutNew (pos c)

-- ---- the acts, on scalars s and entries e, with the window w

pub data Act (s : Scalars) (e : Entries) (w : List ℕ) (last : Bool) : (Memory → Step) → Type 0 where
  -- no event
  wants_more : last ≡ false → BytesRunOut s w → Act s e w last (says more s e)
  finishes : {c : Content Part} {n : ℕ} → Had s w kinds.Finish c n → s.inside ≡ false → Act s e w last (says (finish n) (closing Finished s) e)
  refuses_plain : (r : Refusal) → WhyPlain s w last r → Act s e w last (refuses r s e)
  refuses_player : (r : Refusal) (c : ℤ) → WhyPlayer s e w r c → Act s e w last (refuses r (naming c s) e)
  refuses_input : (r : Refusal) (c : ℤ) → WhyInput s e w r c → Act s e w last (refuses r (raising (Some c) s) e)
  refuses13 : {c : ℕ} {r : Content Part} {n : ℕ} → Had s w (kinds.PlayerNew (pos c)) r n → MayCome s (pos c) → ltb c 128 ≡ true
      → present e c ≡ true
      → Act s e w last (refuses PlayerNewDuplicate (naming (pos c) s) (with_player e c 1 (first_of r) (second_of r)))
  -- a tick starts or ends, and the kind stays pending; a TickSkip
  tick_starts : {k : Kind} {n : ℕ} → HadKind s w k n → wants_tick k ≡ true → s.inside ≡ false
      → Act s e w last (says (gives (tick_start s.tick) n) (starting k s) e)
  tick_ends : {k : Kind} {n : ℕ} {c t : ℤ} → HadKind s w k n → PlayerKind k c → s.inside ≡ true → at_or_below c s.remembered ≡ true
      → next_tick s.tick 0 ≡ Some t → Act s e w last (says (gives (tick_end s.tick) n) (ending t None k s) e)
  last_tick_ends : {n : ℕ} → HadKind s w kinds.Finish n → s.inside ≡ true
      → Act s e w last (says (gives (tick_end s.tick) n) (ending s.tick s.remembered kinds.Finish s) e)
  skip_starts : {r : Content Part} {n : ℕ} {t : ℤ} → Had s w kinds.TickSkip r n → s.inside ≡ false
      → next_tick s.tick (nat_abs (first_of r)) ≡ Some t → Act s e w last (says (gives (tick_start t) n) (skipping t true s) e)
  skip_ends : {r : Content Part} {n : ℕ} {t : ℤ} → Had s w kinds.TickSkip r n → s.inside ≡ true
      → next_tick s.tick (nat_abs (first_of r)) ≡ Some t → Act s e w last (says (gives (tick_end s.tick) n) (skipping t false s) e)
  -- a player comes, moves or leaves
  player_comes : {c : ℕ} {r : Content Part} {n : ℕ} → Had s w (kinds.PlayerNew (pos c)) r n → MayCome s (pos c) → ltb c 128 ≡ true
      → present e c ≡ false → Act s e w last
      (says (gives (player_new (pos c) (first_of r) (second_of r)) n) (naming (pos c) s) (with_player e c 1 (first_of r) (second_of r)))
  player_moves : {c : ℕ} {r : Content Part} {n : ℕ} {x y : ℤ} → Had s w (kinds.PlayerDiff (pos c)) r n → MayCome s (pos c)
      → present e c ≡ true → x ≡ wrap32 (x_of e c +ℤ first_of r) → y ≡ wrap32 (y_of e c +ℤ second_of r)
      → Act s e w last (says (gives (player_change (pos c) x y (x_of e c) (y_of e c)) n) (naming (pos c) s) (moved e c x y))
  player_leaves : {c : ℕ} {r : Content Part} {n : ℕ} → Had s w (kinds.PlayerOld (pos c)) r n → MayCome s (pos c) → present e c ≡ true
      → Act s e w last (says (gives (player_old (pos c) (x_of e c) (y_of e c)) n) (naming (pos c) s) (with_player e c 0 (pos 0) (pos 0)))
  -- an input; any other record
  input_comes : {c : ℕ} {r : Content Part} {n : ℕ} → Had s w kinds.InputNew r n → s.inside ≡ true → first_of r ≡ pos c → ltb c 128 ≡ true
      → Act s e w last (says_input c (holds e c) (others_of r) n (raising (Some (pos c)) s) e)
  input_moves : {c : ℕ} {r : Content Part} {n : ℕ} → Had s w kinds.InputDiff r n → s.inside ≡ true → first_of r ≡ pos c
      → holds e c ≡ true → Act s e w last (says_input c true (sums (ten_of e.inputs c) (others_of r)) n (raising (Some (pos c)) s) e)
  passes : {k : Kind} {r : Content Part} {n : ℕ} → Had s w k r n → OtherKind k → s.inside ≡ true
      → Act s e w last (says (gives (other r) n) (raising (cid_of r) s) e)

-- ---- a call on any reader: on one that is not good, or closed, nothing is read

pub data ReadAct (r : Reader) (w : List ℕ) (last : Bool) : Step → Type 0 where
  on_bad : good_reader r ≡ false → ReadAct r w last (step_of (refusing BadState) r.scalars (memory_of r.entries))
  on_closed : good_reader r ≡ true → is_closed r.scalars.standing ≡ true → ReadAct r w last (step_of (refusing Closed) r.scalars (memory_of r.entries))
  on_open : {f : Memory → Step} → good_reader r ≡ true → is_closed r.scalars.standing ≡ false → Act r.scalars r.entries w last f
      → ReadAct r w last (f (memory_of r.entries))

-- ---- every call is one of them

abbrev pub CallsAreActs : Type 0
CallsAreActs =
    (s : Scalars) (e : Entries) (w : List ℕ) (last : Bool) → Act s e w last (λ (m : Memory). open_call s (with_entries e m) w last)

abbrev pub ReadCallsAreActs : Type 0
ReadCallsAreActs = (r : Reader) (w : List ℕ) (last : Bool) → ReadAct r w last (read_call r w last)

-- ---- and a call is known by its act: to know what a call does, name its act

abbrev pub ActsAreCalls : Type 0
ActsAreCalls =
    (s : Scalars) (e : Entries) (w : List ℕ) (last : Bool) (f : Memory → Step) → Act s e w last f → (m : Memory)
    → open_call s (with_entries e m) w last ≡ f m
