-- Each refusing act on a good reader has its cause, and each cause its act. Assumes nothing.
use Rattle.std.specs.Prelude.{Option, Some, None}
use Prim.Native.Nat.{ℕ, ◌+◌, ◌<◌}
use mathlib.Core.Path.{◌≡◌, refl, sym, subst, ap}
use mathlib.Core.Bool.{Bool, true, false≢true}
use mathlib.Core.List.{List, [], ◌∷◌}
use native.Mathlib.Omega.{arith}
use lib.Dec.{ltb}
use lib.IntN.{ℤ, pos, negsuc, nat_abs}
use lib.Signed.{non_neg}
use borrow.Author.Tests.{ltb-true, ltb-false, lt-ltb, le-ltb}
use Rattle.refusal.specs.declared.Refusal.{Refusal}
use Rattle.refusal.specs.declared.Refusal.TheVariants as refusal
use Rattle.num.proofs.Cases.{by_bool}
use Rattle.varint.specs.Integers.{read_int}
use Rattle.varint.specs.declared.Remark.{Remark}
use Rattle.varint.specs.declared.IntRead.{IntRead}
use Rattle.varint.specs.declared.IntRead.TheVariants as ints
use Rattle.packer.specs.declared.Part.{Part}
use Rattle.fields.specs.Fields.{num, got, refused, read_fields}
use Rattle.fields.specs.steps.Sorts.{dt_field, and_then}
use Rattle.fields.specs.Views.{numbers}
use Rattle.item.specs.Said.{Said, gives, more, finish, refuses, refusing}
use Rattle.kinds.specs.Kinds.{read_kind}
use Rattle.item.specs.Records.{Content, content, as_content, read_rest}
use Rattle.kinds.specs.declared.Version.{Version}
use Rattle.kinds.specs.declared.Kind.{Kind}
use Rattle.kinds.specs.declared.Kind.TheVariants as kinds
use Rattle.item.specs.declared.Tag.TheVariants.{Plain}
use Rattle.views.proofs.Refusals.{same_refusal}
use Rattle.causes.proofs.Theorems.{kinds_refused, rests_refused}
use Rattle.state.specs.State.{reader_with, good_scalars}
use Rattle.state.specs.declared.Memory.{Memory}
use Rattle.state.specs.Reading.{Event, Step, next_tick, next_kind}
use Rattle.state.specs.Acts.{HadKind, Had, first_of, MayRead, WhyPlain, WhyPlayer, WhyInput, Act}
use Rattle.state.specs.Acts as act
use Rattle.state.specs.declared.Entries.{Entries}
use Rattle.state.specs.declared.Scalars.{Scalars}
use Rattle.state.specs.declared.Reader.{Reader}
use Rattle.state.proofs.Every.{left_of_law}
use Rattle.state.proofs.Goods.{good_tick_law}
use Rattle.state.proofs.Acts.{kind_good}
use Rattle.reading_laws.specs.Causes.{new, old, closed, closed_raised, closed_named, Refuses}
use Rattle.reading_laws.specs.Causes as cause

-- ---- what is no refusal

module _ {C : Type 0} {k : ℕ} {vs : List ℤ} where
  no_event_law : {e : Event} {n : ℕ} → gives e n ≡ refuses k vs → C
  no_event_law e = let z : ◌≡◌ {A = ℕ} 0 1 = cc in absurd (omega arith)

  no_finish : {n : ℕ} → ◌≡◌ {A = Said Event} (finish n) (refuses k vs) → C
  no_finish e = let z : ◌≡◌ {A = ℕ} 0 1 = cc in absurd (omega arith)

  no_more : ◌≡◌ {A = Said Event} more (refuses k vs) → C
  no_more e = let z : ◌≡◌ {A = ℕ} 0 1 = cc in absurd (omega arith)

-- ---- the kind of the next record: read where none is pending

next_refused : (v : Version) (p : Option Kind) (w : List ℕ) (r : Refusal) → next_kind v p w ≡ refused r → (p ≡ None) × (read_kind v w 0 ≡ refused r)
unfolding next_kind
next_refused v None w r e = (refl, e)
next_refused v (Some k) w r e = let z : ◌≡◌ {A = ℕ} 0 1 = cc in absurd (omega arith)

refused_next : (v : Version) (p : Option Kind) (w : List ℕ) (r : Refusal) → p ≡ None → read_kind v w 0 ≡ refused r → next_kind v p w ≡ refused r
unfolding next_kind
refused_next v p w r o e = rw o e

-- ---- ticks past the last

pub record Late (z : ℤ) (k : ℕ) : Type 0 where
  pub tick : ℕ
  pub is : z ≡ pos tick
  pub late : 2147483647 < tick + 1 + k

past_late : (z : ℤ) (k : ℕ) → non_neg z ≡ true → next_tick z k ≡ None → Late z k
unfolding next_tick
past_late (pos t) k g e =
    by_bool (ltb 2147483647 (t + k + 1))
    (λ b. record { tick = t; is = refl; late = omega (arith, ltb-true 2147483647 (t + k + 1) b) })
    (λ b. let x = rw b at e in let z : ◌≡◌ {A = ℕ} 0 1 = cc in absurd (omega arith))
past_late (negsuc t) k g e = absurd (false≢true g)

late_past : (z : ℤ) (k t : ℕ) → z ≡ pos t → 2147483647 < t + 1 + k → next_tick z k ≡ None
unfolding next_tick
late_past z k t e l =
    let b : ltb 2147483647 (t + k + 1) ≡ true = lt-ltb 2147483647 (t + k + 1) (omega arith) in rw (e, b)

-- ---- a TickSkip's dt

pub record DtRead (w : List ℕ) (at dt : ℕ) : Type 0 where
  pub next : ℕ
  pub remark : Option Remark
  pub read : read_int w at ≡ ints.Got (pos dt) next remark

dt_read : (w : List ℕ) (at : ℕ) {c : Content Part} {n : ℕ} (i : IntRead) → read_int w at ≡ i
    → as_content (Plain kinds.TickSkip) (and_then (dt_field i) (read_fields [] w)) ≡ got c n → DtRead w at (nat_abs (first_of c))
unfolding numbers
dt_read w at {c} (ints.Got (pos d) next m) i e =
    let p : content (Plain kinds.TickSkip) (num (pos d) ∷ []) ≡ c = cc in
    let q : d ≡ nat_abs (first_of c) = ap (λ (x : Content Part). nat_abs (first_of x)) p in
    record { next = next; remark = m; read = rw (← q) i }
dt_read w at (ints.Got (negsuc d) next m) i e = let z : ◌≡◌ {A = ℕ} 0 1 = cc in absurd (omega arith)
dt_read w at ints.RunsOut i e = let z : ◌≡◌ {A = ℕ} 0 1 = cc in absurd (omega arith)

skip_read : {s : Scalars} {w : List ℕ} {c : Content Part} {n : ℕ} (h : Had s w kinds.TickSkip c n) → DtRead w h.at (nat_abs (first_of c))
unfolding read_rest
skip_read {w = w} h = dt_read w h.at (read_int w h.at) refl h.rest

skip_had : {s : Scalars} {w : List ℕ} {n dt next : ℕ} {m : Option Remark} → HadKind s w kinds.TickSkip n → read_int w n ≡ ints.Got (pos dt) next m
    → Had s w kinds.TickSkip (content (Plain kinds.TickSkip) (num (pos dt) ∷ [])) next
unfolding read_rest
skip_had {n = n} h e = record { at = n; kind = h; rest = rw e }

-- ---- causes of acts

module _ (s : Scalars) (e : Entries) (w : List ℕ) (last : Bool) (g : good_scalars s ≡ true) where
  plain_cause : {r : Refusal} → WhyPlain s w last r → Refuses s e w last r (closed s e)
  plain_cause (act.no_more_come l o) = cause.unexpected_end l o
  plain_cause (act.kind_refused {r} x) =
      let k = next_refused s.version s.pending w r x in
      cause.in_kind k.0 ((kinds_refused s.version w 0 r).0 k.1)
  plain_cause (act.rest_refused {r} {k} {n} h i x) = cause.in_rest h i ((rests_refused k w n r).0 x)
  plain_cause (act.ends_past h p i b x) =
      let t = past_late s.tick 0 (good_tick_law s g) x in
      cause.end_overflow h p i b t.is (omega (arith, t.late))
  plain_cause (act.skips_past {r} h x) =
      let t = past_late s.tick (nat_abs (first_of r)) (good_tick_law s g) x in
      let d = skip_read h in
      cause.skip_overflow h.kind d.read t.is t.late

  player_cause : {r : Refusal} {c : ℤ} → WhyPlayer s e w r c → Refuses s e w last r (closed_named c s e)
  player_cause (act.new_negative h i) = cause.invalid_player h new i
  player_cause (act.new_too_large {c} h i b) = cause.player_too_large h i (omega (arith, ltb-false c 128 b))
  player_cause (act.diff_negative h i) = absurd (false≢true (kind_good h.kind g))
  player_cause (act.diff_absent h i o) = cause.diff_without_new h i o
  player_cause (act.old_negative h i) = cause.invalid_player h old i
  player_cause (act.old_absent h i o) = cause.old_without_new h i o

  input_cause : {r : Refusal} {c : ℤ} → WhyInput s e w r c → Refuses s e w last r (closed_raised c s e)
  input_cause (act.input_negative h k i f) = cause.invalid_input h k i f
  input_cause (act.input_too_large {c} h i f b) = cause.input_too_large h i f (omega (arith, ltb-false c 128 b))
  input_cause (act.input_absent h i f o) = cause.input_without_new h i f o

  abbrev Left : Step → Reader
  Left t = reader_with t.scalars t.memory.entries

  by_refusal : (q n : Refusal) {x : Reader} → refusing {A = Event} q ≡ refusing n → Refuses s e w last q x → Refuses s e w last n x
  by_refusal q n {x} h c = subst (λ (r : Refusal). Refuses s e w last r x) (same_refusal q n h) c

  pub act_cause : {f : Memory → Step} (m : Memory) (n : Refusal) → Act s e w last f → (f m).said ≡ refusing n → Refuses s e w last n (Left (f m))
  act_cause m n (act.wants_more l o) x = no_more x
  act_cause m n (act.finishes h o) x = no_finish x
  act_cause m n (act.refuses_plain r y) x = by_refusal r n x (plain_cause y)
  act_cause m n (act.refuses_player r c y) x = by_refusal r n x (player_cause y)
  act_cause m n (act.refuses_input r c y) x = by_refusal r n x (input_cause y)
  act_cause m n (act.refuses13 h i b p) x = by_refusal refusal.PlayerNewDuplicate n x (cause.duplicate h i p)
  act_cause m n (act.tick_starts h p o) x = no_event_law x
  act_cause m n (act.tick_ends h p i b y) x = no_event_law x
  act_cause m n (act.last_tick_ends h i) x = no_event_law x
  act_cause m n (act.skip_starts h o y) x = no_event_law x
  act_cause m n (act.skip_ends h i y) x = no_event_law x
  act_cause m n (act.player_comes h i b o) x = no_event_law x
  act_cause m n (act.player_moves h i p u v) x = no_event_law x
  act_cause m n (act.player_leaves h i p) x = no_event_law x
  act_cause m n (act.input_comes h i f b) x = no_event_law x
  act_cause m n (act.input_moves h i f p) x = no_event_law x
  act_cause m n (act.passes h o i) x = no_event_law x

-- ---- acts of causes

-- an act that refuses n and leaves a reader so
pub record RefusingAct (s : Scalars) (e : Entries) (w : List ℕ) (last : Bool) (n : Refusal) (left : Reader) : Type 0 where
  pub does : Memory → Step
  pub act : Act s e w last does
  pub said : (m : Memory) → (does m).said ≡ refusing n
  pub leaves : (m : Memory) → reader_with (does m).scalars (does m).memory.entries ≡ left

module _ (s : Scalars) (e : Entries) (w : List ℕ) (last : Bool) where
  as_plain : (r : Refusal) → WhyPlain s w last r → RefusingAct s e w last r (closed s e)
  as_plain r y = record { does = act.refuses r s e; act = act.refuses_plain r y; said = λ m. refl; leaves = λ m. refl }

  as_player : (r : Refusal) (c : ℤ) → WhyPlayer s e w r c → RefusingAct s e w last r (closed_named c s e)
  as_player r c y = record { does = _; act = act.refuses_player r c y; said = λ m. refl; leaves = λ m. refl }

  as_input : (r : Refusal) (c : ℤ) → WhyInput s e w r c → RefusingAct s e w last r (closed_raised c s e)
  as_input r c y = record { does = _; act = act.refuses_input r c y; said = λ m. refl; leaves = λ m. refl }

  pub cause_act : {n : Refusal} {left : Reader} → Refuses s e w last n left → RefusingAct s e w last n left
  unfolding numbers
  cause_act (cause.unexpected_end l o) = as_plain refusal.UnexpectedEnd (act.no_more_come l o)
  cause_act (cause.in_kind {r} o x) =
      as_plain r (act.kind_refused (refused_next s.version s.pending w r o ((kinds_refused s.version w 0 r).1 x)))
  cause_act (cause.in_rest {k} {n} {r} h i x) = as_plain r (act.rest_refused h i ((rests_refused k w n r).1 x))
  cause_act (cause.invalid_player {c = c} h new i) = as_player refusal.InvalidClientId (negsuc c) (act.new_negative h i)
  cause_act (cause.invalid_player {c = c} h old i) = as_player refusal.InvalidClientId (negsuc c) (act.old_negative h i)
  cause_act (cause.invalid_input {c = c} h k i f) = as_input refusal.InvalidClientId (negsuc c) (act.input_negative h k i f)
  cause_act (cause.player_too_large {c} h i l) =
      as_player refusal.ClientTooLarge (pos c) (act.new_too_large h i (le-ltb c 128 (omega arith)))
  cause_act (cause.input_too_large {c} h i f l) =
      as_input refusal.ClientTooLarge (pos c) (act.input_too_large h i f (le-ltb c 128 (omega arith)))
  cause_act (cause.end_overflow {t = t} h p i b x l) =
      as_plain refusal.TickOverflow (act.ends_past h p i b (late_past s.tick 0 t x (omega arith)))
  cause_act (cause.skip_overflow {t = t} {dt} h x y l) =
      as_plain refusal.TickOverflow (act.skips_past (skip_had h x) (late_past s.tick dt t y l))
  cause_act (cause.duplicate {c} h i p) =
      record { does = _; act = act.refuses13 h i (left_of_law (ltb c 128) _ p) p; said = λ m. refl; leaves = λ m. refl }
  cause_act (cause.diff_without_new {c} h i o) = as_player refusal.PlayerDiffWithoutNew (pos c) (act.diff_absent h i o)
  cause_act (cause.old_without_new {c} h i o) = as_player refusal.PlayerOldWithoutNew (pos c) (act.old_absent h i o)
  cause_act (cause.input_without_new {c} h i f o) = as_input refusal.InputDiffWithoutNew (pos c) (act.input_absent h i f o)
