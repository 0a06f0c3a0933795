-- One reading call: what it uses, what more leaves, and that a longer window changes no other answer. Assumes nothing.
use Rattle.std.specs.Prelude.{Option, Some, None}
use Prim.Native.Nat.{ℕ, ◌≤◌, zero-le}
use mathlib.Core.Path.{◌≡◌, refl, sym, ap, ◌∙◌}
use mathlib.Core.Bool.{Bool, false, false≢true}
use mathlib.Core.List.{List, ◌++◌}
use lib.ListN.{length}
use lib.IntN.{ℤ}
use Rattle.refusal.specs.declared.Refusal.{Refusal}
use Rattle.packer.specs.declared.Part.{Part}
use Rattle.fields.specs.Laws.{is_out}
use Rattle.item.specs.Said.{Said, gives, more, finish, refuses}
use Rattle.item.specs.Records.{Content, rest_of, read_rest}
use Rattle.kinds.specs.declared.Version.{Version}
use Rattle.kinds.specs.declared.Kind.{Kind}
use Rattle.state.specs.declared.Memory.{Memory}
use Rattle.state.specs.Reading.{Event, Step, next_kind, good_call, read_call, reader_after}
use Rattle.state.specs.steps.Parts.{memory_of}
use Rattle.state.specs.Laws.{SaidLeaves, used_in}
use Rattle.state.specs.Acts.{HadKind, Had, WhyPlain, WhyPlayer, WhyInput, Act, ReadAct}
use Rattle.state.specs.Acts as act
use Rattle.state.specs.declared.Entries.{Entries}
use Rattle.state.specs.declared.Scalars.{Scalars}
use Rattle.state.specs.declared.Reader.{Reader}
use Rattle.state.proofs.Calls.{keeps}
use Rattle.state.proofs.Numbers.{picks_first, picks_second}
use Rattle.state.proofs.Theorems.{read_calls_are_acts, acts_are_calls}
use Rattle.written.proofs.Steady.{kind_steady, rest_steady}
use Rattle.calls.specs.Laws.{CallWithin, MoreLeaves, NotMore, CallLonger}

-- ---- what a call uses and leaves

abbrev IsMore : Said Event → Type 0
IsMore (gives e n) = ⊥
IsMore more = Unit {0}
IsMore (finish n) = ⊥
IsMore (refuses k vs) = ⊥

-- it says more only where the window is not the last, and keeps the reader there; it uses at most the window
abbrev Fair : Reader → List ℕ → Bool → Step → Type 0
Fair r w last t = (IsMore t.said → (last ≡ false) × (reader_after t ≡ r)) × (used_in t.said ≤ length w)

told_more : (a : Said Event) (r : Reader) (m : Memory) (last : Bool) (t : Step) → m.entries ≡ r.entries → SaidLeaves a r.scalars m last t
    → IsMore a → (last ≡ false) × (reader_after t ≡ r)
told_more (gives e n) r m last t h k i = absurd i
told_more more r m last t h k i =
    (k.0, λ j. record { scalars = k.1.0 j; entries = (ap (λ (u : Memory). u.entries) k.1.1 ∙ h) j })
told_more (finish n) r m last t h k i = absurd i
told_more (refuses n vs) r m last t h k i = absurd i

fair : {r : Reader} {w : List ℕ} {last : Bool} {t : Step} → ReadAct r w last t → Fair r w last t
fair (act.on_bad g) = ((λ i. absurd i), zero-le)
fair (act.on_closed g c) = ((λ i. absurd i), zero-le)
fair {r} {w} {last} {t} (act.on_open g o a) =
    let m = memory_of r.entries in
    let k = keeps r.scalars r.entries w last m a in
    (told_more t.said r m last t refl k.told, k.within)

pub call_within : CallWithin
call_within r w last = (fair (read_calls_are_acts r w last)).1

pub uses_within : (r : Reader) (w : List ℕ) (last : Bool) (e : Event) (n : ℕ) → (read_call r w last).said ≡ gives e n → n ≤ length w
uses_within r w last e n h = rw (ap used_in h) at (call_within r w last)

pub more_leaves : MoreLeaves
more_leaves r w last e = (fair (read_calls_are_acts r w last)).0 (rw e tt)

-- ---- each act on a window, but to want more, is one on a longer window

module _ (w x : List ℕ) where
  next_longer : (v : Version) (p : Option Kind) → is_out (next_kind v p w) ≡ false → next_kind v p (w ++ x) ≡ next_kind v p w
  unfolding next_kind
  next_longer v None e = kind_steady v w x 0 e
  next_longer v (Some k) e = refl

  rest_longer : (k : Kind) (n : ℕ) → is_out (read_rest k w n) ≡ false → read_rest k (w ++ x) n ≡ read_rest k w n
  unfolding read_rest
  rest_longer k n e = rest_steady k (rest_of k) w x n e

module _ {s : Scalars} {w : List ℕ} (x : List ℕ) where
  kind_longer : {k : Kind} {n : ℕ} → HadKind s w k n → HadKind s (w ++ x) k n
  kind_longer h = record { read = next_longer w x s.version s.pending (ap is_out h.read) ∙ h.read }

  longer : {k : Kind} {c : Content Part} {n : ℕ} → Had s w k c n → Had s (w ++ x) k c n
  longer {k} h =
      record { at = h.at; kind = kind_longer h.kind; rest = rest_longer w x k h.at (ap is_out h.rest) ∙ h.rest }

  plain_longer : {r : Refusal} (last : Bool) → WhyPlain s w false r → WhyPlain s (w ++ x) last r
  plain_longer last (act.no_more_come l o) = absurd (false≢true l)
  plain_longer last (act.kind_refused e) = act.kind_refused (next_longer w x s.version s.pending (ap is_out e) ∙ e)
  plain_longer last (act.rest_refused {k = k} {n} h i e) = act.rest_refused (kind_longer h) i (rest_longer w x k n (ap is_out e) ∙ e)
  plain_longer last (act.ends_past h p i b e) = act.ends_past (kind_longer h) p i b e
  plain_longer last (act.skips_past h e) = act.skips_past (longer h) e

  player_longer : {e : Entries} {r : Refusal} {c : ℤ} → WhyPlayer s e w r c → WhyPlayer s e (w ++ x) r c
  player_longer (act.new_negative h i) = act.new_negative (longer h) i
  player_longer (act.new_too_large h i b) = act.new_too_large (longer h) i b
  player_longer (act.diff_negative h i) = act.diff_negative (longer h) i
  player_longer (act.diff_absent h i o) = act.diff_absent (longer h) i o
  player_longer (act.old_negative h i) = act.old_negative (longer h) i
  player_longer (act.old_absent h i o) = act.old_absent (longer h) i o

  input_longer : {e : Entries} {r : Refusal} {c : ℤ} → WhyInput s e w r c → WhyInput s e (w ++ x) r c
  input_longer (act.input_negative h k i f) = act.input_negative (longer h) k i f
  input_longer (act.input_too_large h i f b) = act.input_too_large (longer h) i f b
  input_longer (act.input_absent h i f o) = act.input_absent (longer h) i f o

  module _ {e : Entries} (m : Memory) (last : Bool) where
    act_longer : {f : Memory → Step} → Act s e w false f → NotMore (f m).said → Act s e (w ++ x) last f
    act_longer (act.wants_more l _) n = absurd n
    act_longer (act.finishes h o) n = act.finishes (longer h) o
    act_longer (act.refuses_plain r y) n = act.refuses_plain r (plain_longer last y)
    act_longer (act.refuses_player r c y) n = act.refuses_player r c (player_longer y)
    act_longer (act.refuses_input r c y) n = act.refuses_input r c (input_longer y)
    act_longer (act.refuses13 h i b p) n = act.refuses13 (longer h) i b p
    act_longer (act.tick_starts h q o) n = act.tick_starts (kind_longer h) q o
    act_longer (act.tick_ends h p i b y) n = act.tick_ends (kind_longer h) p i b y
    act_longer (act.last_tick_ends h i) n = act.last_tick_ends (kind_longer h) i
    act_longer (act.skip_starts h o y) n = act.skip_starts (longer h) o y
    act_longer (act.skip_ends h i y) n = act.skip_ends (longer h) i y
    act_longer (act.player_comes h i b o) n = act.player_comes (longer h) i b o
    act_longer (act.player_moves h i p a b) n = act.player_moves (longer h) i p a b
    act_longer (act.player_leaves h i p) n = act.player_leaves (longer h) i p
    act_longer (act.input_comes h i f b) n = act.input_comes (longer h) i f b
    act_longer (act.input_moves h i f p) n = act.input_moves (longer h) i f p
    act_longer (act.passes h k i) n = act.passes (longer h) k i

-- so the call on the longer window is the same
read_longer : {r : Reader} {w : List ℕ} {t : Step} (x : List ℕ) (last : Bool) → ReadAct r w false t → NotMore t.said
    → read_call r (w ++ x) last ≡ t
unfolding read_call good_call
read_longer x last (act.on_bad g) n = rw g
read_longer x last (act.on_closed g c) n = rw (g, c)
read_longer {r} {w} x last (act.on_open {f} g o a) n =
    let m = memory_of r.entries in
    sym (picks_first _ _ _ g) ∙ sym (picks_second _ _ _ o) ∙ acts_are_calls r.scalars r.entries (w ++ x) last f (act_longer x m last a n) m

pub call_longer : CallLonger
call_longer r w x last n = read_longer x last (read_calls_are_acts r w false) n
