-- The statements of specs/Laws.antt. Assumes nothing.
use Prim.Native.Nat.{ℕ}
use mathlib.Core.Path.{◌≡◌, refl, sym, ◌∙◌, subst, ap}
use mathlib.Core.Bool.{Bool, true, false, false≢true}
use mathlib.Core.List.{List}
use lib.IntN.{ℤ}
use Rattle.refusal.specs.declared.Refusal.{Refusal}
use Rattle.refusal.specs.declared.Refusal.TheVariants as refusal
use Rattle.fields.specs.declared.Args.{Args}
use Rattle.item.specs.Said.{Said, gives, more, finish, refuses, refusing}
use Rattle.views.proofs.Refusals.{same_refusal}
use Rattle.state.specs.State.{good_scalars, good_entries, good_reader}
use Rattle.state.specs.declared.Memory.{Memory}
use Rattle.state.specs.Reading.{Event, Step, step_of, is_closed, good_call, read_call, reader_after}
use Rattle.state.specs.steps.Parts.{memory_of}
use Rattle.state.specs.Acts.{BytesRunOut, Act, ReadAct}
use Rattle.state.specs.Acts as act
use Rattle.state.specs.declared.Entries.{Entries}
use Rattle.state.specs.declared.Reader.{Reader}
use Rattle.state.specs.declared.Answer.{Answer}
use Rattle.state.specs.declared.Answer.TheVariants as answers
use Rattle.state.proofs.Every.{left_of_law}
use Rattle.state.proofs.Numbers.{picks_first, picks_second}
use Rattle.state.proofs.Acts.{read_acts}
use Rattle.state.proofs.ByActs.{calls_by_acts}
use Rattle.rests.proofs.Slim.{slim_same}
use Rattle.reader.specs.Answers.{said_with}
use Rattle.reader.specs.declared.ReadAnswer.{ReadAnswer}
use Rattle.back.specs.Back.{step_back}
use Rattle.reading_laws.specs.Causes.{Open, Cause, WantsMore}
use Rattle.reading_laws.specs.Causes as cause
use Rattle.reading_laws.specs.Laws.{RefusalsHaveCauses, MoreIsWanted, ReadDetermined, BackWithoutArguments}
use Rattle.reading_laws.proofs.CausesOfActs.{act_cause, cause_act}
use Rattle.reading_laws.proofs.Answered.{same_answer, same_args}

good_scalars_law : (r : Reader) → good_reader r ≡ true → good_scalars r.scalars ≡ true
unfolding good_reader
good_scalars_law r g = left_of_law (good_scalars r.scalars) (good_entries r.entries) g

abbrev is_more : Said Event → Bool
is_more (gives e n) = false
is_more more = true
is_more (finish n) = false
is_more (refuses k vs) = false

-- ---- a call on a reader: on one that isn't good, on a closed one, and by an act on an open one

module _ (r : Reader) (w : List ℕ) (last : Bool) where
  on_bad_law : good_reader r ≡ false → read_call r w last ≡ step_of (refusing refusal.BadState) r.scalars (memory_of r.entries)
  unfolding read_call
  on_bad_law g = rw g

  on_closed_law : good_reader r ≡ true → is_closed r.scalars.standing ≡ true
      → read_call r w last ≡ step_of (refusing refusal.Closed) r.scalars (memory_of r.entries)
  unfolding read_call good_call
  on_closed_law g c = rw (g, c)

  by_act : Open r → {f : Memory → Step} → Act r.scalars r.entries w last f → read_call r w last ≡ f (memory_of r.entries)
  unfolding read_call good_call
  by_act o {f} a =
      sym (picks_first (good_reader r) _ _ o.good) ∙ sym (picks_second (is_closed r.scalars.standing) _ _ o.unclosed)
      ∙ calls_by_acts r.scalars r.entries w last f a (memory_of r.entries)

  -- ---- refusals

  call_cause : {t : Step} (n : Refusal) → ReadAct r w last t → t.said ≡ refusing n → Cause r w last n (reader_after t)
  call_cause n (act.on_bad g) e = subst (λ (q : Refusal). Cause r w last q r) (same_refusal refusal.BadState n e) (cause.bad_state g)
  call_cause n (act.on_closed g c) e = subst (λ (q : Refusal). Cause r w last q r) (same_refusal refusal.Closed n e) (cause.on_closed g c)
  call_cause n (act.on_open g c a) e =
      cause.on_open (record { good = g; unclosed = c })
      (act_cause r.scalars r.entries w last (good_scalars_law r g) (memory_of r.entries) n a e)

  -- the call says x and leaves the reader so
  abbrev Does : Said Event → Reader → Type 0
  Does x left = ((read_call r w last).said ≡ x) × (reader_after (read_call r w last) ≡ left)

  cause_call : {n : Refusal} {left : Reader} → Cause r w last n left → Does (refusing n) left
  cause_call (cause.bad_state g) = (rw (on_bad_law g), rw (on_bad_law g))
  cause_call (cause.on_closed g c) = (rw (on_closed_law g c), rw (on_closed_law g c))
  cause_call (cause.on_open o y) =
      let a = cause_act r.scalars r.entries w last y in
      let c = by_act o a.act in
      (rw c (a.said (memory_of r.entries)), rw c (a.leaves (memory_of r.entries)))

  -- ---- more

  act_wants : {f : Memory → Step} (m : Memory) → Act r.scalars r.entries w last f → is_more (f m).said ≡ true
      → (last ≡ false) × BytesRunOut r.scalars w
  act_wants m (act.wants_more l o) x = (l, o)
  act_wants m (act.finishes h o) x = absurd (false≢true x)
  act_wants m (act.refuses_plain r y) x = absurd (false≢true x)
  act_wants m (act.refuses_player r c y) x = absurd (false≢true x)
  act_wants m (act.refuses_input r c y) x = absurd (false≢true x)
  act_wants m (act.refuses13 h i b p) x = absurd (false≢true x)
  act_wants m (act.tick_starts h p o) x = absurd (false≢true x)
  act_wants m (act.tick_ends h p i b y) x = absurd (false≢true x)
  act_wants m (act.last_tick_ends h i) x = absurd (false≢true x)
  act_wants m (act.skip_starts h o y) x = absurd (false≢true x)
  act_wants m (act.skip_ends h i y) x = absurd (false≢true x)
  act_wants m (act.player_comes h i b o) x = absurd (false≢true x)
  act_wants m (act.player_moves h i p u v) x = absurd (false≢true x)
  act_wants m (act.player_leaves h i p) x = absurd (false≢true x)
  act_wants m (act.input_comes h i f b) x = absurd (false≢true x)
  act_wants m (act.input_moves h i f p) x = absurd (false≢true x)
  act_wants m (act.passes h o i) x = absurd (false≢true x)

  call_wants : {t : Step} → ReadAct r w last t → is_more t.said ≡ true → WantsMore r w last
  call_wants (act.on_bad g) e = absurd (false≢true e)
  call_wants (act.on_closed g c) e = absurd (false≢true e)
  call_wants (act.on_open g c a) e =
      let y = act_wants (memory_of r.entries) a e in
      record { reader = record { good = g; unclosed = c }; flag = y.0; out = y.1 }

  wants_call : WantsMore r w last → Does more r
  wants_call m = let c = by_act m.reader (act.wants_more m.flag m.out) in (rw c, rw c)

-- ---- what the code hands back

refused_answer : (a : Answer) (xs : Args) (n : Refusal) → said_with a xs ≡ refusing n → a ≡ answers.Refused n
refused_answer a xs n e = same_answer a (answers.Refused n) xs xs e

pub refusals_have_causes : RefusalsHaveCauses
refusals_have_causes r w last a h n =
    record {
      cause = λ e.
          subst (Cause r w last n) (sym h.left) (call_cause r w last n (read_acts r w last) (sym h.said ∙ ap (λ (x : Answer). said_with x a.args) e));
      refuses = λ left c.
          let d = cause_call r w last c in
          (refused_answer a.answer a.args n (h.said ∙ d.0), h.left ∙ d.1);
    }

pub more_is_wanted : MoreIsWanted
more_is_wanted r w last a h =
    record {
      wants = λ e.
          call_wants r w last (read_acts r w last) (ap is_more (sym h.said ∙ ap (λ (x : Answer). said_with x a.args) e));
      says = λ m.
          let d = wants_call r w last m in
          (same_answer a.answer answers.More a.args a.args (h.said ∙ d.0), h.left ∙ d.1);
    }

abbrev handed : Answer → Reader → List ℤ → List ℤ → Args → ReadAnswer
handed a r ten former xs = record { answer = a; reader = r; input = ten; former = former; args = xs }

parts_same : (a b : ReadAnswer) → a.answer ≡ b.answer → a.reader ≡ b.reader → a.input ≡ b.input → a.former ≡ b.former
    → a.args ≡ b.args → a ≡ b
parts_same a b p q x y z =
    let e : handed a.answer a.reader a.input a.former a.args
    ≡ handed b.answer b.reader b.input b.former b.args = cc in e

pub read_determined : ReadDetermined
read_determined r w last a b ha hb =
    let said = ha.said ∙ sym hb.said in
    let answer = same_answer a.answer b.answer a.args b.args said in
    let args = same_args a.args b.args b.answer (rw answer at ha.args) hb.args (rw answer at said) in
    let reader = ha.left ∙ sym hb.left in
    let input = ha.input ∙ sym hb.input in
    let former = ha.former ∙ sym hb.former in
    parts_same a b answer reader input former args

-- ---- stepping back

pub back_without_arguments : BackWithoutArguments
unfolding step_back
back_without_arguments b e ten former = sym (slim_same (λ (d : Event). step_back b d ten former) (λ r. refl) e)
