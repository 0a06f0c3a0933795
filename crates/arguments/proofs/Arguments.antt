-- The arguments beside what a call says: those of a command, read again; else none. Assumes nothing.
use Prim.Native.Nat.{ℕ}
use mathlib.Core.Path.{◌≡◌, refl, sym, ap, subst, ◌∙◌}
use mathlib.Core.Bool.{Bool, true, false}
use mathlib.Core.List.{List, [], ◌++◌}
use lib.IntN.{ℤ}
use Rattle.packer.specs.declared.Part.{Part}
use Rattle.fields.specs.Fields.{Value, got}
use Rattle.fields.specs.Views.{args_with}
use Rattle.fields.specs.declared.Args.{Args}
use Rattle.fields.proofs.Answers.{not_out, not_refused}
use Rattle.item.specs.Said.{Said, gives, more, finish, refuses}
use Rattle.item.specs.Records.{Content, content}
use Rattle.item.specs.Contents.{item_of, beside_of, parts_of, with_beside, no_args, args_in, record_of}
use Rattle.item.specs.steps.Beside.{beside}
use Rattle.kinds.specs.Kinds.{Beside, nothing, ten, arguments, of_extension, by_beside}
use Rattle.item.specs.declared.Item.{Item}
use Rattle.kinds.specs.declared.Kind.{Kind}
use Rattle.kinds.specs.declared.KindRead.{KindRead}
use Rattle.kinds.specs.declared.KindRead.TheVariants as reads
use Rattle.item.specs.declared.Record.{Record}
use Rattle.item.specs.declared.Tag.{Tag}
use Rattle.item.specs.declared.Tag.TheVariants.{Plain, Named, Other}
use Rattle.refusal.specs.declared.Refusal.{Refusal}
use Rattle.records.specs.steps.Views.{answer_is, tidy_answer, RestRead}
use Rattle.item.specs.Own.{own_content}
use Rattle.records.specs.declared.RecordAnswer.{RecordAnswer}
use Rattle.records.specs.declared.RecordAnswer.TheVariants as rests
use Rattle.records.specs.declared.RecordRead.{RecordRead}
use Rattle.records.proofs.Beside.{own_record}
use Rattle.state.specs.Sorts.{tag_sort}
use Rattle.state.specs.declared.Memory.{Memory}
use Rattle.state.specs.Reading.{Event, other, next_kind, open_call}
use Rattle.state.specs.Slim.{said_is}
use Rattle.state.specs.Slim.{slim_said}
use Rattle.state.specs.declared.Scalars.{Scalars}
use Rattle.state.specs.declared.Event.TheVariants as events
use Rattle.state.specs.declared.Answer.{Answer}
use Rattle.state.specs.declared.Answer.TheVariants as answers
use Rattle.rests.specs.steps.Kinds.{other_sort}
use Rattle.rests.proofs.Others.{no_other, by_other}
use Rattle.rests.proofs.Slim.{other_event, other_said, slim_same, slim_said_law}
use Rattle.kinds.specs.steps.Kinds.{is_command, kind_is}
use Rattle.arguments.specs.Arguments.{answer_args, said_with}
use Rattle.arguments.specs.steps.Inside.{is_record, ArgsFor}
use Rattle.arguments.proofs.Whole.{whole_got}
use Rattle.arguments.proofs.Records.{FromRest, FromKind, call_given}

-- ---- a record among the answers

record_said_law : (a : Answer) → is_record a ≡ other_said (said_is a)
record_said_law (answers.Event (events.TickStart t) used) = refl
record_said_law (answers.Event (events.TickEnd t) used) = refl
record_said_law (answers.Event (events.PlayerNew c x y) used) = refl
record_said_law (answers.Event (events.PlayerChange c x y old-x old-y) used) = refl
record_said_law (answers.Event (events.PlayerOld c x y) used) = refl
record_said_law (answers.Event (events.Input c former) used) = refl
record_said_law (answers.Event (events.Record i) used) = refl
record_said_law answers.More = refl
record_said_law (answers.Finish used) = refl
record_said_law (answers.Refused r) = refl

slim_other : (x : Said Event) → other_said x ≡ other_said (slim_said x)
slim_other (gives e used) = sym (slim_same other_event (λ c. refl) e)
slim_other more = refl
slim_other (finish used) = refl
slim_other (refuses k vs) = refl

-- a call gives a record exactly if the code's answer is one
same_record : (a : Answer) (x : Said Event) → said_is a ≡ slim_said x → other_said x ≡ is_record a
same_record a x e = slim_other x ∙ ap other_said (sym e) ∙ sym (record_said_law a)

-- ---- what is no record has no arguments

said_plain : (a : Answer) (xs : Args) → is_record a ≡ false → said_with a xs ≡ said_is a
said_plain (answers.Event (events.TickStart t) used) xs h = refl
said_plain (answers.Event (events.TickEnd t) used) xs h = refl
said_plain (answers.Event (events.PlayerNew c x y) used) xs h = refl
said_plain (answers.Event (events.PlayerChange c x y old-x old-y) used) xs h = refl
said_plain (answers.Event (events.PlayerOld c x y) used) xs h = refl
said_plain (answers.Event (events.Input c former) used) xs h = refl
said_plain (answers.Event (events.Record i) used) xs h = no_other (sym h)
said_plain answers.More xs h = refl
said_plain (answers.Finish used) xs h = refl
said_plain (answers.Refused r) xs h = refl

-- nothing has no arguments
beside_none : (b : Beside) → by_beside no_args no_args (args_with (parts_of no_args)) no_args b ≡ no_args
unfolding args_with
beside_none nothing = refl
beside_none ten = refl
beside_none arguments = refl
beside_none of_extension = refl

tag_none : (t : Tag) → args_in t no_args ≡ no_args
tag_none t = beside_none (beside_of t)

no_tidy : (a : Answer) → answer_args a no_args ≡ no_args
no_tidy (answers.Event (events.TickStart t) used) = refl
no_tidy (answers.Event (events.TickEnd t) used) = refl
no_tidy (answers.Event (events.PlayerNew c x y) used) = refl
no_tidy (answers.Event (events.PlayerChange c x y old-x old-y) used) = refl
no_tidy (answers.Event (events.PlayerOld c x y) used) = refl
no_tidy (answers.Event (events.Input c former) used) = refl
no_tidy (answers.Event (events.Record i) used) = tag_none (item_of i).tag
no_tidy answers.More = refl
no_tidy (answers.Finish used) = refl
no_tidy (answers.Refused r) = refl

pub args_none : (a : Answer) (s : Scalars) (w : List ℕ) → is_record a ≡ false → ArgsFor a s w no_args
args_none a s w h =
    record {
      said = λ m last e.
          let x = (open_call s m w last).said in
          said_plain a no_args h ∙ e ∙ slim_said_law x (same_record a x e ∙ h);
      tidy = λ m last e. no_tidy a;
    }

-- ---- a record with its arguments

record Recorded (a : Answer) : Type 0 where
  pub item : Item
  pub used : ℕ
  pub is : answers.Event (events.Record item) used ≡ a

recorded : (a : Answer) → is_record a ≡ true → Recorded a
recorded (answers.Event (events.TickStart t) used) h = no_other h
recorded (answers.Event (events.TickEnd t) used) h = no_other h
recorded (answers.Event (events.PlayerNew k x y) used) h = no_other h
recorded (answers.Event (events.PlayerChange k x y old-x old-y) used) h = no_other h
recorded (answers.Event (events.PlayerOld k x y) used) h = no_other h
recorded (answers.Event (events.Input k former) used) h = no_other h
recorded (answers.Event (events.Record i) used) h = record { item = i; used = used; is = refl }
recorded answers.More h = no_other h
recorded (answers.Finish used) h = no_other h
recorded (answers.Refused r) h = no_other h

-- with the record's arguments it is whole, and they are no others than a record of its tag has
module _ (xs : Args) (c : Content Part) (n : ℕ) where
  item_whole : (i : Item) (used : ℕ) → said_is (answers.Event (events.Record i) used) ≡ gives (other (own_content c)) n
      → with_beside (own_content c) [] xs ≡ c → said_with (answers.Event (events.Record i) used) xs ≡ gives (other c) n
  item_whole i used e b =
      let p : item_of i ≡ own_content c = cc in
      let q : used ≡ n = cc in
      rw (p, q) (ap (λ (d : Content Part). gives (other d) n) b)

  item_kept : (i : Item) (used : ℕ) → said_is (answers.Event (events.Record i) used) ≡ gives (other (own_content c)) n
      → args_in c.tag xs ≡ xs → answer_args (answers.Event (events.Record i) used) xs ≡ xs
  item_kept i used e b =
      let p : item_of i ≡ own_content c = cc in
      subst (λ (d : Content Part). args_in d.tag xs ≡ xs) (sym p) b

  said_record : (a : Answer) → Recorded a → said_is a ≡ gives (other (own_content c)) n → with_beside (own_content c) [] xs ≡ c
      → said_with a xs ≡ gives (other c) n
  said_record a r =
      subst (λ (d : Answer). said_is d ≡ gives (other (own_content c)) n → with_beside (own_content c) [] xs ≡ c → said_with d xs ≡ gives (other c) n)
      r.is (item_whole r.item r.used)

  said_kept : (a : Answer) → Recorded a → said_is a ≡ gives (other (own_content c)) n → args_in c.tag xs ≡ xs → answer_args a xs ≡ xs
  said_kept a r =
      subst (λ (d : Answer). said_is d ≡ gives (other (own_content c)) n → args_in c.tag xs ≡ xs → answer_args d xs ≡ xs)
      r.is (item_kept r.item r.used)

-- the ten numbers don't stand beside a record that changes no entry
beside_other : (t : Tag) (zs : List ℤ) (xs : Args) → other_sort (tag_sort t) ≡ true → beside t [] xs ≡ beside t zs xs
beside_other (Plain k) zs xs o = by_other (λ k. beside (Plain k) [] xs ≡ beside (Plain k) zs xs) refl refl refl refl refl k o
beside_other (Named k) zs xs o = refl
beside_other Other zs xs o = refl

record_beside : (r : Record) → other_sort (tag_sort (item_of r.item).tag) ≡ true → with_beside (own_content (record_of r)) [] r.args ≡ record_of r
record_beside r o =
    let i = item_of r.item in
    ap (λ (c : Content Part). with_beside c [] r.args) (sym (own_record r))
    ∙ ap (λ (vs : List (Value Part)). content i.tag (i.values ++ vs)) (beside_other i.tag r.input r.args o)

answer_beside : (a : RecordAnswer) (r : Record) (c : Content Part) (n : ℕ) → answer_is a r ≡ got c n → other_sort (tag_sort c.tag) ≡ true
    → with_beside (own_content c) [] r.args ≡ c
answer_beside (rests.Got next) r c n e o =
    let p : record_of r ≡ c = cc in
    subst (λ (d : Content Part). other_sort (tag_sort d.tag) ≡ true → with_beside (own_content d) [] r.args ≡ d) p (record_beside r) o
answer_beside rests.RunsOut r c n e o = not_out e
answer_beside (rests.Refused q) r c n e o = not_refused e

-- ---- the arguments that stand beside a record are its own

answer_kept : (a : RecordAnswer) (r : Record) (c : Content Part) (n : ℕ) → answer_is a r ≡ got c n → (tidy_answer a r).args ≡ r.args
    → args_in c.tag r.args ≡ r.args
answer_kept (rests.Got next) r c n e t =
    let p : record_of r ≡ c = cc in
    subst (λ (d : Content Part). args_in d.tag r.args ≡ r.args) p t
answer_kept rests.RunsOut r c n e t = not_out e
answer_kept (rests.Refused q) r c n e t = not_refused e

-- ---- where the kind was read

module _ (a : Answer) (s : Scalars) (w : List ℕ) (h : is_record a ≡ true) (r : KindRead) (k : kind_is r ≡ next_kind s.version s.pending w)
  where
    given : (y : KindRead) → r ≡ y → (m : Memory) (last : Bool) → said_is a ≡ slim_said (open_call s m w last).said
        → FromKind s m w last (kind_is y) (open_call s m w last).said
    given y e m last q = call_given s m w last (kind_is y) (ap kind_is (sym e) ∙ k) (same_record a (open_call s m w last).said q ∙ h)

    -- arguments that make the record whole
    from_rest : (xs : Args) (m : Memory) (last : Bool) (kind : Kind) (n : ℕ) → said_is a ≡ slim_said (open_call s m w last).said
        → (f : FromRest kind w n (open_call s m w last).said) → with_beside (own_content f.content) [] xs ≡ f.content
        → said_with a xs ≡ (open_call s m w last).said
    from_rest xs m last kind n q f b = said_record xs f.content f.used a (recorded a h) (q ∙ ap slim_said f.said) b ∙ sym f.said

    pub args_plain : (kind : Kind) (n : ℕ) → r ≡ reads.Got kind n → is_command kind ≡ false → ArgsFor a s w no_args
    args_plain kind n e p =
        record {
          said = λ m last q.
              let f = given (reads.Got kind n) e m last q in
              from_rest no_args m last kind n q f (whole_got w kind n f.content f.used f.kind p f.read);
          tidy = λ m last q. no_tidy a;
        }

    pub args_command : (kind : Kind) (n : ℕ) → r ≡ reads.Got kind n → (x : RecordRead) → RestRead kind w n x → ArgsFor a s w x.value.args
    args_command kind n e x t =
        record {
          said = λ m last q.
              let f = given (reads.Got kind n) e m last q in
              from_rest x.value.args m last kind n q f
              (answer_beside x.answer x.value f.content f.used (t.values ∙ f.read) f.tag);
          tidy = λ m last q.
              let f = given (reads.Got kind n) e m last q in
              said_kept x.value.args f.content f.used a (recorded a h) (q ∙ ap slim_said f.said)
              (answer_kept x.answer x.value f.content f.used (t.values ∙ f.read) (ap (λ (v : Record). v.args) t.tidy));
        }

    pub args_out : r ≡ reads.RunsOut → ArgsFor a s w no_args
    args_out e = record { said = λ m last q. absurd (given reads.RunsOut e m last q); tidy = λ m last q. no_tidy a }

    pub args_refused : (q : Refusal) → r ≡ reads.Refused q → ArgsFor a s w no_args
    args_refused z e = record { said = λ m last q. absurd (given (reads.Refused z) e m last q); tidy = λ m last q. no_tidy a }
