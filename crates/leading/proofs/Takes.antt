-- A call on an open reader by its act; the calls that a record takes inside a tick and outside. Assumes nothing.
use Rattle.std.specs.Prelude.{Option, None}
use Prim.Native.Nat.{ℕ}
use mathlib.Core.Path.{◌≡◌, refl, sym, ◌∙◌, ap}
use mathlib.Core.Bool.{Bool, true, false}
use mathlib.Core.List.{List, [], ◌∷◌, ◌++◌, append-nil}
use lib.ListN.{length}
use lib.IntN.{ℤ}
use Rattle.fields.specs.Fields.{Value}
use Rattle.kinds.specs.declared.Version.{Version}
use Rattle.kinds.specs.declared.Kind.{Kind}
use Rattle.item.specs.Records.{content}
use Rattle.item.specs.declared.Tag.{Tag}
use Rattle.written.specs.Written.{kind_bytes, write_content}
use Rattle.state.specs.State.{reader_with}
use Rattle.state.specs.declared.Memory.{Memory}
use Rattle.state.specs.Reading.{Step, starting, good_call, read_call, reader_after, is_closed}
use Rattle.state.specs.Acts.{wants_tick, Act}
use Rattle.state.specs.Acts as act
use Rattle.state.specs.Laws.{Sound}
use Rattle.state.specs.steps.Parts.{memory_of}
use Rattle.state.specs.declared.Entries.{Entries}
use Rattle.state.specs.declared.Standing.TheVariants.{Open}
use Rattle.state.specs.declared.Scalars.{Scalars}
use Rattle.state.specs.declared.Reader.{Reader}
use Rattle.state.proofs.Numbers.{picks_first, picks_second}
use Rattle.state.proofs.Theorems.{acts_are_calls, readers_stay_sound}
use Rattle.teams.specs.Teams.{Joining, nobody}
use Rattle.leading.specs.Leads.{GivesUsing, joining_said, Takes, Leads, there, takes, after_joining, after_joinings}
use Rattle.leading.specs.Records.{Ready, LeadsWith}
use Rattle.leading.proofs.Found.{Form, Found, kind_had, read_found, pending_found}

-- an act that gives an event with n bytes, says j of a team and leaves this reader
pub record Acts (s : Scalars) (e : Entries) (w : List ℕ) (last : Bool) (n : ℕ) (j : Joining) (to : Reader) : Type 0 where
  pub does : Memory → Step
  pub act : Act s e w last does
  pub uses : GivesUsing n (does (memory_of e)).said
  pub says : joining_said (does (memory_of e)).said ≡ j
  pub leaves : reader_after (does (memory_of e)) ≡ to

-- good and open
pub record Reading (r : Reader) : Type 0 where
  pub sound : Sound r
  pub reads : r.scalars.standing ≡ Open

module _ (r : Reader) (ok : Reading r) where
  called : {w : List ℕ} {last : Bool} {f : Memory → Step} → Act r.scalars r.entries w last f
      → read_call r w last ≡ f (memory_of r.entries)
  unfolding read_call good_call
  called {w} {last} {f} a =
      sym (picks_first _ _ _ ok.sound.good)
      ∙ sym (picks_second _ _ _ (ap is_closed ok.reads))
      ∙ acts_are_calls r.scalars r.entries w last f a (memory_of r.entries)

  -- a piece is taken, if its act is known whatever follows
  pub taken : (piece : List ℕ) (j : Joining) (to : Reader)
      → ((behind : List ℕ) (last : Bool) → Acts r.scalars r.entries (piece ++ behind) last (length piece) j to) → Takes r piece j to
  taken piece j to f =
      record {
        gives = λ behind last. let a = f behind last in rw (called a.act) a.uses;
        says = λ behind last. let a = f behind last in rw (called a.act) a.says;
        leaves = λ behind last. let a = f behind last in rw (called a.act) a.leaves;
      }

  -- and leaves a sound reader
  pub taken_sound : {piece : List ℕ} {j : Joining} {to : Reader} → Takes r piece j to → Sound to
  taken_sound {piece} t = rw (t.leaves [] false) at (readers_stay_sound r (piece ++ []) false ok.sound)

-- ---- records that come inside a tick

-- the scalars behind such a record
pub record Behind (s t : Scalars) (p : Option ℤ) : Type 0 where
  pub tick : t.tick ≡ s.tick
  pub inside : t.inside ≡ s.inside
  pub remembered : t.remembered ≡ p
  pub pending : t.pending ≡ None
  pub standing : t.standing ≡ s.standing

-- what a record of kind k with the tag t and the values ms does inside a tick: where p was remembered and the entries were e, q is remembered
-- and they are d; it says j of a team
pub record Does (v : Version) (k : Kind) (t : Tag) (ms : List (Value (List ℕ))) (j : Joining) (e : Entries) (p : Option ℤ) (d : Entries) (q : Option ℤ) : Type 0 where
  pub form : Form v k t ms
  pub wants : wants_tick k ≡ true
  pub turns : Scalars → Scalars
  pub behind : (s : Scalars) → s.remembered ≡ p → Behind s (turns s) q
  pub acts : (s : Scalars) → s.inside ≡ true → s.remembered ≡ p → (w : List ℕ) (last : Bool) (n : ℕ) → Found s w k t ms n
      → Acts s e w last n j (reader_with (turns s) d)

module _ (r : Reader) (ready : Ready r) where
  pub open_reader : Reading r
  open_reader = record { sound = ready.sound; reads = ready.reads }

  module _ {k : Kind} {t : Tag} {ms : List (Value (List ℕ))} {j : Joining} {d : Entries} {q : Option ℤ}
      (f : Does r.scalars.version k t ms j r.entries r.scalars.remembered d q) where
    abbrev kept : List ℕ
    kept = f.form.values

    abbrev left : Scalars → Reader
    left s = reader_with (f.turns s) d

    -- all of it in one call
    in_tick_law : r.scalars.inside ≡ true → Takes r (kind_bytes k ++ kept) j (left r.scalars)
    in_tick_law i =
        taken r open_reader (kind_bytes k ++ kept) j (left r.scalars)
        (λ behind last. f.acts r.scalars i refl ((kind_bytes k ++ kept) ++ behind) last _ (read_found r.scalars f.form ready.free behind))

    -- the tick starts, and the kind is pending
    abbrev started : Reader
    started = reader_with (starting k r.scalars) r.entries

    starts : r.scalars.inside ≡ false → Takes r (kind_bytes k) nobody started
    starts o =
        taken r open_reader (kind_bytes k) nobody started
        (λ behind last.
        record {
          does = _;
          act = act.tick_starts (kind_had r.scalars f.form ready.free behind) f.wants o;
          uses = refl;
          says = refl;
          leaves = refl;
        })

    started_reads : r.scalars.inside ≡ false → Reading started
    unfolding starting
    started_reads o = record { sound = taken_sound r open_reader (starts o); reads = ready.reads }

    -- then its values are read
    goes_on : r.scalars.inside ≡ false → Takes started kept j (left (starting k r.scalars))
    unfolding starting
    goes_on o =
        taken started (started_reads o) kept j (left (starting k r.scalars))
        (λ behind last. f.acts (starting k r.scalars) refl refl (kept ++ behind) last _ (pending_found (starting k r.scalars) f.form refl behind))

    abbrev record_bytes_law : List ℕ
    record_bytes_law = write_content (content t ms)

    -- one record, which leaves the tick where it is, under way
    abbrev Done : Type 0
    Done = LeadsWith r record_bytes_law r.scalars.tick true q d (after_joining j)

    -- the reader that the last call leaves, on scalars s
    leaving : (s : Scalars) → s.tick ≡ r.scalars.tick → s.inside ≡ true → s.remembered ≡ r.scalars.remembered → s.standing ≡ Open
        → (js : List Joining) → ((t : List ℤ) → after_joinings js t ≡ after_joining j t) → Leads r record_bytes_law js (left s) → Sound (left s) → Done
    leaving s t i p o js h l g =
        let b = f.behind s p in
        record {
          to = left s;
          says = js;
          leads = l;
          joins = h;
          ready = record { sound = g; reads = b.standing ∙ o; free = b.pending };
          at = b.tick ∙ t;
          within = b.inside ∙ i;
          names = b.remembered;
          holds = refl;
        }

    by_inside : (b : Bool) → r.scalars.inside ≡ b → Done
    unfolding starting after_joinings
    by_inside true i =
        let x = in_tick_law i in
        leaving r.scalars refl i refl ready.reads (j ∷ []) (λ t. refl) (takes _ [] (f.form.whole ∙ sym (append-nil _)) x there)
        (taken_sound r open_reader x)
    by_inside false o =
        let x = goes_on o in
        leaving (starting k r.scalars) refl refl refl ready.reads (nobody ∷ j ∷ []) (λ t. refl)
        (takes _ kept f.form.whole (starts o) (takes kept [] (sym (append-nil kept)) x there)) (taken_sound started (started_reads o) x)

    pub leads_on : Done
    leads_on = by_inside r.scalars.inside refl
