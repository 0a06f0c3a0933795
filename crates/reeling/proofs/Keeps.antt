-- What a reel keeps of the event that a call gives: neither a command's arguments nor what stood in the memory before the call. Assumes
-- nothing.
use Rattle.std.specs.Prelude.{Option}
use Prim.Native.Nat.{ℕ, ◌+◌, ◌<◌, min}
use mathlib.Core.Path.{◌≡◌, refl, sym, ap, ◌∙◌}
use mathlib.Core.Bool.{Bool, true, false, cond, ◌&&◌}
use mathlib.Core.List.{List}
use native.Mathlib.Omega.{arith}
use lib.Dec.{ltb, leb}
use lib.IntN.{ℤ}
use borrow.Author.Tests.{lt-ltb, le-leb, ltb-true}
use Rattle.item.specs.Said.{Said, gives, more, finish, refuses}
use Rattle.state.specs.State.{good_reader}
use Rattle.state.specs.declared.Memory.{Memory}
use Rattle.state.specs.Reading.{Event, Step, is_closed, good_call, read_call}
use Rattle.state.specs.Acts.{Act}
use Rattle.state.specs.Acts as act
use Rattle.state.specs.Slim.{slim}
use Rattle.state.specs.Laws.{Sound}
use Rattle.state.specs.declared.Entries.{Entries}
use Rattle.state.specs.declared.Scalars.{Scalars}
use Rattle.state.specs.steps.Parts.{memory_of}
use Rattle.state.proofs.Acts.{acts}
use Rattle.state.proofs.Every.{by_cond}
use Rattle.state.proofs.Numbers.{picks_first}
use Rattle.teams.specs.Teams.{Joining, joins, nobody, joining_in}
use Rattle.teams.proofs.Joins.{joining_own}
use Rattle.rests.proofs.Slim.{slim_same}
use Rattle.back.specs.Undo.{undo_joining}
use Rattle.reel.specs.Reel.{place_after, good_counts, good_reel, one_more, keep_row, keep, keeping}
use Rattle.reel.specs.declared.Counts.{Counts}
use Rattle.reel.specs.declared.KeptReel.{KeptReel}
use Rattle.reel.specs.declared.Reel.{Reel}
use Rattle.many.proofs.OneCall.{reader_of}

pub slim_keep : (l : Reel) (e : Event) (ten former : List ℤ) (team : Option ℤ) → keep l (slim e) ten former team ≡ keep l e ten former team
slim_keep l e ten former team =
    slim_same (λ (d : Event). keep l d ten former team) (λ r. ap (λ (j : Joining). keep_row l (undo_joining j team) ten former) (joining_own r)) e

-- of a record that is no input no ten numbers are kept
record_alike : (l : Reel) (j : Joining) (team : Option ℤ) (a b x y : List ℤ) → keep_row l (undo_joining j team) a b ≡ keep_row l (undo_joining j team) x y
unfolding keep_row
record_alike l (joins c n) team a b x y = refl
record_alike l nobody team a b x y = refl

-- the reel after what a call says, with this former team
abbrev pub keep_said : Reel → Option ℤ → Said Event → Memory → Reel
keep_said l team (gives e n) m = keep l e m.input m.former team
keep_said l team more m = l
keep_said l team (finish n) m = l
keep_said l team (refuses k vs) m = l

abbrev keep_step : Reel → Option ℤ → Step → Reel
keep_step l team t = keep_said l team t.said t.memory

-- calls that a reel keeps alike
record AsKept (l : Reel) (team : Option ℤ) (t u : Step) : Type 0 where
  same : keep_step l team t ≡ keep_step l team u

module _ {l : Reel} {team : Option ℤ} where
  by_both : (b : Bool) {x y p q : Step} → AsKept l team x p → AsKept l team y q → AsKept l team (cond b x y) (cond b p q)
  by_both true f g = f
  by_both false f g = g

  module _ {s : Scalars} {e : Entries} {w : List ℕ} {last : Bool} where
    act_keeps : {f : Memory → Step} → Act s e w last f → (m k : Memory) → AsKept l team (f m) (f k)
    unfolding keep_row
    act_keeps (act.wants_more a _) m k = record { same = refl }
    act_keeps (act.finishes h o) m k = record { same = refl }
    act_keeps (act.refuses_plain r _) m k = record { same = refl }
    act_keeps (act.refuses_player r c _) m k = record { same = refl }
    act_keeps (act.refuses_input r c _) m k = record { same = refl }
    act_keeps (act.refuses13 _ _ b p) m k = record { same = refl }
    act_keeps (act.tick_starts h q o) m k = record { same = refl }
    act_keeps (act.tick_ends h p i b x) m k = record { same = refl }
    act_keeps (act.last_tick_ends h i) m k = record { same = refl }
    act_keeps (act.skip_starts h o x) m k = record { same = refl }
    act_keeps (act.skip_ends h i x) m k = record { same = refl }
    act_keeps (act.player_comes h i b o) m k = record { same = refl }
    act_keeps (act.player_moves h i p x y) m k = record { same = refl }
    act_keeps (act.player_leaves h i p) m k = record { same = refl }
    act_keeps (act.input_comes h i f b) m k = record { same = refl }
    act_keeps (act.input_moves h i f p) m k = record { same = refl }
    act_keeps (act.passes {r = r} h o i) m k = record { same = record_alike l (joining_in r) team _ _ _ _ }

  good_keeps : (s : Scalars) (m : Memory) (w : List ℕ) (last : Bool) → AsKept l team (good_call s m w last) (good_call s (memory_of m.entries) w last)
  unfolding good_call
  good_keeps s m w last =
      by_both (is_closed s.standing) (record { same = refl }) (act_keeps (acts s m.entries w last) m (memory_of m.entries))

pub call_keeps : (l : Reel) (team : Option ℤ) (s : Scalars) (m : Memory) (w : List ℕ) (last : Bool) → Sound (reader_of s m)
    → keep_step l team (good_call s m w last) ≡ keep_step l team (read_call (reader_of s m) w last)
unfolding read_call
call_keeps l team s m w last sound =
    (good_keeps s m w last).same ∙ ap (keep_step l team) (picks_first (good_reader (reader_of s m)) _ _ sound.good)

-- ---- a good reel keeps every event and stays good

place_below : (p : ℕ) → place_after p < 512
place_below p = by_cond (λ (n : ℕ). n < 512) (ltb p 511) (λ h. omega (arith, ltb-true p 511 h)) (λ _. omega arith)

more_is_good : (k : Counts) → good_counts (one_more k) ≡ true
more_is_good k =
    let a = lt-ltb (place_after k.next) 512 (place_below k.next) in
    let b : leb (min (k.count + 1) 512) 512 ≡ true = le-leb (min (k.count + 1) 512) 512 (omega arith) in
    ap (λ (x : Bool). x && leb (min (k.count + 1) 512) 512) a ∙ b

module _ (l : Reel) (e : Event) (ten former : List ℤ) (team : Option ℤ) where
  pub kept : (a : KeptReel) → good_reel l ≡ true → a ≡ keeping l e ten former team → a.reel ≡ keep l e ten former team
  unfolding keeping
  kept a good h = ap (λ (x : KeptReel). x.reel) (h ∙ sym (picks_first (good_reel l) _ _ good))

  pub stays_good : (l₁ : Reel) → l₁ ≡ keep l e ten former team → good_reel l₁ ≡ true
  unfolding keep_row
  stays_good l₁ h = ap good_reel h ∙ more_is_good l.counts
