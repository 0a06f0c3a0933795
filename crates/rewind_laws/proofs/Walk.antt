-- Rows of events: the newest TickStart among them, stepping over them. Assumes nothing.
use Rattle.std.specs.Prelude.{Option}
use Prim.Native.Nat.{ℕ, zero, suc, ◌+◌}
use mathlib.Core.Path.{◌≡◌, refl, sym, ap, ◌∙◌}
use mathlib.Core.Bool.{Bool, true, false, cond, false≢true}
use mathlib.Core.List.{List, [], ◌∷◌, ◌++◌, map}
use native.Mathlib.Omega.{arith}
use lib.ListN.{length, take}
use lib.Dec.{ltb}
use lib.IntN.{ℤ}
use borrow.Author.Tests.{ltb-true, ltb-false, lt-ltb, le-ltb}
use Rattle.refusal.specs.declared.Refusal.{Refusal}
use Rattle.refusal.specs.declared.Refusal.TheVariants.{BadState}
use Rattle.packer.specs.declared.Part.{Part}
use Rattle.item.specs.Records.{Content}
use Rattle.state.specs.Reading.{
  Event,
  tick_start,
  tick_end,
  player_new,
  player_change,
  player_old,
  input,
  other,
}
use Rattle.teams.specs.Teams.{Joining, joins, nobody, joining_in}
use Rattle.team_calls.specs.Lists.{TeamSeen}
use Rattle.back.specs.TeamBoard.{TeamBack, was, refused, good_team_board, take_off_team, team_step_back}
use Rattle.back.specs.Undo.{undo_of, undone, former_in}
use Rattle.back.specs.declared.TeamBoard.{TeamBoard}
use Rattle.back.proofs.Teams.{team_undone}
use Rattle.demand.specs.TeamEvents.{team_back_over}
use Rattle.reel.specs.Reel.{Row, of_input}
use Rattle.reeling.specs.Laws.{row_of}
use Rattle.rewinding.specs.Rewinding.{is_start, Newer, newer, gone, one_newer, newer_than, step_over}

-- ---- the newest TickStart

-- among the first so many rows
abbrev pub within : ℕ → Newer → Newer
within k (newer n) = cond (ltb n k) (newer n) gone
within k gone = gone

within_0 : (x : Newer) → gone ≡ within 0 x
within_0 (newer n) = rw (le-ltb n 0 (omega arith))
within_0 gone = refl

within_suc_by : (k n : ℕ) (b : Bool) → ltb n k ≡ b → one_newer (cond b (newer n) gone) ≡ within (suc k) (newer (suc n))
within_suc_by k n true e = rw (lt-ltb (suc n) (suc k) (omega (arith, ltb-true n k e)))
within_suc_by k n false e = rw (le-ltb (suc n) (suc k) (omega (arith, ltb-false n k e)))

within_suc : (k : ℕ) (x : Newer) → one_newer (within k x) ≡ within (suc k) (one_newer x)
within_suc k (newer n) = within_suc_by k n (ltb n k) refl
within_suc k gone = refl

within_cons : (k : ℕ) (b : Bool) (x : Newer) → cond b (newer 0) (one_newer (within k x)) ≡ within (suc k) (cond b (newer 0) (one_newer x))
within_cons k true x = rw (lt-ltb 0 (suc k) (omega arith))
within_cons k false x = within_suc k x

pub newer_take : (t : ℤ) (k : ℕ) (xs : List Row) → newer_than t (take k xs) ≡ within k (newer_than t xs)
unfolding newer_than
newer_take t zero xs = within_0 (newer_than t xs)
newer_take t (suc k) [] = refl
newer_take t (suc k) (x ∷ xs) = rw (newer_take t k xs) (within_cons k (is_start t x.undo) (newer_than t xs))

-- of rows and older ones
abbrev pub or_older : Newer → ℕ → Newer → Newer
or_older (newer n) k y = newer n
or_older gone k (newer n) = newer (k + n)
or_older gone k gone = gone

older_one : (x : Newer) (k : ℕ) (y : Newer) → one_newer (or_older x k y) ≡ or_older (one_newer x) (suc k) y
older_one (newer n) k y = refl
older_one gone k (newer n) = let e : suc (k + n) ≡ suc k + n = omega arith in ap newer e
older_one gone k gone = refl

older_none : (y : Newer) → y ≡ or_older gone 0 y
older_none (newer n) = let e : n ≡ 0 + n = omega arith in ap newer e
older_none gone = refl

older_cons : (b : Bool) (x : Newer) (k : ℕ) (y : Newer)
    → cond b (newer 0) (one_newer (or_older x k y)) ≡ or_older (cond b (newer 0) (one_newer x)) (suc k) y
older_cons true x k y = refl
older_cons false x k y = older_one x k y

pub newer_append : (t : ℤ) (xs ys : List Row) → newer_than t (xs ++ ys) ≡ or_older (newer_than t xs) (length xs) (newer_than t ys)
unfolding newer_than
newer_append t [] ys = older_none (newer_than t ys)
newer_append t (x ∷ xs) ys = rw (newer_append t xs ys) (older_cons (is_start t x.undo) (newer_than t xs) (length xs) (newer_than t ys))

-- ---- stepping over the rows of events is stepping back over the events

-- of a record the ten numbers are not looked at
record_back : (r : Content Part) (ten former : List ℤ) (m : Option ℤ) (b : TeamBoard) (j : Joining) → joining_in r ≡ j
    → take_off_team (undone (undo_of (other r) m)) (of_input (undo_of (other r) m) ten []) (of_input (undo_of (other r) m) former []) (former_in (undo_of (other r) m)) b
    ≡ take_off_team (undone (undo_of (other r) m)) ten former (former_in (undo_of (other r) m)) b
unfolding take_off_team
record_back r ten former m b (joins c n) q = rw q
record_back r ten former m b nobody q = rw q

row_back : (e : Event) (ten former : List ℤ) (m : Option ℤ) (b : TeamBoard)
    → take_off_team (undone (undo_of e m)) (of_input (undo_of e m) ten []) (of_input (undo_of e m) former []) (former_in (undo_of e m)) b
    ≡ take_off_team e ten former m b
unfolding take_off_team
row_back (tick_start t) ten former m b = refl
row_back (tick_end t) ten former m b = refl
row_back (player_new c x y) ten former m b = refl
row_back (player_change c x y old-x old-y) ten former m b = refl
row_back (player_old c x y) ten former m b = refl
row_back (input c had) ten former m b = refl
row_back (other r) ten former m b = record_back r ten former m b (joining_in r) refl ∙ team_undone (other r) ten former m b

abbrev is_was : TeamBack → Bool
is_was (was b) = true
is_was (refused r) = false

pub differ : {r : Refusal} {a : TeamBoard} → refused r ≡ was a → ⊥
differ e = false≢true (ap is_was e)

fitted : (b : TeamBoard) (e : Event) (ten former : List ℤ) (m : Option ℤ) (g : Bool) {a : TeamBoard}
    → cond g (take_off_team e ten former m b) (refused BadState) ≡ was a → take_off_team e ten former m b ≡ was a
fitted b e ten former m true q = q
fitted b e ten former m false q = absurd (differ q)

stays_refused : (l : List TeamSeen) (r : Refusal) → team_back_over (refused r) l ≡ refused r
unfolding team_back_over
stays_refused [] r = refl
stays_refused (s ∷ l) r = stays_refused l r

-- one event that fitted, then the others
fits_then : (x : TeamSeen) (l : List TeamSeen) (b a : TeamBoard) → team_step_back b x.seen.event x.seen.ten x.seen.former x.team ≡ was a
    → step_over (map row_of (x ∷ l)) b ≡ step_over (map row_of l) a
unfolding step_over team_step_back
fits_then x l b a q =
    rw (row_back x.seen.event x.seen.ten x.seen.former x.team b, fitted b x.seen.event x.seen.ten x.seen.former x.team (good_team_board b) q)

abbrev Over : List TeamSeen → TeamBoard → TeamBoard → Type 0
Over l b a = step_over (map row_of l) b ≡ record { fits = true; board = a }

over_by : (x : TeamSeen) (l : List TeamSeen) (b a : TeamBoard) (s : TeamBack) → team_step_back b x.seen.event x.seen.ten x.seen.former x.team ≡ s → team_back_over s l ≡ was a
    → ((k : TeamBoard) → team_back_over (was k) l ≡ was a → Over l k a) → Over (x ∷ l) b a
over_by x l b a (was k) q e rest = fits_then x l b k q ∙ rest k e
over_by x l b a (refused r) q e rest = absurd (differ (sym (stays_refused l r) ∙ e))

pub over_back : (l : List TeamSeen) (b a : TeamBoard) → team_back_over (was b) l ≡ was a → Over l b a
unfolding team_back_over step_over
over_back [] b a e = let q : b ≡ a = cc in rw q
over_back (x ∷ l) b a e = over_by x l b a (team_step_back b x.seen.event x.seen.ten x.seen.former x.team) refl e (λ k. over_back l k a)
