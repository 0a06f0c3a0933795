-- A PlayerTeam's client among the teams by the tests that the code makes (b is the client's bits); what a call leaves of a board with
-- teams, of what it leaves of one without. Assumes nothing.
use Rattle.std.specs.Prelude.{Option, Some, None}
use Prim.Native.Nat.{ℕ, ◌≤◌, ◌<◌}
use mathlib.Core.Path.{◌≡◌, refl, sym, ap, ◌∙◌}
use mathlib.Core.Bool.{Bool, true, false, cond, ◌&&◌, false≢true}
use mathlib.Core.List.{List}
use native.Mathlib.Omega.{arith}
use lib.Dec.{ltb}
use lib.IntN.{ℤ, pos, negsuc}
use borrow.Author.Tests.{lt-ltb, le-ltb}
use mir.Syntax.{w32}
use mir.Val.{SFits, of_z}
use Rattle.refusal.specs.declared.Refusal.TheVariants.{NotLast}
use Rattle.state.specs.State.{same_int}
use Rattle.state.specs.Reading.{Event}
use Rattle.state.specs.declared.Entries.{Entries}
use Rattle.state.proofs.Numbers.{picks_first, picks_second, client_is}
use Rattle.teams.specs.Teams.{number_of, has_team, team_of, is_in, mark_for, number_for, joins, joining_of}
use Rattle.back.specs.Board.{board}
use Rattle.back.specs.Back.{Back, was, refused, take_off}
use Rattle.back.specs.TeamBoard.{TeamBack, team_board, beside, fits_teams, teams_before, take_off_team}
use Rattle.back.specs.TeamBoard as teamed
use Rattle.taking.specs.Taking.{Taken, taken_from, taken_is, TeamTaken, team_taken_from, team_taken_is}
use Rattle.taking.specs.declared.Off.{Off}
use Rattle.taking.proofs.Cases.{Left}

-- ---- a client and its team

pub in_far : (t : List ℤ) (z n : ℤ) (b : ℕ) → b ≡ of_z w32 z → 128 ≤ b → true ≡ fits_teams (joins z n) t
in_far t (pos c) n b q h = picks_second (ltb c 128) (is_in t c n) true (le-ltb c 128 (omega arith))
in_far t (negsuc c) n b q h = refl

no_team : (has : Bool) (x n : ℤ) → None ≡ cond has (Some x) None → false ≡ (has && same_int x n)
no_team true x n e = absurd (false≢true (ap (λ (m : Option ℤ). same_int (mark_for m) (pos 1)) e))
no_team false x n e = refl

a_team : (has : Bool) (x k n : ℤ) → Some k ≡ cond has (Some x) None → same_int k n ≡ (has && same_int x n)
a_team true x k n e = ap (λ (m : Option ℤ). same_int (number_for m) n) e
a_team false x k n e = absurd (false≢true (sym (ap (λ (m : Option ℤ). same_int (mark_for m) (pos 1)) e)))

module _ (t : List ℤ) (z n : ℤ) (b : ℕ) (f : SFits w32 z) (q : b ≡ of_z w32 z) (h : b < 128) where
  low : is_in t b n ≡ fits_teams (joins z n) t
  low =
      picks_first (ltb b 128) (is_in t b n) true (lt-ltb b 128 h)
      ∙ ap (λ (c : ℤ). fits_teams (joins c n) t) (sym (client_is z b f q h))

  pub in_away : None ≡ team_of t z → false ≡ fits_teams (joins z n) t
  in_away e = no_team (has_team t b) (number_of t b) n (e ∙ ap (team_of t) (client_is z b f q h)) ∙ low

  pub in_here : (k : ℤ) → Some k ≡ team_of t z → same_int k n ≡ fits_teams (joins z n) t
  in_here k e = a_team (has_team t b) (number_of t b) k n (e ∙ ap (team_of t) (client_is z b f q h)) ∙ low

-- ---- a board with teams

-- with teams beside it
abbrev with : List ℤ → Taken → TeamTaken
with t k = record { fits = k.fits; board = team_board k.board t }

-- t are the teams that were given, u those that are left where the event fits
module _ (k : Option ℤ) (e : Entries) (t u : List ℤ) (r : Off) (left : Entries) where
  fits_beside : (a : Back) → r.fits ≡ true → taken_is r left ≡ taken_from (board k e) a
      → team_taken_is r left u ≡ team_taken_from (team_board (board k e) t) (beside u a)
  fits_beside (was b) p q = ap (with u) q
  fits_beside (refused why) p q = absurd (false≢true (sym (ap (λ (x : Taken). x.fits) q) ∙ p))

  unfit_beside : (a : Back) → r.fits ≡ false → taken_is r left ≡ taken_from (board k e) a
      → team_taken_is r left t ≡ team_taken_from (team_board (board k e) t) (beside u a)
  unfit_beside (was b) p q = absurd (false≢true (sym p ∙ ap (λ (x : Taken). x.fits) q))
  unfit_beside (refused why) p q = ap (with t) q

module _ (v : Event) (ten former : List ℤ) (m : Option ℤ) (k : Option ℤ) (e : Entries) (t : List ℤ) where
  abbrev whole : TeamBack
  whole = take_off_team v ten former m (team_board (board k e) t)

  fits_then : (fits : Bool) → fits ≡ fits_teams (joining_of v) t → fits ≡ true
      → beside (teams_before (joining_of v) m t) (take_off v ten former k e) ≡ whole
  unfolding take_off_team
  fits_then fits p q =
      picks_first (fits_teams (joining_of v) t) (beside (teams_before (joining_of v) m t) (take_off v ten former k e)) (teamed.refused NotLast)
      (sym p ∙ q)

  -- the event doesn't fit the teams
  pub unfit_teams : (fits : Bool) (r : Off) → fits ≡ fits_teams (joining_of v) t → fits ≡ false → Left false k r
      → team_taken_is r e t ≡ team_taken_from (team_board (board k e) t) whole
  unfolding take_off_team
  unfit_teams fits r p n l =
      ap (λ (x : Off). team_taken_is x e t) l
      ∙ ap (team_taken_from (team_board (board k e) t))
      (picks_second (fits_teams (joining_of v) t) (beside (teams_before (joining_of v) m t) (take_off v ten former k e)) (teamed.refused NotLast)
      (sym p ∙ n))

  -- it does: then the board without teams says whether it fits
  module _ (fits : Bool) (r : Off) (left : Entries) (p : fits ≡ fits_teams (joining_of v) t) (n : fits ≡ true)
      (q : taken_is r left ≡ taken_from (board k e) (take_off v ten former k e)) where
    pub fits_both : (u : List ℤ) → r.fits ≡ true → u ≡ teams_before (joining_of v) m t
        → team_taken_is r left u ≡ team_taken_from (team_board (board k e) t) whole
    fits_both u f w =
        ap (team_taken_is r left) w
        ∙ fits_beside k e t (teams_before (joining_of v) m t) r left (take_off v ten former k e) f q
        ∙ ap (team_taken_from (team_board (board k e) t)) (fits_then fits p n)

    pub unfit_board : r.fits ≡ false → team_taken_is r left t ≡ team_taken_from (team_board (board k e) t) whole
    unfit_board f =
        unfit_beside k e t (teams_before (joining_of v) m t) r left (take_off v ten former k e) f q
        ∙ ap (team_taken_from (team_board (board k e) t)) (fits_then fits p n)
