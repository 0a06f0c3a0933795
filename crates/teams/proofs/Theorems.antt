-- The statements of specs/Laws.antt. Assumes nothing.
use Rattle.std.specs.Prelude.{Option, Some, None}
use Prim.Native.Nat.{ℕ, ◌+◌, ◌*◌, ◌<◌}
use mathlib.Core.Path.{◌≡◌, refl, sym, ap, ◌∙◌}
use mathlib.Core.Bool.{Bool, true, false, ◌&&◌, false≢true}
use mathlib.Core.List.{List}
use native.Mathlib.Omega.{arith}
use lib.ListN.{length, length-replicate, get_or-replicate}
use lib.Dec.{ltb}
use lib.IntN.{ℤ, pos, negsuc}
use borrow.Author.Tests.{ltb-true, lt-ltb, eqb-false}
use Rattle.num.proofs.Cases.{by_bool}
use Rattle.state.specs.State.{same_int}
use Rattle.state.specs.Reading.{Event}
use Rattle.state.proofs.Every.{by_cond, every_from}
use Rattle.state.proofs.Numbers.{picks_first, picks_second}
use Rattle.teams.specs.Teams.{mark_of, number_of, has_team, team_of, is_in, mark_for, with_team, put_team, good_team, good_teams, no_teams, Joining, joins, nobody, joining_of, on_joining, teams_after}
use Rattle.teams.specs.Laws.{
  SoundTeams,
  NoTeamsSound,
  NoTeamsNone,
  TeamsStaySound,
  TeamSet,
  OthersStay,
  OldKeepsTeam,
  TeamsStay,
  TeamsGoBack,
}
use Rattle.teams.proofs.Teams.{somebody_joins}
use Rattle.teams.proofs.Puts.{same_true, good_at, with_length, with_others, with_in, with_set, with_good, with_back}

-- ---- no teams

no_mark_law : (c : ℕ) → c < 128 → mark_of no_teams c ≡ pos 0
no_mark_law c h = get_or-replicate 256 (2 * c) (pos 0) (pos 0) (omega arith)

no_number : (c : ℕ) → c < 128 → number_of no_teams c ≡ pos 0
no_number c h = get_or-replicate 256 (2 * c + 1) (pos 0) (pos 0) (omega arith)

no_teams_good : good_teams no_teams ≡ true
unfolding good_teams
no_teams_good =
    every_from 128 (good_at no_teams) (λ c h. let p = no_mark_law c h in let q = no_number c h in λ k. good_team (p k) (q k))

pub no_teams_sound : NoTeamsSound
no_teams_sound = record { good = no_teams_good; size = length-replicate 256 (pos 0) }

and-false : (a b : Bool) → (a ≡ true → b ≡ false) → (a && b) ≡ false
and-false true b f = f refl
and-false false b f = refl

pub no_teams_none : NoTeamsNone
no_teams_none (pos c) =
    sym (picks_second (has_team no_teams c) (Some (number_of no_teams c)) None
    (and-false (ltb c 128) (same_int (mark_of no_teams c) (pos 1))
    (λ e. ap (λ (m : ℤ). same_int m (pos 1)) (no_mark_law c (ltb-true c 128 e)))))
no_teams_none (negsuc c) = refl

-- ---- sound teams

pub put_sound : (t : List ℤ) (c : ℤ) (m : Option ℤ) → SoundTeams t → SoundTeams (put_team t c m)
put_sound t (pos c) m s =
    by_cond SoundTeams (ltb c 128)
    (λ e.
    record {
      good = with_good t c s.size (ltb-true c 128 e) m s.good;
      size = with_length t c m ∙ s.size;
    })
    (λ e. s)
put_sound t (negsuc c) m s = s

pub teams_stay_sound : TeamsStaySound
unfolding teams_after
teams_stay_sound e t s = go (joining_of e)
  where
    go : (j : Joining) → SoundTeams (on_joining (λ c n. put_team t c (Some n)) t j)
    go (joins c n) = put_sound t c (Some n) s
    go nobody = s

-- ---- a PlayerTeam

-- what stands there after a PlayerTeam of client c, 0 to 127
placed : (e : Event) (t : List ℤ) (c : ℕ) (n : ℤ) → c < 128 → joining_of e ≡ joins (pos c) n → teams_after e t ≡ with_team t c (Some n)
placed e t c n h j =
    sym (somebody_joins e t (pos c) n (sym j)).1 ∙ sym (picks_first (ltb c 128) (with_team t c (Some n)) t (lt-ltb c 128 h))

pub team_set : TeamSet
team_set e t c n size h j = ap (λ (u : List ℤ). team_of u (pos c)) (placed e t c n h j) ∙ with_set t c size h n

put_others : (t : List ℤ) (c d n : ℤ) → same_int d c ≡ false → team_of (put_team t c (Some n)) d ≡ team_of t d
put_others t (pos c) (pos d) n x =
    by_cond (λ u. team_of u (pos d) ≡ team_of t (pos d)) (ltb c 128) (λ e. with_others t c (Some n) d (eqb-false d c x)) (λ e. refl)
put_others t (pos c) (negsuc d) n x = refl
put_others t (negsuc c) d n x = refl

pub others_stay : OthersStay
others_stay e t c d n j x = ap (λ (u : List ℤ). team_of u d) (sym (somebody_joins e t c n (sym j)).1) ∙ put_others t c d n x

pub old_keeps_team : OldKeepsTeam
unfolding teams_after
old_keeps_team t c x y = refl

-- ---- who has a team

some_team : (n : ℤ) → Some n ≡ None → ⊥
some_team n e = false≢true (sym (ap (λ (m : Option ℤ). same_int (mark_for m) (pos 1)) e))

put_stays : (t : List ℤ) (c n : ℤ) → length t ≡ 256 → (team_of t c ≡ None → ⊥) → team_of (put_team t c (Some n)) c ≡ None → ⊥
put_stays t (pos c) n size some =
    by_cond (λ u. team_of u (pos c) ≡ None → ⊥) (ltb c 128)
    (λ e none. some_team n (sym (with_set t c size (ltb-true c 128 e) n) ∙ none))
    (λ e. some)
put_stays t (negsuc c) n size some = some

pub teams_stay : TeamsStay
unfolding teams_after
teams_stay e t c size some = go (joining_of e)
  where
    go : (j : Joining) → team_of (on_joining (λ d n. put_team t d (Some n)) t j) c ≡ None → ⊥
    go (joins d n) none =
        by_bool (same_int c d)
        (λ q.
        put_stays t c n size some
        (ap (λ (x : ℤ). team_of (put_team t x (Some n)) c) (same_true c d q) ∙ none))
        (λ q. some (sym (put_others t d c n q) ∙ none))
    go nobody none = some none

-- ---- a PlayerTeam undone

pub teams_go_back : TeamsGoBack
teams_go_back e t c n s h j =
    let p = placed e t c n h j in
    let u = with_team t c (Some n) in
    let f = sym (somebody_joins e t (pos c) n (sym j)).0 in
    record {
      equal = ap (λ (x : List ℤ). is_in x c n) p ∙ with_in t c s.size h n;
      before =
          (λ k. put_team (p k) (pos c) (f k))
          ∙ sym (picks_first (ltb c 128) (with_team u c (team_of t (pos c))) u (lt-ltb c 128 h))
          ∙ with_back t c s.size h n s.good;
    }
