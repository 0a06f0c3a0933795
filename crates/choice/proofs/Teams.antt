-- The records of the teams, one client after the other: they bring a reader's teams to the wanted ones. Assumes nothing.
use Rattle.std.specs.Prelude.{Option, Some, None}
use Prim.Native.Nat.{ℕ, suc, ◌+◌, ◌*◌, ◌<◌}
use mathlib.Core.Path.{◌≡◌, refl, sym, ap, ◌∙◌}
use mathlib.Core.Bool.{true, false}
use mathlib.Core.List.{List, []}
use native.Mathlib.Omega.{arith}
use lib.ListN.{get_or, set}
use lib.Dec.{ltb}
use lib.IntN.{ℤ, pos}
use borrow.Author.Tests.{lt-ltb}
use mir.Syntax.{w32}
use mir.Val.{SFits}
use Rattle.num.proofs.Cases.{by_bool}
use Rattle.kinds.specs.declared.Version.{Version}
use Rattle.state.specs.State.{same_int}
use Rattle.state.specs.declared.Entries.{Entries}
use Rattle.state.specs.declared.Reader.{Reader}
use Rattle.state.proofs.Numbers.{picks_first, picks_second}
use Rattle.teams.specs.Teams.{mark_of, number_of, has_team, team_of, mark_for, number_for, with_team, put_team, good_team, good_teams}
use Rattle.teams.specs.Laws.{SoundTeams}
use Rattle.team_calls.proofs.Never.{has_some, some_has}
use Rattle.demand.proofs.Tests.{and-true, and_both, same_true, every_at}
use Rattle.choice.specs.Chosen.{joined, team_record, team_step, team_for}
use Rattle.leading.specs.Records.{Ready}
use Rattle.leading.proofs.Theorems.{team_leads}
use Rattle.choice.proofs.Splice.{over, over_same, over_all}
use Rattle.choice.proofs.Passes.{Comes, none, one, pass}
use Rattle.choice.proofs.Allowed.{AllowedTeams}

-- ---- a client's two numbers are those of its team

record Two (t : List ℤ) (c : ℕ) : Type 0 where
  mark : mark_for (team_of t (pos c)) ≡ mark_of t c
  number : number_for (team_of t (pos c)) ≡ number_of t c

blank : (mark number : ℤ) → same_int mark (pos 1) ≡ false → good_team mark number ≡ true → (mark ≡ pos 0) × (number ≡ pos 0)
blank mark number e g =
    let s = and-true (same_int mark (pos 0)) (same_int number (pos 0)) (rw e at g) in
    (same_true mark (pos 0) s.0, same_true number (pos 0) s.1)

two_of : (t : List ℤ) (c : ℕ) → good_teams t ≡ true → c < 128 → Two t c
unfolding good_teams
two_of t c g h =
    let good = every_at 128 (λ k. good_team (mark_of t k) (number_of t k)) g c h in
    by_bool (same_int (mark_of t c) (pos 1))
    (λ q.
    let s = sym (picks_first (has_team t c) (Some (number_of t c)) None (and_both (ltb c 128) _ (lt-ltb c 128 h) q)) in
    record { mark = ap mark_for s ∙ sym (same_true (mark_of t c) (pos 1) q); number = ap number_for s })
    (λ q.
    let s = sym (picks_second (has_team t c) (Some (number_of t c)) None (rw (lt-ltb c 128 h) q)) in
    let z = blank (mark_of t c) (number_of t c) q good in
    record { mark = ap mark_for s ∙ sym z.0; number = ap number_for s ∙ sym z.1 })

-- ---- teams before client n, on the way from t to wt

abbrev teams_to : List ℤ → List ℤ → ℕ → List ℤ
teams_to t wt n = over (pos 0) (2 * n) wt t

twice : (n : ℕ) → 2 * suc n ≡ suc (suc (2 * n))
twice n = omega arith

-- both numbers are put in
teams_next : (t wt : List ℤ) (n : ℕ)
    → teams_to t wt (suc n) ≡ set (set (teams_to t wt n) (2 * n) (mark_of wt n)) (2 * n + 1) (number_of wt n)
unfolding over
teams_next t wt n =
    let one : suc (2 * n) ≡ 2 * n + 1 = omega arith in
    ap (λ (k : ℕ). over (pos 0) k wt t) (twice n)
    ∙ ap (λ (k : ℕ). set (set (teams_to t wt n) (2 * n) (mark_of wt n)) k (get_or wt k (pos 0))) one

-- both are the same
teams_same : (t wt : List ℤ) (n : ℕ) → mark_of t n ≡ mark_of wt n → number_of t n ≡ number_of wt n → teams_to t wt n ≡ teams_to t wt (suc n)
teams_same t wt n p q =
    let one : suc (2 * n) ≡ 2 * n + 1 = omega arith in
    let second : get_or t (suc (2 * n)) (pos 0) ≡ get_or wt (suc (2 * n)) (pos 0) = rw one q in
    over_same (pos 0) wt t (2 * n) p
    ∙ over_same (pos 0) wt t (suc (2 * n)) second
    ∙ ap (λ (k : ℕ). over (pos 0) k wt t) (sym (twice n))

-- a reader with the wanted entries, in version v
pub record With (w : Entries) (v : Version) (q : Reader) : Type 0 where
  pub holds : q.entries ≡ w
  pub version : q.scalars.version ≡ v

module _ (w : Entries) (v : Version) (t wt : List ℤ) (now : SoundTeams t) (next : SoundTeams wt) (fits : (i : ℕ) → SFits w32 (get_or wt i (pos 0)))
    (a : AllowedTeams v t wt) where
  module _ (q : Reader) (n : ℕ) (h : n < 128) (ready : Ready q) (i : With w v q) where
    stays : team_of t (pos n) ≡ team_of wt (pos n) → Comes (With w v) q (teams_to t wt n) [] (teams_to t wt (suc n))
    stays e =
        let x = two_of t n now.good h in
        let y = two_of wt n next.good h in
        rw (← teams_same t wt n (sym x.mark ∙ ap mark_for e ∙ y.mark) (sym x.number ∙ ap number_for e ∙ y.number)) (none q ready i)

    -- a record puts the wanted team in
    placed : (m : ℤ) → team_of wt (pos n) ≡ Some m → put_team (teams_to t wt n) (pos n) (Some m) ≡ teams_to t wt (suc n)
    unfolding with_team
    placed m e =
        let y = two_of wt n next.good h in
        let mark : pos 1 ≡ mark_of wt n = sym (ap mark_for e) ∙ y.mark in
        let number : m ≡ number_of wt n = sym (ap number_for e) ∙ y.number in
        sym (picks_first (ltb n 128) (with_team (teams_to t wt n) n (Some m)) (teams_to t wt n) (lt-ltb n 128 h))
        ∙ (λ k. set (set (teams_to t wt n) (2 * n) (mark k)) (2 * n + 1) (number k))
        ∙ sym (teams_next t wt n)

    wants : (m : ℤ) → team_of wt (pos n) ≡ Some m → has_team wt n ≡ true
    wants m e = some_has wt n (λ f. let g : Some m ≡ None = sym e ∙ f in let z : ◌≡◌ {A = ℕ} 0 1 = cc in omega arith)

    joins : (m : ℤ) → team_of wt (pos n) ≡ Some m → Comes (With w v) q (teams_to t wt n) (team_record n (Some m)) (teams_to t wt (suc n))
    joins m e =
        let number : number_of wt n ≡ m = sym (two_of wt n next.good h).number ∙ ap number_for e in
        rw (← placed m e)
        (one _ (team_leads q n m ready (i.version ∙ a.version n h (wants m e)) h (rw number at (fits (2 * n + 1))))
        (λ r version names holds. record { holds = holds ∙ i.holds; version = version ∙ i.version }))

    by_teams : (x y : Option ℤ) → team_of t (pos n) ≡ x → team_of wt (pos n) ≡ y
        → Comes (With w v) q (teams_to t wt n) (team_step n x y) (teams_to t wt (suc n))
    unfolding team_step
    by_teams (Some x) (Some y) ex ey =
        by_bool (same_int x y) (λ s. rw s (stays (ex ∙ ap Some (same_true x y s) ∙ sym ey))) (λ s. rw s (joins y ey))
    by_teams (Some x) None ex ey =
        absurd (has_some wt n (a.kept n h (some_has t n (λ f. let g : Some x ≡ None = sym ex ∙ f in let z : ◌≡◌ {A = ℕ} 0 1 = cc in omega arith))) ey)
    by_teams None (Some y) ex ey = joins y ey
    by_teams None None ex ey = stays (ex ∙ sym ey)

  pub teams_come : (r : Reader) → Ready r → r.entries ≡ w → r.scalars.version ≡ v → Comes (With w v) r t (joined 128 (team_for t wt)) wt
  unfolding over
  teams_come r ready e f =
      rw (over_all (pos 0) wt t 256 next.size now.size) at
      (pass (λ _. With w v) (teams_to t wt) (team_for t wt) 128 (λ q n h s i. by_teams q n h s i _ _ refl refl) r ready (record { holds = e; version = f }) 128 (omega arith))
