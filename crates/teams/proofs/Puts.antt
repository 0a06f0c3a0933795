-- One client's two numbers among the teams: put in, read back, the others not touched, put back. Assumes nothing.
use Rattle.std.specs.Prelude.{Option, Some, None}
use Prim.Native.Nat.{ℕ, zero, suc, ◌+◌, ◌*◌, ◌<◌}
use mathlib.Core.Path.{◌≡◌, refl, sym, ap, ◌∙◌}
use mathlib.Core.Bool.{Bool, true, false, cond, ◌&&◌, false≢true}
use mathlib.Core.List.{List}
use native.Mathlib.Omega.{arith}
use native.Mathlib.Decide.{ℕ_discrete}
use lib.ListN.{length, set, length-set}
use lib.Seq.{get_or-set_same, get_or-set_other, set-get_or, set-set, set_comm}
use lib.Dec.{ltb}
use lib.IntN.{ℤ, pos, negsuc}
use borrow.Author.Tests.{lt-ltb, eq-eqb, eqb-true}
use Rattle.num.proofs.Cases.{by_bool, by_eq}
use Rattle.fields.proofs.Answers.{and_both, and_split}
use Rattle.state.specs.State.{same_int, every}
use Rattle.state.proofs.Every.{every_map}
use Rattle.state.proofs.Numbers.{picks_first, picks_second}
use Rattle.teams.specs.Teams.{mark_of, number_of, has_team, team_of, is_in, mark_for, number_for, with_team, good_team, good_teams}

-- ---- tests

pub same_self : (a : ℤ) → same_int a a ≡ true
same_self (pos a) = eq-eqb a a refl
same_self (negsuc a) = eq-eqb a a refl

pub same_true : (a b : ℤ) → same_int a b ≡ true → a ≡ b
same_true (pos a) (pos b) e = ap pos (eqb-true a b e)
same_true (pos a) (negsuc b) e = absurd (false≢true e)
same_true (negsuc a) (pos b) e = absurd (false≢true e)
same_true (negsuc a) (negsuc b) e = ap negsuc (eqb-true a b e)

every_at : (n : ℕ) (p : ℕ → Bool) → every n p ≡ true → (i : ℕ) → i < n → p i ≡ true
unfolding every
every_at zero p e i h = absurd (omega arith)
every_at (suc n) p e i h =
    let s = and_split (p n) (every n p) e in
    by_eq i n (λ q. rw q s.0) (λ q. every_at n p s.1 i (omega arith)) (ℕ_discrete i n)

abbrev pub good_at : List ℤ → ℕ → Bool
good_at t c = good_team (mark_of t c) (number_of t c)

good_for : (m : Option ℤ) → good_team (mark_for m) (number_for m) ≡ true
good_for (Some n) = refl
good_for None = refl

blank : (mark number : ℤ) → same_int mark (pos 1) ≡ false → good_team mark number ≡ true → (mark ≡ pos 0) × (number ≡ pos 0)
blank mark number e g =
    let q : (same_int mark (pos 0) && same_int number (pos 0)) ≡ true = rw e at g in
    let s = and_split (same_int mark (pos 0)) (same_int number (pos 0)) q in
    (same_true mark (pos 0) s.0, same_true number (pos 0) s.1)

-- ---- a client's two numbers

module _ (t : List ℤ) (c : ℕ) (m : Option ℤ) where
  pub with_length : length (with_team t c m) ≡ length t
  unfolding with_team
  with_length = length-set (set t (2 * c) (mark_for m)) (2 * c + 1) (number_for m) ∙ length-set t (2 * c) (mark_for m)

  mark_same : 2 * c + 1 < length t → mark_of (with_team t c m) c ≡ mark_for m
  unfolding with_team
  mark_same h =
      get_or-set_other (set t (2 * c) (mark_for m)) (2 * c + 1) (2 * c) (number_for m) (pos 0) (λ e. omega arith)
      ∙ get_or-set_same t (2 * c) (mark_for m) (pos 0) (omega arith)

  number_same : 2 * c + 1 < length t → number_of (with_team t c m) c ≡ number_for m
  unfolding with_team
  number_same h =
      get_or-set_same (set t (2 * c) (mark_for m)) (2 * c + 1) (number_for m) (pos 0) (omega (arith, length-set t (2 * c) (mark_for m)))

  mark_other : (d : ℕ) → (d ≡ c → ⊥) → mark_of (with_team t c m) d ≡ mark_of t d
  unfolding with_team
  mark_other d n =
      get_or-set_other (set t (2 * c) (mark_for m)) (2 * c + 1) (2 * d) (number_for m) (pos 0) (λ e. omega arith)
      ∙ get_or-set_other t (2 * c) (2 * d) (mark_for m) (pos 0) (λ e. n (omega arith))

  number_other : (d : ℕ) → (d ≡ c → ⊥) → number_of (with_team t c m) d ≡ number_of t d
  unfolding with_team
  number_other d n =
      get_or-set_other (set t (2 * c) (mark_for m)) (2 * c + 1) (2 * d + 1) (number_for m) (pos 0) (λ e. n (omega arith))
      ∙ get_or-set_other t (2 * c) (2 * d + 1) (mark_for m) (pos 0) (λ e. omega arith)

  pub with_others : (d : ℕ) → (d ≡ c → ⊥) → team_of (with_team t c m) (pos d) ≡ team_of t (pos d)
  with_others d n =
      let p = mark_other d n in
      let q = number_other d n in
      λ k. cond (ltb d 128 && same_int (p k) (pos 1)) (Some (q k)) None

  put_back : (k : Option ℤ) → mark_for k ≡ mark_of t c → number_for k ≡ number_of t c → with_team (with_team t c m) c k ≡ t
  unfolding with_team
  put_back k p q =
      let i = 2 * c in
      let j = 2 * c + 1 in
      let a = mark_for m in
      let b = number_for m in
      (λ x. set (set (set (set t i a) j b) i (p x)) j (q x))
      ∙ ap (λ (l : List ℤ). set l j (number_of t c))
      (sym (set_comm (set t i a) i j (mark_of t c) b (λ e. omega arith))
      ∙ ap (λ (l : List ℤ). set l j b) (set-set t i a (mark_of t c) ∙ set-get_or t i (pos 0)))
      ∙ set-set t j b (number_of t c)
      ∙ set-get_or t j (pos 0)

-- ---- client c, below 128

module _ (t : List ℤ) (c : ℕ) (size : length t ≡ 256) (h : c < 128) where
  module _ (n : ℤ) where
    has_team_law : has_team (with_team t c (Some n)) c ≡ true
    has_team_law =
        and_both (ltb c 128) _ (lt-ltb c 128 h) (ap (λ (x : ℤ). same_int x (pos 1)) (mark_same t c (Some n) (omega arith)))

    pub with_in : is_in (with_team t c (Some n)) c n ≡ true
    with_in =
        and_both (has_team (with_team t c (Some n)) c) _ has_team_law
        (ap (λ (x : ℤ). same_int x n) (number_same t c (Some n) (omega arith)) ∙ same_self n)

    pub with_set : team_of (with_team t c (Some n)) (pos c) ≡ Some n
    with_set =
        sym (picks_first (has_team (with_team t c (Some n)) c) _ None has_team_law) ∙ ap Some (number_same t c (Some n) (omega arith))

  pub with_good : (m : Option ℤ) → good_teams t ≡ true → good_teams (with_team t c m) ≡ true
  unfolding good_teams
  with_good m g =
      let u = with_team t c m in
      let p = mark_same t c m (omega arith) in
      let r = number_same t c m (omega arith) in
      every_map 128 (good_at t) (good_at u)
      (λ i b e. by_eq i c
      (λ q. ap (good_at u) q ∙ (λ k. good_team (p k) (r k)) ∙ good_for m)
      (λ q. (let x = mark_other t c m i q in let y = number_other t c m i q in λ k. good_team (x k) (y k)) ∙ e)
      (ℕ_discrete i c))
      g

  -- the team that is read there is the one whose two numbers stand there
  pub with_back : (n : ℤ) → good_teams t ≡ true → with_team (with_team t c (Some n)) c (team_of t (pos c)) ≡ t
  unfolding good_teams
  with_back n g =
      let e = every_at 128 (good_at t) g c h in
      let some = picks_first (has_team t c) (Some (number_of t c)) None in
      let none = picks_second (has_team t c) (Some (number_of t c)) None in
      by_bool (same_int (mark_of t c) (pos 1))
      (λ q.
      let s = sym (some (and_both (ltb c 128) _ (lt-ltb c 128 h) q)) in
      put_back t c (Some n) (team_of t (pos c)) (ap mark_for s ∙ sym (same_true (mark_of t c) (pos 1) q)) (ap number_for s))
      (λ q.
      let s = sym (none (rw (lt-ltb c 128 h) q)) in
      let z = blank (mark_of t c) (number_of t c) q e in
      put_back t c (Some n) (team_of t (pos c)) (ap mark_for s ∙ sym z.0) (ap number_for s ∙ sym z.1))
