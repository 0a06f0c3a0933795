-- Each place of the choice by the cases of its tests, with the record that the code makes there. Assumes nothing.
use Rattle.std.specs.Prelude.{Option, Some, None}
use Prim.Native.Nat.{ℕ, ◌-◌, ◌<◌}
use mathlib.Core.Path.{◌≡◌, refl, sym, ◌∙◌, subst}
use mathlib.Core.Bool.{Bool, true, false, ◌||◌}
use mathlib.Core.List.{List, []}
use native.Mathlib.Omega.{arith}
use lib.Dec.{eqb}
use lib.IntN.{ℤ, pos, negsuc, ◌-ℤ◌}
use lib.Signed.{lt_z, le_z, mag}
use mir.Syntax.{w32}
use mir.Val.{SFits, to_z, of_z}
use borrow.Author.Tests.{lt-ltb, le-ltb, ltb-true, leb-true, leb-false}
use Rattle.num.specs.Wrap.{wrap32}
use Rattle.item.specs.Contents.{record_with, no_args}
use Rattle.item.specs.declared.Item.TheVariants as items
use Rattle.item.specs.declared.Record.{Record}
use Rattle.packer.specs.Parts.{part}
use Rattle.kinds.specs.declared.Version.{Version}
use Rattle.state.proofs.Numbers.{back, element}
use Rattle.choice.specs.Chosen.{Rec, same_player, same_held, same_team, player_between, player_step, input_step, team_step, skip_to, start_if}
use Rattle.choice.specs.declared.Player.{Player}
use Rattle.choice.specs.declared.Held.{Held}
use Rattle.choosing.specs.Choice.{ChoosesIn, Chooses, team_in}
use Rattle.choosing.proofs.Forms.{alone, diff_chosen, new_chosen, old_chosen, skip_chosen, command_chosen, team_chosen, input_chosen}

-- what a function answers, from the choice that another one made
pub as_made : (cs : List Rec) (r d : Option Record) → r ≡ d → Chooses cs d → Chooses cs r
as_made cs r d e h = subst (Chooses cs) (sym e) h

at_place : (cs ds : List Rec) (r : Option Record) → cs ≡ ds → Chooses ds r → Chooses cs r
at_place cs ds r e h = subst (λ (l : List Rec). Chooses l r) (sym e) h

-- ---- a player entry

module _ (c : ℕ) (p q : Player) (r : Option Record) where
  same_step : same_player p q ≡ true → player_step c p q ≡ []
  unfolding player_step
  same_step e = rw e

  pub player_same : same_player p q ≡ true → Chooses [] r → Chooses (player_step c p q) r
  player_same e h = at_place (player_step c p q) [] r (same_step e) h

  module _ (e : same_player p q ≡ false) where
    step : (a b : Bool) → eqb p.mark 1 ≡ a → eqb q.mark 1 ≡ b → player_step c p q ≡ player_between a b c p q
    unfolding player_step
    step a b ea eb = rw (e, ea, eb)

    pub player_moves_law : eqb p.mark 1 ≡ true → eqb q.mark 1 ≡ true → (i dx dy : ℤ) → i ≡ pos c → dx ≡ wrap32 (q.x -ℤ p.x)
        → dy ≡ wrap32 (q.y -ℤ p.y) → r ≡ alone (items.PlayerDiff i dx dy) → Chooses (player_step c p q) r
    player_moves_law ea eb i dx dy ei ex ey er = rw (er, ei, ex, ey, step true true ea eb) (diff_chosen c (wrap32 (q.x -ℤ p.x)) (wrap32 (q.y -ℤ p.y)))

    pub player_leaves_law : eqb p.mark 1 ≡ true → eqb q.mark 1 ≡ false → (i : ℤ) → i ≡ pos c
        → r ≡ alone (items.PlayerOld i) → Chooses (player_step c p q) r
    player_leaves_law ea eb i ei er = rw (er, ei, step true false ea eb) (old_chosen c)

    pub player_comes_law : eqb p.mark 1 ≡ false → eqb q.mark 1 ≡ true → (i x y : ℤ) → i ≡ pos c → x ≡ q.x → y ≡ q.y
        → r ≡ alone (items.PlayerNew i x y) → Chooses (player_step c p q) r
    player_comes_law ea eb i x y ei ex ey er = rw (er, ei, ex, ey, step false true ea eb) (new_chosen c q.x q.y)

    pub player_away : eqb p.mark 1 ≡ false → eqb q.mark 1 ≡ false → Chooses [] r → Chooses (player_step c p q) r
    player_away ea eb h = at_place (player_step c p q) [] r (step false false ea eb) h

-- a difference, whose numbers are read back from their bits
pub subtracted : (x d r : ℤ) → mag x < 2147483648 → mag d < 2147483648 → SFits w32 r
    → r ≡ wrap32 (to_z w32 (of_z w32 x) -ℤ to_z w32 (of_z w32 d)) → to_z w32 (of_z w32 r) ≡ wrap32 (x -ℤ d)
subtracted x d r fx fd fr e = back r fr ∙ e ∙ (λ k. wrap32 (element x fx k -ℤ element d fd k))

-- ---- inputs

module _ (c : ℕ) (p q : Held) (r : Option Record) where
  pub input_away : eqb q.mark 1 ≡ false → Chooses [] r → Chooses (input_step c p q) r
  unfolding input_step
  input_away e h = rw e h

  pub input_same : eqb q.mark 1 ≡ true → same_held p q ≡ true → Chooses [] r → Chooses (input_step c p q) r
  unfolding input_step
  input_same e s h = rw (e, s) h

  pub input_new_law : eqb q.mark 1 ≡ true → same_held p q ≡ false → (i : ℤ) → i ≡ pos c
      → r ≡ Some (record_with (items.InputNew i) q.ten no_args) → Chooses (input_step c p q) r
  unfolding input_step
  input_new_law e s i ei er = rw (er, ei, e, s) (input_chosen c q.ten)

-- ---- a team

module _ (c : ℕ) (m n : Option ℤ) (r : Option Record) (v : Version) where
  pub team_same : same_team m n ≡ true → Chooses [] r → ChoosesIn v (team_step c m n) r
  unfolding team_step
  team_same e h = rw e (h v)

  module _ (e : same_team m n ≡ false) where
    pub team_none : n ≡ None → Chooses [] r → ChoosesIn v (team_step c m n) r
    unfolding team_step
    team_none en h = rw (e, en) (h v)

    pub team_new : (k : ℤ) → n ≡ Some k → team_in v n ≡ true → (i j : ℤ) → i ≡ pos c → j ≡ k → r ≡ alone (items.PlayerTeam i j)
        → ChoosesIn v (team_step c m n) r
    unfolding team_step
    team_new k en h i j ei ej er = rw (er, ei, ej, e, en) (team_chosen v (rw en at h) c k)

-- ---- ticks

module _ (r : Option Record) where
  pub skip_before : (t u : ℤ) → lt_z t (pos 0) ≡ true → Chooses [] r → Chooses (skip_to t u) r
  unfolding skip_to
  skip_before (pos t) u e h = absurd (omega (arith, ltb-true t 0 e))
  skip_before (negsuc t) u e h = h

  pub skip_back : (t u : ℤ) → le_z u t ≡ true → Chooses [] r → Chooses (skip_to t u) r
  unfolding skip_to
  skip_back (pos t) (pos u) e h = rw (le-ltb t u (leb-true u t e)) h
  skip_back (pos t) (negsuc u) e h = h
  skip_back (negsuc t) u e h = h

  pub skip_on : (t u : ℕ) → t < u → u < 2147483648 → r ≡ alone (items.TickSkip (u - t - 1)) → Chooses (skip_to (pos t) (pos u)) r
  unfolding skip_to
  skip_on t u h f er = rw (er, lt-ltb t u h) (skip_chosen (u - t - 1) (omega arith))

  pub start_none : (started changed : Bool) → (started || changed) ≡ true → Chooses [] r → Chooses (start_if started changed) r
  start_none true changed e h = h
  start_none false true e h = h
  start_none false false e h = let z : ◌≡◌ {A = ℕ} 0 1 = cc in absurd (omega arith)

  pub start_one : (started changed : Bool) → (started || changed) ≡ false → r ≡ alone (items.ConsoleCommand (negsuc 0) 0 (part 0 0))
      → Chooses (start_if started changed) r
  start_one true changed e er = let z : ◌≡◌ {A = ℕ} 0 1 = cc in absurd (omega arith)
  start_one false true e er = let z : ◌≡◌ {A = ℕ} 0 1 = cc in absurd (omega arith)
  start_one false false e er = as_made (start_if false false) r (alone (items.ConsoleCommand (negsuc 0) 0 (part 0 0))) er command_chosen

-- ticks t and u of 32 bits, where t is no negative one and u is later: as they are read back from their bits
pub record Later (t u : ℤ) : Type 0 where
  pub from : to_z w32 (of_z w32 t) ≡ pos (mag t)
  pub to : to_z w32 (of_z w32 u) ≡ pos (mag u)
  pub start : t ≡ pos (mag t)
  pub end : u ≡ pos (mag u)
  pub rises : mag t < mag u
  pub fits : mag u < 2147483648

later_of : (t u : ℤ) → SFits w32 t → SFits w32 u → lt_z t (pos 0) ≡ false → le_z u t ≡ false → Later t u
later_of (pos t) (pos u) f g e l =
    record {
      from = back (pos t) f;
      to = back (pos u) g;
      start = refl;
      end = refl;
      rises = omega (arith, leb-false u t l);
      fits = g.sfits;
    }
later_of (pos t) (negsuc u) f g e l = let z : ◌≡◌ {A = ℕ} 0 1 = cc in absurd (omega arith)
later_of (negsuc t) u f g e l = let z : ◌≡◌ {A = ℕ} 0 1 = cc in absurd (omega arith)

pub later : (t u : ℤ) → SFits w32 t → SFits w32 u → lt_z (to_z w32 (of_z w32 t)) (pos 0) ≡ false
    → le_z (to_z w32 (of_z w32 u)) (to_z w32 (of_z w32 t)) ≡ false → Later t u
later t u f g e l = later_of t u f g (rw (back t f) at e) (rw (back u g, back t f) at l)
