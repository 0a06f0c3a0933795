-- The player records by the tests that the code makes: b is the client's bits. Assumes nothing.
use Prim.Native.Nat.{ℕ, ◌≤◌, ◌<◌}
use mathlib.Core.Path.{◌≡◌, refl, ◌∙◌}
use native.Mathlib.Omega.{arith}
use lib.ListN.{get_or}
use lib.Dec.{ltb}
use lib.IntN.{ℤ, pos, negsuc, ◌+ℤ◌}
use borrow.Author.Tests.{lt-ltb, le-ltb}
use mir.Syntax.{w32}
use mir.Val.{SFits, to_z, of_z}
use Rattle.refusal.specs.declared.Refusal.{Refusal}
use Rattle.refusal.specs.declared.Refusal.TheVariants.{
  ClientTooLarge,
  PlayerNewDuplicate,
  PlayerDiffWithoutNew,
  PlayerOldWithoutNew,
}
use Rattle.num.specs.Wrap.{wrap32}
use Rattle.item.specs.Said.{gives}
use Rattle.state.specs.State.{with_entries, present, x_of, y_of, with_player, moved}
use Rattle.state.specs.declared.Memory.{Memory}
use Rattle.state.specs.Reading.{player_new, player_change, player_old, step_of, refusal_step, player_diff, new_player, old_player}
use Rattle.state.specs.steps.Inside.{no_entry}
use Rattle.state.specs.declared.Scalars.{Scalars}
use Rattle.state.proofs.Numbers.{picks_first, picks_second, bits_are, client_is}
use Rattle.state.proofs.Marks.{here, away, far}

-- ---- PlayerDiff

pub diff_far : (s : Scalars) (m : Memory) (z dx dy : ℤ) (n b : ℕ) → SFits w32 z → b ≡ of_z w32 z → 128 ≤ b
    → refusal_step PlayerDiffWithoutNew s m ≡ player_diff s m z dx dy n
unfolding player_diff
diff_far s m (pos c) dx dy n b f e h = picks_second (present m.entries c) _ _ (far m.entries.marks c (omega arith))
diff_far s m (negsuc c) dx dy n b f e h = refl

module _ (s : Scalars) (m : Memory) (z dx dy : ℤ) (n b : ℕ) (f : SFits w32 z) (e : b ≡ of_z w32 z) (h : b < 128) where
  pub diff_away : (get_or m.entries.marks b 0 ≡ 1 → ⊥) → refusal_step PlayerDiffWithoutNew s m ≡ player_diff s m z dx dy n
  unfolding player_diff
  diff_away q = rw (client_is z b f e h) (picks_second (present m.entries b) _ _ (away m.entries.marks b h q))

  pub diff_here : get_or m.entries.marks b 0 ≡ 1
      → step_of (gives (player_change z (wrap32 (x_of m.entries b +ℤ dx)) (wrap32 (y_of m.entries b +ℤ dy)) (x_of m.entries b) (y_of m.entries b)) n) s
      (with_entries (moved m.entries b (wrap32 (x_of m.entries b +ℤ dx)) (wrap32 (y_of m.entries b +ℤ dy))) m)
      ≡ player_diff s m z dx dy n
  unfolding player_diff
  diff_here q = rw (client_is z b f e h) (picks_first (present m.entries b) _ _ (here m.entries.marks b h q))

-- ---- PlayerNew

new_off : (s : Scalars) (m : Memory) (z x y : ℤ) (n b : ℕ) → SFits w32 z → b ≡ of_z w32 z → 128 ≤ b
    → refusal_step (no_entry b ClientTooLarge) s m ≡ new_player s m z x y n
unfolding new_player
new_off s m (pos c) x y n b f e h = rw (e, lt-ltb c 2147483648 f.sfits) (picks_second (ltb c 128) _ _ (le-ltb c 128 (omega arith)))
new_off s m (negsuc c) x y n b f e h = rw (le-ltb b 2147483648 (omega (arith, f.sfits)))

pub new_far : (s : Scalars) (m : Memory) (z x y : ℤ) (n b : ℕ) (why : Refusal) → SFits w32 z
    → b ≡ of_z w32 (to_z w32 (of_z w32 z)) → 128 ≤ b → why ≡ no_entry b ClientTooLarge → refusal_step why s m ≡ new_player s m z x y n
new_far s m z x y n b why f e h q = rw q (new_off s m z x y n b f (bits_are z b f e) h)

module _ (s : Scalars) (m : Memory) (z x y : ℤ) (n b : ℕ) (f : SFits w32 z) (e : b ≡ of_z w32 z) (h : b < 128) where
  pub new_here : get_or m.entries.marks b 0 ≡ 1
      → refusal_step PlayerNewDuplicate s (with_entries (with_player m.entries b 1 x y) m) ≡ new_player s m z x y n
  unfolding new_player
  new_here q =
      rw (client_is z b f e h)
      (picks_first (present m.entries b) _ _ (here m.entries.marks b h q) ∙ picks_first (ltb b 128) _ _ (lt-ltb b 128 h))

  pub new_away : (get_or m.entries.marks b 0 ≡ 1 → ⊥)
      → step_of (gives (player_new z x y) n) s (with_entries (with_player m.entries b 1 x y) m) ≡ new_player s m z x y n
  unfolding new_player
  new_away q =
      rw (client_is z b f e h)
      (picks_second (present m.entries b) _ _ (away m.entries.marks b h q) ∙ picks_first (ltb b 128) _ _ (lt-ltb b 128 h))

-- ---- PlayerOld

old_off : (s : Scalars) (m : Memory) (z : ℤ) (n b : ℕ) → SFits w32 z → b ≡ of_z w32 z → 128 ≤ b
    → refusal_step (no_entry b PlayerOldWithoutNew) s m ≡ old_player s m z n
unfolding old_player
old_off s m (pos c) n b f e h = rw (e, lt-ltb c 2147483648 f.sfits) (picks_second (present m.entries c) _ _ (far m.entries.marks c (omega arith)))
old_off s m (negsuc c) n b f e h = rw (le-ltb b 2147483648 (omega (arith, f.sfits)))

pub old_far : (s : Scalars) (m : Memory) (z : ℤ) (n b : ℕ) (why : Refusal) → SFits w32 z
    → b ≡ of_z w32 (to_z w32 (of_z w32 z)) → 128 ≤ b → why ≡ no_entry b PlayerOldWithoutNew → refusal_step why s m ≡ old_player s m z n
old_far s m z n b why f e h q = rw q (old_off s m z n b f (bits_are z b f e) h)

module _ (s : Scalars) (m : Memory) (z : ℤ) (n b : ℕ) (f : SFits w32 z) (e : b ≡ of_z w32 z) (h : b < 128) where
  pub old_away : (get_or m.entries.marks b 0 ≡ 1 → ⊥) → refusal_step PlayerOldWithoutNew s m ≡ old_player s m z n
  unfolding old_player
  old_away q = rw (client_is z b f e h) (picks_second (present m.entries b) _ _ (away m.entries.marks b h q))

  pub old_here : get_or m.entries.marks b 0 ≡ 1
      → step_of (gives (player_old z (x_of m.entries b) (y_of m.entries b)) n) s (with_entries (with_player m.entries b 0 (pos 0) (pos 0)) m)
      ≡ old_player s m z n
  unfolding old_player
  old_here q = rw (client_is z b f e h) (picks_first (present m.entries b) _ _ (here m.entries.marks b h q))
