-- The input records by the tests that the code makes: b is the client's bits. Assumes nothing.
use Prim.Native.Nat.{ℕ, ◌≤◌, ◌<◌}
use mathlib.Core.Path.{◌≡◌}
use mathlib.Core.Bool.{true}
use mathlib.Core.List.{List}
use native.Mathlib.Omega.{arith}
use lib.ListN.{get_or}
use lib.Dec.{ltb, eqb}
use lib.IntN.{ℤ, pos, negsuc}
use borrow.Author.Tests.{lt-ltb, le-ltb}
use mir.Syntax.{w32}
use mir.Val.{SFits, to_z, of_z}
use Rattle.refusal.specs.declared.Refusal.{Refusal}
use Rattle.refusal.specs.declared.Refusal.TheVariants.{ClientTooLarge, InputDiffWithoutNew}
use Rattle.item.specs.Said.{gives}
use Rattle.state.specs.State.{holds, ten_of}
use Rattle.state.specs.declared.Memory.{Memory}
use Rattle.state.specs.Reading.{input, step_of, refusal_step, sums, changed, input_diff, input_new}
use Rattle.state.specs.steps.Inside.{no_entry}
use Rattle.state.specs.declared.Scalars.{Scalars}
use Rattle.state.proofs.Numbers.{picks_first, picks_second, bits_are, client_is}
use Rattle.state.proofs.Marks.{here, away, far}

-- ---- InputDiff

diff_off : (s : Scalars) (m : Memory) (z : ℤ) (ds : List ℤ) (n b : ℕ) → SFits w32 z → b ≡ of_z w32 z → 128 ≤ b
    → refusal_step (no_entry b InputDiffWithoutNew) s m ≡ input_diff s m z ds n
unfolding input_diff
diff_off s m (pos c) ds n b f e h = rw (e, lt-ltb c 2147483648 f.sfits) (picks_second (holds m.entries c) _ _ (far m.entries.held c (omega arith)))
diff_off s m (negsuc c) ds n b f e h = rw (le-ltb b 2147483648 (omega (arith, f.sfits)))

pub diff_far : (s : Scalars) (m : Memory) (z : ℤ) (ds : List ℤ) (n b : ℕ) (why : Refusal) → SFits w32 z
    → b ≡ of_z w32 (to_z w32 (of_z w32 z)) → 128 ≤ b → why ≡ no_entry b InputDiffWithoutNew → refusal_step why s m ≡ input_diff s m z ds n
diff_far s m z ds n b why f e h q = rw q (diff_off s m z ds n b f (bits_are z b f e) h)

module _ (s : Scalars) (m : Memory) (z : ℤ) (ds : List ℤ) (n b : ℕ) (f : SFits w32 z) (e : b ≡ of_z w32 z) (h : b < 128) where
  pub diff_away : (get_or m.entries.held b 0 ≡ 1 → ⊥) → refusal_step InputDiffWithoutNew s m ≡ input_diff s m z ds n
  unfolding input_diff
  diff_away q = rw (client_is z b f e h) (picks_second (holds m.entries b) _ _ (away m.entries.held b h q))

  pub diff_here : get_or m.entries.held b 0 ≡ 1
      → step_of (gives (input z true) n) s (changed m b (sums (ten_of m.entries.inputs b) ds)) ≡ input_diff s m z ds n
  unfolding input_diff
  diff_here q = rw (client_is z b f e h) (picks_first (holds m.entries b) _ _ (here m.entries.held b h q))

-- ---- InputNew

new_off : (s : Scalars) (m : Memory) (z : ℤ) (ns : List ℤ) (n b : ℕ) → SFits w32 z → b ≡ of_z w32 z → 128 ≤ b
    → refusal_step (no_entry b ClientTooLarge) s m ≡ input_new s m z ns n
unfolding input_new
new_off s m (pos c) ns n b f e h = rw (e, lt-ltb c 2147483648 f.sfits) (picks_second (ltb c 128) _ _ (le-ltb c 128 (omega arith)))
new_off s m (negsuc c) ns n b f e h = rw (le-ltb b 2147483648 (omega (arith, f.sfits)))

pub new_far : (s : Scalars) (m : Memory) (z : ℤ) (ns : List ℤ) (n b : ℕ) (why : Refusal) → SFits w32 z
    → b ≡ of_z w32 (to_z w32 (of_z w32 z)) → 128 ≤ b → why ≡ no_entry b ClientTooLarge → refusal_step why s m ≡ input_new s m z ns n
new_far s m z ns n b why f e h q = rw q (new_off s m z ns n b f (bits_are z b f e) h)

-- the event tells whether there was an input before, by the mark
pub new_here : (s : Scalars) (m : Memory) (z : ℤ) (ns : List ℤ) (n b : ℕ) → SFits w32 z → b ≡ of_z w32 z → b < 128
    → step_of (gives (input z (eqb (get_or m.entries.held b 0) 1)) n) s (changed m b ns) ≡ input_new s m z ns n
unfolding input_new
new_here s m z ns n b f e h = rw (client_is z b f e h, lt-ltb b 128 h)
