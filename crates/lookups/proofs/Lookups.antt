-- The lookups by the tests that the code makes: b is the client's bits. Assumes nothing.
use Prim.Native.Nat.{ℕ, ◌≤◌, ◌<◌}
use mathlib.Core.Path.{◌≡◌, refl}
use native.Mathlib.Omega.{arith}
use lib.ListN.{get_or}
use lib.IntN.{ℤ, pos, negsuc}
use mir.Syntax.{w32}
use mir.Val.{SFits, of_z}
use Rattle.std.specs.Prelude.{Some, None}
use Rattle.state.specs.State.{present, holds, x_of, y_of, ten_of}
use Rattle.state.specs.declared.Entries.{Entries}
use Rattle.state.proofs.Numbers.{picks_first, picks_second, client_is}
use Rattle.state.proofs.Marks.{here, away, far}
use Rattle.lookups.specs.Lookups.{pos_of, input_for}

pub pos_far : (e : Entries) (z : ℤ) (b : ℕ) → b ≡ of_z w32 z → 128 ≤ b → None ≡ pos_of e z
pos_far e (pos c) b q h = picks_second (present e c) _ _ (far e.marks c (omega arith))
pos_far e (negsuc c) b q h = refl

pub input_far : (e : Entries) (z : ℤ) (b : ℕ) → b ≡ of_z w32 z → 128 ≤ b → None ≡ input_for e z
input_far e (pos c) b q h = picks_second (holds e c) _ _ (far e.held c (omega arith))
input_far e (negsuc c) b q h = refl

module _ (e : Entries) (z : ℤ) (b : ℕ) (f : SFits w32 z) (q : b ≡ of_z w32 z) (h : b < 128) where
  pub pos_away : (get_or e.marks b 0 ≡ 1 → ⊥) → None ≡ pos_of e z
  pos_away n = rw (client_is z b f q h) (picks_second (present e b) _ _ (away e.marks b h n))

  pub pos_here : get_or e.marks b 0 ≡ 1 → Some (record { x = x_of e b; y = y_of e b }) ≡ pos_of e z
  pos_here n = rw (client_is z b f q h) (picks_first (present e b) _ _ (here e.marks b h n))

  pub input_away : (get_or e.held b 0 ≡ 1 → ⊥) → None ≡ input_for e z
  input_away n = rw (client_is z b f q h) (picks_second (holds e b) _ _ (away e.held b h n))

  pub input_here : get_or e.held b 0 ≡ 1 → Some (ten_of e.inputs b) ≡ input_for e z
  input_here n = rw (client_is z b f q h) (picks_first (holds e b) _ _ (here e.held b h n))
