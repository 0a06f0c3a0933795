-- The next tick, the tick rule of a player's client, a skip: by cases. Assumes nothing.
use Rattle.std.specs.Prelude.{Some, None}
use Prim.Native.Nat.{ℕ, ◌+◌, ◌≤◌, ◌<◌}
use mathlib.Core.Path.{◌≡◌, refl, sym, ap, ◌∙◌}
use mathlib.Core.Bool.{true, false, not}
use native.Mathlib.Omega.{arith}
use lib.IntN.{ℤ, pos, negsuc}
use lib.Signed.{lt_z}
use borrow.Author.Tests.{lt-ltb, le-ltb, not-true, not-false}
use mir.Syntax.{w32}
use mir.Val.{SFits, to_z, of_z}
use mir.Facts.{to_z_pos}
use Rattle.item.specs.Said.{gives}
use Rattle.state.specs.declared.Memory.{Memory}
use Rattle.state.specs.Reading.{tick_start, tick_end, step_of, skipping, next_tick, player_rule}
use Rattle.state.specs.steps.Parts.{skipped, ends_at}
use Rattle.state.specs.declared.Scalars.{Scalars}
use Rattle.state.specs.declared.Rule.TheVariants.{Reads, Starts}
use Rattle.state.proofs.Numbers.{picks_first, picks_second, low}

-- ---- the next tick, from the bits of this one

next_high : (t : ℤ) (k : ℕ) → SFits w32 t → 2147483648 ≤ of_z w32 t → None ≡ next_tick t k
unfolding next_tick
next_high (pos n) k f h = absurd (omega (arith, f.sfits))
next_high (negsuc n) k f h = refl

pub next_negative : (t : ℤ) (k b : ℕ) → SFits w32 t → b ≡ of_z w32 t → 2147483648 ≤ b → None ≡ next_tick t k
next_negative t k b f e h = next_high t k f (omega arith)

next_over : (n k : ℕ) → 2147483648 ≤ n + k + 1 → None ≡ next_tick (pos n) k
unfolding next_tick
next_over n k h = rw (lt-ltb 2147483647 (n + k + 1) (omega arith))

next_in : (n k : ℕ) → n + k + 1 < 2147483648 → Some (pos (n + k + 1)) ≡ next_tick (pos n) k
unfolding next_tick
next_in n k h = rw (le-ltb 2147483647 (n + k + 1) (omega arith))

pub next_past : (t : ℤ) (k b : ℕ) → SFits w32 t → b ≡ of_z w32 t → b < 2147483648 → 2147483648 ≤ b + k + 1 → None ≡ next_tick t k
next_past t k b f e h over =
    let p : t ≡ pos b = low t f (omega arith) ∙ ap pos (sym e) in
    rw p (next_over b k over)

pub next_to : (t : ℤ) (k b n : ℕ) → SFits w32 t → b ≡ of_z w32 t → b < 2147483648 → n ≡ b + k + 1 → n < 2147483648 → Some (to_z w32 n) ≡ next_tick t k
next_to t k b n f e h en under =
    let p : t ≡ pos b = low t f (omega arith) ∙ ap pos (sym e) in
    rw (p, to_z_pos w32 under, en) (next_in b k (omega arith))

-- ---- the tick rule of a player's client

module _ (s : Scalars) (c : ℤ) where
  pub rule_outside : not s.inside ≡ true → Starts ≡ player_rule s c
  unfolding player_rule
  rule_outside i = rw (not-true s.inside i)

  pub rule_nobody : not s.inside ≡ false → s.remembered ≡ None → Reads ≡ player_rule s c
  unfolding player_rule
  rule_nobody i e = rw (not-false s.inside i, e)

  pub rule_above : (p : ℤ) → not s.inside ≡ false → s.remembered ≡ Some p → lt_z p c ≡ true → Reads ≡ player_rule s c
  unfolding player_rule
  rule_above p i e t = rw (not-false s.inside i, e, t)

  pub rule_again : (p : ℤ) → not s.inside ≡ false → s.remembered ≡ Some p → lt_z p c ≡ false → ends_at (next_tick s.tick 0) ≡ player_rule s c
  unfolding player_rule
  rule_again p i e t = rw (not-false s.inside i, e, t)

-- ---- a skip

module _ (s : Scalars) (m : Memory) (n : ℕ) (t : ℤ) where
  pub skip_inside : s.inside ≡ true → step_of (gives (tick_end s.tick) n) (skipping t false s) m ≡ skipped s m n (Some t)
  skip_inside e = picks_first s.inside _ _ e

  pub skip_outside : s.inside ≡ false → step_of (gives (tick_start t) n) (skipping t true s) m ≡ skipped s m n (Some t)
  skip_outside e = picks_second s.inside _ _ e
