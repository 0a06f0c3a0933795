-- `replayer::put_ending` meets its contract. Assumes nothing.
use Prim.Native.Nat.{ℕ, ◌≤◌, ◌+◌}
use mathlib.Core.Path.{◌≡◌, sym, ◌∙◌, ap}
use mathlib.Core.Bool.{Bool, false, cond}
use mathlib.Core.List.{List, []}
use native.Mathlib.Omega.{arith}
use lib.ListN.{length}
use Rattle.packer.proofs.Joined.{nothing_put}
use Rattle.lines.specs.Lines.{last_line, longest}
use Rattle.lines.specs.steps.Puts.{PutsText}
use Rattle.lines.specs.declared.Ending.TheVariants.{TooLong}
use Rattle.lines.proofs.Texts.{same_text}
use Rattle.calls.specs.Along.{wants_more}
use Rattle.windows.specs.Windows.{too_long}
use Rattle.replayer.specs.Replay.{ending_of}
use Rattle.replayer.proofs.put_ending.Goals as goal

no_line : (xs : List ℕ) (at : ℕ) → at + longest ≤ length xs → PutsText xs at [] at xs
no_line xs at h = (omega arith, nothing_put xs at (omega arith))

pub returns-in-Full : goal.returns-in-Full
returns-in-Full c =
    let s = c in
    rw c.in-Full.is (no_line s.args.out.now s.args.at s.requires)

not_too_long : (s : Bool) (n : ℕ) → too_long s n ≡ false → [] ≡ ending_of s wants_more n
not_too_long s n e = ap (λ (b : Bool). cond b (last_line TooLong) []) (sym e)

pub returns-else-is_too_long : goal.returns-else-is_too_long
returns-else-is_too_long c =
    let t = c in
    let s = t in
    let a = s.args in
    rw t.in-More.is
    (same_text a.out.now a.at _ _ (not_too_long a.short a.count (sym t.is_too_long.ensures ∙ c.if-is_too_long.false)) _ _
    (no_line a.out.now a.at s.requires))
