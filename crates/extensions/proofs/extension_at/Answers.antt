-- `extensions::extension_at` meets its contract. Assumes nothing.
use Prim.Native.Nat.{ℕ, zero, suc, ◌≤◌}
use mathlib.Core.Path.{◌≡◌, sym, ap}
use native.Mathlib.Omega.{arith}
use lib.ListN.{get_or}
use Rattle.extensions.specs.Extensions.{all}
use Rattle.extensions.specs.declared.Extension.{Extension}
use Rattle.extensions.specs.declared.Extension.TheVariants.{TeamSaveSuccess}
use Rattle.extensions.proofs.Each.{outside, past_last}
use Rattle.extensions.proofs.extension_at.Goals as goal

at : {k n : ℕ} → k ≡ n → get_or all n TeamSaveSuccess ≡ get_or all k TeamSaveSuccess
at e = sym (ap (λ (i : ℕ). get_or all i TeamSaveSuccess) e)

pub returns-in-0 : goal.returns-in-0
unfolding all
returns-in-0 c =
    at c.in-0.is

pub returns-in-1 : goal.returns-in-1
unfolding all
returns-in-1 c =
    at c.in-1.is

pub returns-in-2 : goal.returns-in-2
unfolding all
returns-in-2 c =
    at c.in-2.is

pub returns-in-3 : goal.returns-in-3
unfolding all
returns-in-3 c =
    at c.in-3.is

pub returns-in-4 : goal.returns-in-4
unfolding all
returns-in-4 c =
    at c.in-4.is

pub returns-in-5 : goal.returns-in-5
unfolding all
returns-in-5 c =
    at c.in-5.is

pub returns-in-6 : goal.returns-in-6
unfolding all
returns-in-6 c =
    at c.in-6.is

pub returns-in-7 : goal.returns-in-7
unfolding all
returns-in-7 c =
    at c.in-7.is

pub returns-in-8 : goal.returns-in-8
unfolding all
returns-in-8 c =
    at c.in-8.is

pub returns-in-9 : goal.returns-in-9
unfolding all
returns-in-9 c =
    at c.in-9.is

pub returns-in-10 : goal.returns-in-10
unfolding all
returns-in-10 c =
    at c.in-10.is

pub returns-in-11 : goal.returns-in-11
unfolding all
returns-in-11 c =
    at c.in-11.is

pub returns-in-12 : goal.returns-in-12
unfolding all
returns-in-12 c =
    at c.in-12.is

pub returns-in-13 : goal.returns-in-13
unfolding all
returns-in-13 c =
    at c.in-13.is

pub returns-in-14 : goal.returns-in-14
unfolding all
returns-in-14 c =
    at c.in-14.is

pub returns-in-15 : goal.returns-in-15
unfolding all
returns-in-15 c =
    at c.in-15.is

pub returns-in-16 : goal.returns-in-16
unfolding all
returns-in-16 c =
    at c.in-16.is

pub returns-in-17 : goal.returns-in-17
unfolding all
returns-in-17 c =
    at c.in-17.is

pub returns-in-18 : goal.returns-in-18
unfolding all
returns-in-18 c =
    at c.in-18.is

pub returns-in_default : goal.returns-in_default
unfolding all
returns-in_default c =
    past_last c.args.k (outside 19 c.args.k c.in_default.in_default-own.rest)
