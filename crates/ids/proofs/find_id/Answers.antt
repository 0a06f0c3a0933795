-- `ids::find_id` meets its contract. The loop's invariant: what is found among those left is the answer. Assumes nothing.
use Rattle.std.specs.Prelude.{Some}
use Prim.Native.Nat.{◌+◌}
use mathlib.Core.Path.{◌≡◌, sym, ◌∙◌, ap}
use mathlib.Core.Bool.{Bool, true, false, cond}
use native.Mathlib.Omega.{arith}
use lib.ListN.{take, drop}
use Rattle.packer.specs.Parts.{shown}
use Rattle.packer.proofs.Reading.{shown_in, shown_out}
use Rattle.shapes.specs.steps.Shapes.{id_part}
use Rattle.extensions.specs.Extensions.{id_at, all, find_in, find}
use Rattle.ids.proofs.Find.{find_step}
use Rattle.ids.proofs.Table.{none_found, id_sixteen}
use Rattle.ids.proofs.find_id.Goals as goal
use Rattle.ids.proofs.find_id.Goals.{Else-same_bytes, Then-same_bytes}

pub returns-then-s-at : goal.returns-then-s-at
returns-then-s-at c = let a = c.args in sym (ap find (shown_out a.s.now a.at 16 (omega arith)) ∙ none_found)

pub returns-then-s-at-lt16 : goal.returns-then-s-at-lt16
returns-then-s-at-lt16 c = let a = c.args in sym (ap find (shown_out a.s.now a.at 16 (omega arith)) ∙ none_found)

pub loop-k-init : goal.loop-k-init
unfolding find
loop-k-init c = let a = c.args in (omega arith, rw (shown_in a.s.now a.at 16 (omega arith)))

-- one step of the loop, by what the comparison answers
step : (c : Then-same_bytes) (b : Bool) → c.same_bytes.result ≡ b
    → find (shown c.args.s.now (id_part c.args.at))
    ≡ cond b (Some c.extension_at-which.result)
    (find_in (drop (c.loop-k.k + 1) all)
    (take 16
    (drop c.args.at c.args.s.now)))
step c b e =
    let a = c.args in
    let l = c.loop-k in
    let x = c.extension_at-which in
    l.invariant.1
    ∙ find_step (take 16 (drop a.at a.s.now)) l.k (omega arith) x.result x.ensures b
    (sym (c.same_bytes.ensures (id_at x.result) (id_sixteen x.result) c.id_halves.ensures) ∙ e)

pub returns-then-same_bytes : goal.returns-then-same_bytes
returns-then-same_bytes c = sym (step c true c.if-same_bytes.true)

-- one step of the loop, by what the comparison answers
step_2 : (c : Else-same_bytes) (b : Bool) → c.same_bytes.result ≡ b
    → find (shown c.args.s.now (id_part c.args.at))
    ≡ cond b (Some c.extension_at-which.result)
    (find_in (drop (c.loop-k.k + 1) all)
    (take 16
    (drop c.args.at c.args.s.now)))
step_2 c b e =
    let a = c.args in
    let l = c.loop-k in
    let x = c.extension_at-which in
    l.invariant.1
    ∙ find_step (take 16 (drop a.at a.s.now)) l.k (omega arith) x.result x.ensures b
    (sym (c.same_bytes.ensures (id_at x.result) (id_sixteen x.result) c.id_halves.ensures) ∙ e)

pub loop-k-preserved : goal.loop-k-preserved
loop-k-preserved c = (omega arith, step_2 c false c.if-same_bytes.false)

pub returns : goal.returns
unfolding find_in all
returns c = let l = c.loop-k in let e : l.k ≡ 20 = omega arith in sym (l.invariant.1 ∙ rw e)
