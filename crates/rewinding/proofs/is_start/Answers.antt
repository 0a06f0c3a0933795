-- `rewinding::is_start` meets its contract. Assumes nothing.
use borrow.Author.Rules.{rules}
use Prim.Native.Nat.{◌+◌, ◌*◌}
use mathlib.Core.Path.{◌∙◌}
use native.Mathlib.Omega.{arith}
use lib.ListN.{get_or}
use lib.IntN.{pos}
use Rattle.state.proofs.Numbers.{element}
use Rattle.back.proofs.Cases.{Same}
use Rattle.rewinding.proofs.Search.{start_at}
use Rattle.rewinding.proofs.is_start.Goals as goal

pub returns : goal.returns
returns c =
    let a = c.args in
    let k = element (get_or a.rows.now (10 * a.p) (pos 0)) c.kind-1.given in
    let t = element (get_or a.rows.now (10 * a.p + 1) (pos 0)) c.t-1.given in
    let s : Same a.tick = search rules in
    c.both.ensures
    ∙ rw (c.same_number.ensures, c.same_number-2.ensures, k, t, s)
    (start_at a.tick a.rows.now a.p (10 * a.p) (omega arith))
