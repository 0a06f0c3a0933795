-- `count_many::jolzerv_count_many` counts the events of the definition's run. Assumes nothing.
use Prim.Native.Nat.{◌+◌, ◌-◌}
use native.Mathlib.Omega.{arith}
use borrow.Author.Rules.{rules}
use mathlib.Core.Path.{◌≡◌, sym, ◌∙◌}
use Rattle.count.specs.Count.{version_if}
use Rattle.count_many.proofs.Manies.{far_start, far_full, far_sum, far_end, far_more}
use Rattle.count_many.proofs.jolzerv_count_many.Goals as goal

pub loop-init : goal.loop-init
loop-init c =
    let a = c.args in
    (rw (c.empty-reader.ensures, c.version_if.ensures) (far_start (version_if a.second) a.body.now), (search rules, search rules))

pub overflow_add-count : goal.overflow_add-count
overflow_add-count c =
    let t = c in
    let l = t.loop in
    let a = t.args in
    let m = c.read_many-many in
    omega (
      arith,
      far_sum (version_if a.second) a.body.now l.reader l.at l.count (1125899906842624 - l.counter) l.invariant.0
          (omega (arith, t.loop-test.true)) _ _ _ _ l.invariant.1.0 l.invariant.1.1 m.result m.ensures,
    )

pub returns-then-ended : goal.returns-then-ended
returns-then-ended c =
    let t = c in
    let l = t.loop in
    let a = t.args in
    let m = c.read_many-many in
    far_end (version_if a.second) a.body.now l.reader l.at l.count (1125899906842624 - l.counter) l.invariant.0
    (omega (arith, t.loop-test.true)) _ _ _ _ l.invariant.1.0 l.invariant.1.1 m.result m.ensures
    (sym c.ended.ensures ∙ c.if-ended.true)

pub loop-preserved : goal.loop-preserved
loop-preserved c =
    let t = c in
    let l = t.loop in
    let a = t.args in
    let m = c.read_many-many in
    let f = far_more (version_if a.second) a.body.now l.reader l.at l.count (1125899906842624 - l.counter) l.invariant.0
    (omega (arith, t.loop-test.true)) _ _ _ _ l.invariant.1.0 l.invariant.1.1 m.result m.ensures
    (sym c.ended.ensures ∙ c.if-ended.false) in
    let e : c.past-at.result ≡ l.at + m.result.used = omega (arith, c.past-at.ensures, f.within) in
    let n : 1125899906842624 - l.counter - 1 ≡ 1125899906842624 - (l.counter + 1) = omega arith in
    (rw e (rw n at f), (search rules, search rules))

pub returns : goal.returns
returns c =
    let l = c.loop in
    let a = c.args in
    far_full (version_if a.second) a.body.now l.reader l.at l.count (1125899906842624 - l.counter) l.invariant.0 (omega (arith, c.loop-test.false))
