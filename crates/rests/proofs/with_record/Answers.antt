-- `rests::with_record` meets its contract. Assumes nothing.
use mathlib.Core.Path.{◌≡◌, ◌∙◌}
use mir.Syntax.{w32}
use mir.Val.{to_z, of_z}
use Rattle.rests.proofs.Rests.{old_rest, finish_rest}
use borrow.Author.Rules.{rules}
use Rattle.rests.proofs.with_record.Goals as goal

pub returns-in-Finish : goal.returns-in-Finish
returns-in-Finish c =
    let a = c.args in
    let m = a.m.now in
    rw c.in-Finish.is (c.finished.ensures m ∙ finish_rest a.s m a.last a.w.now a.at)

pub returns-in-PlayerOld : goal.returns-in-PlayerOld
returns-in-PlayerOld c =
    let a = c.args in
    let k : to_z w32 (of_z w32 c.in-PlayerOld.cid) ≡ c.in-PlayerOld.cid = search rules in
    let m = a.m.now in
    rw c.in-PlayerOld.is ((rw (c.named.ensures, k) at c.player_old.ensures) ∙ old_rest a.s m a.last a.w.now a.at c.in-PlayerOld.cid)
