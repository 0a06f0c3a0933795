-- `rests::with_pair` meets its contract. Assumes nothing.
use mathlib.Core.Path.{◌≡◌, ◌∙◌}
use mathlib.Core.Bool.{Bool, true, false}
use borrow.Author.Rules.{rules}
use Rattle.item.specs.Records.{read_rest}
use Rattle.state.specs.Slim.{slim_step}
use Rattle.state.specs.steps.Parts.{with_rest}
use Rattle.state.proofs.Numbers.{Three}
use Rattle.rests.specs.steps.Kinds.{pair_kind}
use Rattle.rests.proofs.Rests.{pair_step, pair_out, pair_got}
use Rattle.rests.proofs.with_pair.Goals as goal
use Rattle.rests.proofs.with_pair.Goals.{After-player_diff, After-player_new}

pub returns-in_default : goal.returns-in_default
returns-in_default c =
    let r = c in
    let a = r.args in
    let m = a.m.now in
    c.run_out.ensures m ∙ pair_out a.s m a.last a.w.now a.at a.new a.cid _ r.read_pair.ensures c.in_default.is

-- the pair that was read, and its numbers read back from their bits
got : (c : After-player_new) (new : Bool)
    → (let a = c.args in
    let m = a.m.now in
    pair_step a.s m a.last a.w.now a.at new a.cid c.in-Got.first c.in-Got.second c.in-Got.next
    ≡ slim_step (with_rest a.s m a.last (read_rest (pair_kind new a.cid) a.w.now a.at)))
got c new =
    let r = c in
    let a = r.args in
    let m = a.m.now in
    pair_got a.s m a.last a.w.now a.at new a.cid _ r.read_pair.ensures c.in-Got.first c.in-Got.second c.in-Got.next c.in-Got.is

kept : (c : After-player_new)
    → (Three c.args.cid c.in-Got.first c.in-Got.second)
kept c = search rules

pub returns-then-new : goal.returns-then-new
returns-then-new c =
    let n = c in
    let k = kept n in
    rw c.if-new.true
    (rw (n.named-t.ensures, k.first, k.second, k.third) at c.player_new.ensures ∙ got n true)

-- the pair that was read, and its numbers read back from their bits
got_2 : (c : After-player_diff) (new : Bool)
    → (let a = c.args in
    let m = a.m.now in
    pair_step a.s m a.last a.w.now a.at new a.cid c.in-Got.first c.in-Got.second c.in-Got.next
    ≡ slim_step (with_rest a.s m a.last (read_rest (pair_kind new a.cid) a.w.now a.at)))
got_2 c new =
    let r = c in
    let a = r.args in
    let m = a.m.now in
    pair_got a.s m a.last a.w.now a.at new a.cid _ r.read_pair.ensures c.in-Got.first c.in-Got.second c.in-Got.next c.in-Got.is

kept_2 : (c : After-player_diff)
    → (Three c.args.cid c.in-Got.first c.in-Got.second)
kept_2 c = search rules

pub returns : goal.returns
returns c =
    let n = c in
    let k = kept_2 n in
    rw c.if-new.false
    (rw (n.named-t.ensures, k.first, k.second, k.third) at c.player_diff.ensures ∙ got_2 n false)
