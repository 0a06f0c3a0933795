-- `going::has_start` meets its contract. Assumes nothing.
use borrow.Author.Rules.{rules}
use borrow.Author.Tests.{le-ltb}
use Rattle.back.proofs.Cases.{Same}
use Rattle.reel.specs.Reel.{reel_of}
use Rattle.going.proofs.Cases.{none_there, there}
use Rattle.going.proofs.has_start.Goals as goal

pub returns-then-newer-counts : goal.returns-then-newer-counts
returns-then-newer-counts c =
    let a = c.args in
    let t : Same a.tick = search rules in
    λ inputs formers.
    there a.tick (reel_of a.counts a.rows.now inputs formers) a.newer c.requires.0 c.requires.1 c.if-newer-counts.true _ c.behind.ensures _
    (rw t at c.start_at.ensures)

pub returns-else-newer-counts : goal.returns-else-newer-counts
returns-else-newer-counts c =
    let a = c.args in
    let h = c.if-newer-counts.false in
    λ inputs formers. rw (le-ltb a.newer a.counts.count h) (none_there a.tick (reel_of a.counts a.rows.now inputs formers) a.newer h)
