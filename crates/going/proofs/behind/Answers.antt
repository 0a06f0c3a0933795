-- `going::behind` meets its contract. Assumes nothing.
use borrow.Author.Rules.{rules}
use Rattle.going.proofs.Cases.{place_below, place_round}
use Rattle.going.proofs.behind.Goals as goal

pub returns-then-n-next : goal.returns-then-n-next
returns-then-n-next c = let s = c in place_below s.args.n s.args.next s.requires.0 s.requires.1 c.if-n-next.true

pub returns : goal.returns
returns c = let s = c in place_round s.args.n s.args.next s.requires.0 s.requires.1 (search rules)
