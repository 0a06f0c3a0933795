-- `rewinding::blank_board` meets its contract. Assumes nothing.
use borrow.Author.Rules.{rules}
use Rattle.state.specs.State.{no_entries}
use Rattle.rewinding.proofs.blank_board.Goals as goal

pub returns : goal.returns
unfolding no_entries
returns c = search rules
