-- The ladder program's rounds make the list of a body, and its text is one of the body. Assumes nothing.
use Rattle.ladder_turns.specs.Ladder.{ListText}
use Rattle.ladder_turns.specs.Rounds.{RoundsList}
use Rattle.ladder_turns.proofs.Rounds as rounds
use Rattle.ladder_turns.proofs.Text as text

pub rounds_list : RoundsList
rounds_list = rounds.rounds_list

pub list_text_law : ListText
list_text_law = text.list_text_law
