-- The statements of specs/Laws.antt. Assumes nothing.
use Rattle.choice.specs.Laws.{ChoiceReaches, ChoiceEnds, NothingToDo, TargetSuffices, CantBeDone, ReachedNoTeamsIn1}
use Rattle.choice.proofs.Reaches as reaches
use Rattle.choice.proofs.Nothing as nothing
use Rattle.choice.proofs.Cant as cant

pub choice_reaches : ChoiceReaches
choice_reaches = reaches.choice_reaches

pub choice_ends : ChoiceEnds
choice_ends = reaches.choice_ends

pub nothing_to_do : NothingToDo
nothing_to_do = nothing.nothing_to_do

pub target_suffices : TargetSuffices
target_suffices = nothing.target_suffices

pub cant_be_done : CantBeDone
cant_be_done = cant.cant_be_done

pub reached_no_teams_in_1 : ReachedNoTeamsIn1
reached_no_teams_in_1 = cant.reached_no_teams_in_1
