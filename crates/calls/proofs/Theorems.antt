-- The statements of specs/Laws.antt and specs/Never.antt. Assumes nothing.
use Rattle.calls.specs.Laws.{CallWithin, MoreLeaves, CallLonger, ReachedSound, ReachedForgetBetween, RunsAreLists, RunsSplit, FewEvents, RunTens, RunWithin, EnoughCalls, EventsOfFew}
use Rattle.calls.specs.Never.{TicksRise, InputsStay, PlayersStay}
use Rattle.calls.proofs.Singles as singles
use Rattle.calls.proofs.Rise as rise
use Rattle.calls.proofs.Stay as stay
use Rattle.calls.proofs.Reached as reached
use Rattle.calls.proofs.Runs as runs

pub call_within : CallWithin
call_within = singles.call_within

pub more_leaves : MoreLeaves
more_leaves = singles.more_leaves

pub call_longer : CallLonger
call_longer = singles.call_longer

pub reached_sound : ReachedSound
reached_sound = reached.reached_sound

pub reached_forget_between : ReachedForgetBetween
reached_forget_between = reached.reached_forget_between

pub runs_are_lists : RunsAreLists
runs_are_lists = runs.runs_are_lists

pub runs_split : RunsSplit
runs_split = runs.runs_split

pub few_events : FewEvents
few_events = runs.few_events

pub run_tens : RunTens
run_tens = runs.run_tens

pub run_within : RunWithin
run_within = runs.run_within

pub enough_calls : EnoughCalls
enough_calls = runs.enough_calls

pub events_of_few : EventsOfFew
events_of_few = runs.events_of_few

pub ticks_rise : TicksRise
ticks_rise = rise.ticks_rise

pub inputs_stay : InputsStay
inputs_stay = rise.inputs_stay

pub players_stay : PlayersStay
players_stay = stay.players_stay
