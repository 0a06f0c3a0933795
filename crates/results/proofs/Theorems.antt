-- The statements of specs/Laws.antt. Assumes nothing.
use Rattle.results.specs.Results.{no_results, keep}
use Rattle.results.specs.Laws.{
  RowsAreBests,
  AllRowsAreBests,
  CountIsOthers,
  CountRises,
  KeepsOn,
  FinishesGoOn,
  FirstLowest,
  EveryFinishListed,
  RowOfClient,
  OneRowEach,
  OneBestEach,
  RowsAreFinishes,
}
use Rattle.results.proofs.Lists as lists
use Rattle.results.proofs.Bests as bests
use Rattle.results.proofs.Listed as listed
use Rattle.results.proofs.Rises as rises

pub rows_are_bests : RowsAreBests
rows_are_bests = lists.rows_are_bests

pub all_rows_are_bests : AllRowsAreBests
all_rows_are_bests = lists.all_rows_are_bests

pub count_is_others : CountIsOthers
count_is_others = lists.count_is_others

pub count_rises : CountRises
count_rises = lists.count_rises

pub keeps_on : KeepsOn
keeps_on = lists.keeps_on

pub finishes_go_on : FinishesGoOn
finishes_go_on = lists.finishes_go_on

pub first_lowest : FirstLowest
first_lowest = bests.first_lowest

pub every_finish_listed : EveryFinishListed
every_finish_listed = listed.every_finish_listed

pub row_of_client : RowOfClient
row_of_client = rises.row_of_client

pub one_row_each : OneRowEach
one_row_each = rises.one_row_each

pub one_best_each : OneBestEach
one_best_each fs = rw (← lists.all_rows_are_bests fs) (rises.one_row_each (keep no_results fs))

pub rows_are_finishes : RowsAreFinishes
rows_are_finishes = listed.rows_are_finishes
