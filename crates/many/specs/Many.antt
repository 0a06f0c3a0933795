-- Many reading calls in one, and what is handed back: the run that they are, its events as rows of numbers.
use Rattle.std.specs.Prelude.{ℕ, zero, suc, ◌≡◌, Bool, cond, List, length, ℤ}
use Rattle.refusal.specs.Numbers.{number_of, values_of}
use Rattle.refusal.specs.declared.Refusal.{Refusal}
use Rattle.refusal.specs.declared.Refusal.TheVariants.{BadState, Closed}
use Rattle.state.specs.Reading.{is_closed}
use Rattle.state.specs.declared.Reader.{Reader}
use Rattle.calls.specs.Along.{Halt, is_full, wants_more, finishes, is_refused, Run, stopped, calls}
use Rattle.teams.specs.Teams.{good_teams, team_reader, good_team_reader}
use Rattle.teams.specs.declared.TeamReader.{TeamReader}
use Rattle.team_calls.specs.Lists.{teams_over, with_formers}
use Rattle.rows.specs.Rows.{rows_from, tens_from}
use Rattle.many.specs.declared.Stop.{Stop}
use Rattle.many.specs.declared.Stop.TheVariants as stops
use Rattle.many.specs.declared.ManyAnswer.{ManyAnswer}

abbrev pub refused_by : Refusal → Reader → Run
refused_by why r = stopped (is_refused (number_of why) (values_of why)) 0 r

-- at most so many calls, of which the first would refuse
abbrev pub refused_calls : ℕ → Refusal → Reader → Run
refused_calls zero why r = stopped is_full 0 r
refused_calls (suc k) why r = refused_by why r

-- at most so many calls on a reader with teams, where bad teams are refused 17: the calls on the reader itself, where its teams are good
unfoldable pub team_calls : ℕ → TeamReader → List ℕ → Bool → Run
team_calls k r w last = cond (good_teams r.teams) (calls k r.reader w last) (refused_calls k BadState r.reader)

-- at most so many calls, where 17 and 18 come first even if there is room for no call
unfoldable pub many_calls : ℕ → TeamReader → List ℕ → Bool → Run
many_calls k r w last =
    cond (good_team_reader r)
    (cond (is_closed r.reader.scalars.standing) (refused_by Closed r.reader) (calls k r.reader w last))
    (refused_by BadState r.reader)

abbrev pub halt_of : Stop → Halt
halt_of stops.Full = is_full
halt_of stops.More = wants_more
halt_of stops.Finish = finishes
halt_of (stops.Refused r) = is_refused (number_of r) (values_of r)

-- the answer and the reader are those of a run, with the teams t₀ before it, and the lent memories hold its rows
pub record ManyIs (run : Run) (t₀ rows₀ tens₀ : List ℤ) (r : ManyAnswer) (rows₁ tens₁ : List ℤ) : Type 0 where
  pub halt : halt_of r.stop ≡ run.halt
  pub count : r.count ≡ length run.seen
  pub used : r.used ≡ run.used
  pub left : r.reader ≡ team_reader run.reader (teams_over t₀ run.seen)
  pub rows : rows₁ ≡ rows_from 0 (with_formers t₀ run.seen) rows₀
  pub tens : tens₁ ≡ tens_from 0 (with_formers t₀ run.seen) tens₀
