-- `going::go_lent` meets its contract. Assumes nothing.
use borrow.Author.Rules.{rules}
use mathlib.Core.Path.{◌≡◌, ap, ◌∙◌}
use Rattle.state.specs.State.{entries_with}
use Rattle.back.specs.Board.{board}
use Rattle.back.specs.TeamBoard.{team_board}
use Rattle.back.specs.declared.TeamBoard.{TeamBoard}
use Rattle.back.proofs.Cases.{Same}
use Rattle.reel.specs.Reel.{reel_of}
use Rattle.reel.specs.declared.Reel.{Reel}
use Rattle.rewinding.specs.Walk.{Walked, walked_is}
use Rattle.going.specs.Going.{rewind_of, has_start}
use Rattle.going.specs.Lent.{go_is}
use Rattle.going.specs.declared.Rewind.{Rewind}
use Rattle.going.specs.declared.LentGo.{LentGo}
use Rattle.going.specs.declared.Go.{Go}
use Rattle.going.proofs.Cases.{bad, gone, misfitted, went_over, over_within}
use Rattle.going.proofs.go_lent.Goals as goal
use Rattle.going.proofs.go_lent.Goals.{After-refuse, After-refuse-then-not-has_start, After-refuse-then-progress, After-step_over-over, After-went}

-- the rewind that is given
abbrev given : After-refuse → Rewind
given s =
    let a = s.args in
    rewind_of
    (team_board (board a.tick (entries_with a.marks.now a.xs.now a.ys.now a.held.now a.inputs.now)) a.teams.now)
    (reel_of a.counts a.rows.now a.tens.now a.formers.now) a.progress

-- what is handed back, of the entries and teams of a board that is left
abbrev whole : Reel → TeamBoard → LentGo → Go
whole l b r = go_is r b.board.entries b.teams (reel_of r.counts l.rows l.inputs l.formers)

pub returns-then-not-good_rewind : goal.returns-then-not-good_rewind
returns-then-not-good_rewind c =
    let s = c in
    ap (whole (given s).reel (given s).board) c.refuse.ensures
    ∙ bad (given s) s.args.events _ c.good_rewind.ensures c.if-not-good_rewind.true

-- the rewind that is given
abbrev given_2 : After-refuse-then-not-has_start → Rewind
given_2 s =
    let a = s.args in
    rewind_of
    (team_board (board a.tick (entries_with a.marks.now a.xs.now a.ys.now a.held.now a.inputs.now)) a.teams.now)
    (reel_of a.counts a.rows.now a.tens.now a.formers.now) a.progress

has : (c : After-refuse-then-not-has_start) → c.has_start.result ≡ has_start (given_2 c)
has c =
    let a = c.args in
    let t : Same a.progress.tick = search rules in
    rw t at (c.has_start.ensures a.tens.now a.formers.now)

pub returns-then-not-has_start : goal.returns-then-not-has_start
returns-then-not-has_start c =
    let k = c in
    let s = k in
    ap (whole (given_2 s).reel (given_2 s).board) c.refuse-then-not-has_start.ensures
    ∙ gone (given_2 s) s.args.events _ k.good_rewind.ensures k.if-not-good_rewind.false _ (has k)
    c.if-not-has_start.true

-- the rewind that is given
abbrev given_3 : After-refuse-then-progress → Rewind
given_3 s =
    let a = s.args in
    rewind_of
    (team_board (board a.tick (entries_with a.marks.now a.xs.now a.ys.now a.held.now a.inputs.now)) a.teams.now)
    (reel_of a.counts a.rows.now a.tens.now a.formers.now) a.progress

has_2 : (c : After-refuse-then-progress) → c.has_start.result ≡ has_start (given_3 c)
has_2 c =
    let a = c.args in
    let t : Same a.progress.tick = search rules in
    rw t at (c.has_start.ensures a.tens.now a.formers.now)

pub returns-then-progress : goal.returns-then-progress
returns-then-progress c =
    let k = c in
    let s = k in
    ap (whole (given_3 s).reel (given_3 s).board) c.refuse-then-progress.ensures
    ∙ misfitted (given_3 s) s.args.events _ k.good_rewind.ensures k.if-not-good_rewind.false _ (has_2 k)
    c.if-not-has_start.false c.if-progress.true

-- the rewind that is given
abbrev given_4 : After-step_over-over → Rewind
given_4 s =
    let a = s.args in
    rewind_of
    (team_board (board a.tick (entries_with a.marks.now a.xs.now a.ys.now a.held.now a.inputs.now)) a.teams.now)
    (reel_of a.counts a.rows.now a.tens.now a.formers.now) a.progress

has_3 : (c : After-step_over-over) → c.has_start.result ≡ has_start (given_4 c)
has_3 c =
    let a = c.args in
    let t : Same a.progress.tick = search rules in
    rw t at (c.has_start.ensures a.tens.now a.formers.now)

-- what stepping over rows left
abbrev walked : After-step_over-over → Walked
walked c =
    let o = c.step_over-over in
    walked_is o.result (entries_with o.new.marks o.new.xs o.new.ys o.new.held o.new.inputs) o.new.teams

pub went-requires : goal.went-requires
went-requires c =
    let n = c in
    let k = n in
    let s = k in
    over_within (given_4 s) s.args.events _ k.good_rewind.ensures k.if-not-good_rewind.false _ (has_3 k)
    n.if-not-has_start.false _ n.min-n.ensures (walked c) (c.step_over-over.ensures s.args.counts)

-- the rewind that is given
abbrev given_5 : After-went → Rewind
given_5 s =
    let a = s.args in
    rewind_of
    (team_board (board a.tick (entries_with a.marks.now a.xs.now a.ys.now a.held.now a.inputs.now)) a.teams.now)
    (reel_of a.counts a.rows.now a.tens.now a.formers.now) a.progress

has_4 : (c : After-went) → c.has_start.result ≡ has_start (given_5 c)
has_4 c =
    let a = c.args in
    let t : Same a.progress.tick = search rules in
    rw t at (c.has_start.ensures a.tens.now a.formers.now)

-- what stepping over rows left
abbrev walked_2 : After-went → Walked
walked_2 c =
    let o = c.step_over-over in
    walked_is o.result (entries_with o.new.marks o.new.xs o.new.ys o.new.held o.new.inputs) o.new.teams

pub returns : goal.returns
returns c =
    let m = c in
    let k = m in
    let s = k in
    ap (whole (given_5 s).reel (walked_2 c).taken.board) c.went.ensures
    ∙ went_over (given_5 s) s.args.events _ k.good_rewind.ensures k.if-not-good_rewind.false _ (has_4 k)
    m.if-not-has_start.false _ m.min-n.ensures (walked_2 c) (c.step_over-over.ensures s.args.counts)
    m.if-progress.false
