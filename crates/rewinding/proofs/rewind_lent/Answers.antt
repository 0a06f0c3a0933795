-- `rewinding::rewind_lent` meets its contract. Assumes nothing.
use mathlib.Core.Path.{sym, ap, ◌∙◌}
use borrow.Author.Rules.{rules}
use Rattle.back.proofs.Cases.{Same}
use Rattle.reel.specs.Reel.{reel_of}
use Rattle.rewinding.specs.Rewinding.{rewound_of}
use Rattle.rewinding.proofs.Rewinds.{good_room, sought_newer, found, not_found}
use Rattle.rewinding.proofs.rewind_lent.Goals as goal

pub over_newest-requires : goal.over_newest-requires
over_newest-requires c =
    let a = c.args in
    let t : Same a.tick = search rules in
    let l = reel_of a.counts a.rows.now a.inputs.now a.formers.now in
    let e = sym (rw t at (c.seek.ensures a.inputs.now a.formers.now)) ∙ c.in-Ok.is in
    (good_room a.reader l (sought_newer a.reader l a.tick _ e).0).0

pub returns-in-Ok : goal.returns-in-Ok
returns-in-Ok c =
    let a = c.args in
    let t : Same a.tick = search rules in
    let e = sym (rw t at (c.seek.ensures a.inputs.now a.formers.now)) ∙ c.in-Ok.is in
    rw (c.over_newest.ensures, c.team_board_of.ensures) (ap rewound_of (found a.reader (reel_of a.counts a.rows.now a.inputs.now a.formers.now) a.tick _ e))

pub returns-in-Err : goal.returns-in-Err
returns-in-Err c =
    let a = c.args in
    let t : Same a.tick = search rules in
    let e = sym (rw t at (c.seek.ensures a.inputs.now a.formers.now)) ∙ c.in-Err.is in
    c.refuse.ensures ∙ ap rewound_of (not_found a.reader (reel_of a.counts a.rows.now a.inputs.now a.formers.now) a.tick _ e)
