-- `many::read_many` meets its contract. Assumes nothing.
use mathlib.Core.Path.{◌≡◌, sym, ◌∙◌}
use mathlib.Core.Bool.{Bool, ◌&&◌, and-eq-true_iff}
use Rattle.state.specs.State.{good_reader, good_scalars, good_entries}
use Rattle.teams.specs.Teams.{good_teams, good_team_reader}
use Rattle.teams.specs.declared.TeamReader.{TeamReader}
use Rattle.many.proofs.Edges.{room_there, bad_reader, closed_reader, open_reader}
use Rattle.many.proofs.read_many.Goals as goal

-- what is tested of the reader
tested : (r : TeamReader) (all reader scalars entries teams : Bool) → all ≡ (reader && teams) → reader ≡ (scalars && entries)
    → scalars ≡ good_scalars r.reader.scalars → entries ≡ good_entries r.reader.entries → teams ≡ good_teams r.teams → good_team_reader r ≡ all
unfolding good_team_reader good_reader
tested r all reader scalars entries teams e f g h k = rw (e, f, g, h, k)

pub returns-then-not-both : goal.returns-then-not-both
returns-then-not-both c =
    let a = c.args in
    let t = tested a.reader _ _ _ _ _ c.both-2.ensures c.both.ensures c.good_scalars.ensures c.good_entries.ensures c.good_teams.ensures in
    rw c.unread.ensures (bad_reader _ a.reader a.window.now a.last a.rows.now a.tens.now (t ∙ c.if-not-both.true))

pub returns-then-is_closed : goal.returns-then-is_closed
returns-then-is_closed c =
    let a = c.args in
    let t = tested a.reader _ _ _ _ _ c.both-2.ensures c.both.ensures c.good_scalars.ensures c.good_entries.ensures c.good_teams.ensures in
    rw c.unread-then-is_closed.ensures
    (closed_reader _ a.reader a.window.now a.last a.rows.now a.tens.now (t ∙ c.if-not-both.false) (sym c.is_closed.ensures ∙ c.if-is_closed.true))

pub read_good-requires : goal.read_good-requires
unfolding good_team_reader
read_good-requires c =
    let r = c.args.reader in
    let t = tested r _ _ _ _ _ c.both-2.ensures c.both.ensures c.good_scalars.ensures c.good_entries.ensures c.good_teams.ensures in
    (((and-eq-true_iff (good_reader r.reader) (good_teams r.teams)).0 (t ∙ c.if-not-both.false)).0, room_there _ _ _ c.room_for-free.ensures)

pub returns : goal.returns
returns c =
    let a = c.args in
    let t = tested a.reader _ _ _ _ _ c.both-2.ensures c.both.ensures c.good_scalars.ensures c.good_entries.ensures c.good_teams.ensures in
    open_reader a.reader a.window.now a.last a.rows.now a.tens.now _ _ _ _ c.room_for-free.ensures (t ∙ c.if-not-both.false)
    (sym c.is_closed.ensures ∙ c.if-is_closed.false) c.read_good.ensures
