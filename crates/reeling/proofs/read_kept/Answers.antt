-- `reeling::read_kept` meets its contract. Assumes nothing.
use mathlib.Core.Path.{◌≡◌, sym, ◌∙◌}
use mathlib.Core.Bool.{Bool, ◌&&◌}
use Rattle.state.specs.State.{good_reader, good_scalars, good_entries}
use Rattle.teams.specs.Teams.{good_teams, good_team_reader}
use Rattle.teams.specs.declared.TeamReader.{TeamReader}
use Rattle.reel.specs.Reel.{good_counts, reel_of}
use Rattle.reel.specs.declared.Counts.{Counts}
use Rattle.reeling.proofs.Edges.{both_true, bad_state_law, closed_reader, open_reader}
use Rattle.reeling.proofs.read_kept.Goals as goal

-- what is tested of reel and reader
tested : (k : Counts) (r : TeamReader) (all counts two reader scalars entries teams : Bool) → all ≡ (counts && two) → counts ≡ good_counts k
    → two ≡ (reader && teams) → reader ≡ (scalars && entries) → scalars ≡ good_scalars r.reader.scalars → entries ≡ good_entries r.reader.entries
    → teams ≡ good_teams r.teams → (good_counts k && good_team_reader r) ≡ all
unfolding good_team_reader good_reader
tested k r all counts two reader scalars entries teams e n f g h i j = rw (e, n, f, g, h, i, j)

pub returns-then-not-both : goal.returns-then-not-both
returns-then-not-both c =
    let a = c.args in
    let e =
    tested a.counts a.reader _ _ _ _ _ _ _ c.both-3.ensures c.good_counts.ensures c.both-2.ensures c.both.ensures c.good_scalars.ensures c.good_entries.ensures
    c.good_teams.ensures in
    rw c.unread.ensures
    (bad_state_law a.most a.reader (reel_of a.counts a.rows.now a.inputs.now a.formers.now) a.window.now a.last (e ∙ c.if-not-both.true))

pub returns-then-is_closed : goal.returns-then-is_closed
returns-then-is_closed c =
    let a = c.args in
    let e =
    tested a.counts a.reader _ _ _ _ _ _ _ c.both-3.ensures c.good_counts.ensures c.both-2.ensures c.both.ensures c.good_scalars.ensures c.good_entries.ensures
    c.good_teams.ensures in
    rw c.unread-then-is_closed.ensures
    (closed_reader a.most a.reader (reel_of a.counts a.rows.now a.inputs.now a.formers.now) a.window.now a.last (e ∙ c.if-not-both.false)
    (sym c.is_closed.ensures ∙ c.if-is_closed.true))

pub keep_good-requires : goal.keep_good-requires
unfolding good_team_reader
keep_good-requires c =
    let a = c.args in
    let e =
    tested a.counts a.reader _ _ _ _ _ _ _ c.both-3.ensures c.good_counts.ensures c.both-2.ensures c.both.ensures c.good_scalars.ensures c.good_entries.ensures
    c.good_teams.ensures in
    let g = both_true (good_counts a.counts) (good_team_reader a.reader) (e ∙ c.if-not-both.false) in
    ((both_true (good_reader a.reader.reader) (good_teams a.reader.teams) g.1).0, g.0)

pub returns : goal.returns
returns c =
    let a = c.args in
    let e =
    tested a.counts a.reader _ _ _ _ _ _ _ c.both-3.ensures c.good_counts.ensures c.both-2.ensures c.both.ensures c.good_scalars.ensures c.good_entries.ensures
    c.good_teams.ensures in
    open_reader a.most a.reader (reel_of a.counts a.rows.now a.inputs.now a.formers.now) a.window.now a.last (e ∙ c.if-not-both.false) _ _
    (sym c.is_closed.ensures ∙ c.if-is_closed.false) c.keep_good.ensures
