-- `rewinding::seek` meets its contract. Assumes nothing.
use mathlib.Core.List.{[]}
use borrow.Author.Rules.{rules}
use Rattle.back.proofs.Cases.{Same}
use Rattle.reel.specs.Reel.{reel_of}
use Rattle.rewinding.specs.Rewinding.{newer, gone}
use Rattle.rewinding.proofs.Rewinds.{tested, bad, in_room, refused_reader_law, searched}
use Rattle.rewinding.proofs.seek.Goals as goal

pub returns-then-not-both : goal.returns-then-not-both
returns-then-not-both c =
    let a = c.args in
    let flag =
    tested a.reader a.counts _ _ _ _ _ _ _ c.good_scalars.ensures c.good_entries.ensures c.both.ensures c.good_teams.ensures c.both-2.ensures
    c.good_counts.ensures c.both-3.ensures in
    λ inputs formers. bad a.reader (reel_of a.counts a.rows.now inputs formers) a.tick _ flag c.if-not-both.true

pub returns-then-closed_by_refusal : goal.returns-then-closed_by_refusal
returns-then-closed_by_refusal c =
    let a = c.args in
    let flag =
    tested a.reader a.counts _ _ _ _ _ _ _ c.good_scalars.ensures c.good_entries.ensures c.both.ensures c.good_teams.ensures c.both-2.ensures
    c.good_counts.ensures c.both-3.ensures in
    λ inputs formers.
    refused_reader_law a.reader (reel_of a.counts a.rows.now inputs formers) a.tick _ flag c.if-not-both.false _
    c.closed_by_refusal.ensures c.if-closed_by_refusal.true

pub find_start-requires : goal.find_start-requires
find_start-requires c =
    let a = c.args in
    let flag =
    tested a.reader a.counts _ _ _ _ _ _ _ c.good_scalars.ensures c.good_entries.ensures c.both.ensures c.good_teams.ensures c.both-2.ensures
    c.good_counts.ensures c.both-3.ensures in
    in_room a.reader (reel_of a.counts a.rows.now [] []) a.tick _ flag c.if-not-both.false

pub returns-in-Some : goal.returns-in-Some
returns-in-Some c =
    let a = c.args in
    let t : Same a.tick = search rules in
    let flag =
    tested a.reader a.counts _ _ _ _ _ _ _ c.good_scalars.ensures c.good_entries.ensures c.both.ensures c.good_teams.ensures c.both-2.ensures
    c.good_counts.ensures c.both-3.ensures in
    λ inputs formers.
    searched a.reader (reel_of a.counts a.rows.now inputs formers) a.tick _ flag c.if-not-both.false _
    c.closed_by_refusal.ensures c.if-closed_by_refusal.false (newer _)
    (rw (c.in-Some.is, t) at (c.find_start.ensures inputs formers))

pub returns-in-None : goal.returns-in-None
returns-in-None c =
    let a = c.args in
    let t : Same a.tick = search rules in
    let flag =
    tested a.reader a.counts _ _ _ _ _ _ _ c.good_scalars.ensures c.good_entries.ensures c.both.ensures c.good_teams.ensures c.both-2.ensures
    c.good_counts.ensures c.both-3.ensures in
    λ inputs formers.
    searched a.reader (reel_of a.counts a.rows.now inputs formers) a.tick _ flag c.if-not-both.false _
    c.closed_by_refusal.ensures c.if-closed_by_refusal.false gone
    (rw (c.in-None.is, t) at (c.find_start.ensures inputs formers))
