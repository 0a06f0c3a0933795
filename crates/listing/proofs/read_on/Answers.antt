-- `listing::read_on` meets its contract. Assumes nothing.
use mathlib.Core.Path.{◌≡◌, sym, ◌∙◌}
use mathlib.Core.Bool.{Bool, ◌&&◌}
use native.Mathlib.Omega.{arith}
use Rattle.state.specs.State.{good_reader, good_scalars, good_entries}
use Rattle.state.specs.declared.Reader.{Reader}
use Rattle.listing.proofs.Edges.{bad_reader, closed_reader}
use Rattle.listing.proofs.read_on.Goals as goal

-- what is tested of the reader
tested : (r : Reader) (all scalars entries : Bool) → all ≡ (scalars && entries) → scalars ≡ good_scalars r.scalars → entries ≡ good_entries r.entries
    → good_reader r ≡ all
unfolding good_reader
tested r all scalars entries e f g = rw (e, f, g)

pub returns-then-not-both : goal.returns-then-not-both
returns-then-not-both c =
    let a = c.args in
    let t = tested a.reader _ _ _ c.both.ensures c.good_scalars.ensures c.good_entries.ensures in
    c.unread.ensures ∙ bad_reader a.list a.reader a.window.now a.last (omega arith) (t ∙ c.if-not-both.true)

pub returns-then-is_closed : goal.returns-then-is_closed
returns-then-is_closed c =
    let a = c.args in
    let t = tested a.reader _ _ _ c.both.ensures c.good_scalars.ensures c.good_entries.ensures in
    c.unread-then-is_closed.ensures
    ∙ closed_reader a.list a.reader a.window.now a.last (omega arith) (t ∙ c.if-not-both.false) (sym c.is_closed.ensures ∙ c.if-is_closed.true)

pub list_good-requires : goal.list_good-requires
list_good-requires c = tested c.args.reader _ _ _ c.both.ensures c.good_scalars.ensures c.good_entries.ensures ∙ c.if-not-both.false
