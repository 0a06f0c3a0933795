-- `results::keep_event` meets its contract. Assumes nothing.
use mathlib.Core.Path.{◌≡◌, sym, ap, ◌∙◌}
use mathlib.Core.List.{[], ◌∷◌}
use borrow.Author.Rules.{rules}
use mir.Syntax.{w32}
use mir.Val.{SFits, to_z, of_z}
use Rattle.state.specs.Views.{event_is}
use Rattle.state.proofs.Numbers.{back, bits_are, client_is}
use Rattle.results.specs.Results.{Finish, finish, finish_of, results_with}
use Rattle.results.specs.steps.Keeps.{finish_is}
use Rattle.results.specs.declared.Results.{Results}
use Rattle.results.proofs.Keeping.{keeps_none, keeps_row, keeps_count}
use Rattle.results.proofs.keep_event.Goals as goal
use Rattle.results.proofs.keep_event.Goals.{After-count_other, After-keep_row, In_default}

abbrev listAt : In_default → Results
listAt st = let a = st.args in results_with a.marks.now a.times.now a.ticks.now a.others

pub returns-in_default : goal.returns-in_default
returns-in_default c =
    let st = c in
    let k = st.args.tick in
    keeps_none (listAt st) _ (sym (c.finish_of.ensures k) ∙ ap (finish_is k) c.in_default.is) st.ranges.others.fits

abbrev listAt_2 : After-keep_row → Results
listAt_2 st = let a = st.args in results_with a.marks.now a.times.now a.ticks.now a.others

-- the finish that `finish_of` tells of
abbrev finishAt : After-keep_row → Finish
finishAt c = finish c.in-Some.field-0.cid c.in-Some.field-0.time c.args.tick

found : (c : After-keep_row) → let a = c.args in finish_of a.tick (event_is a.event) ≡ finishAt c ∷ []
found c =
    let k = c.args.tick in
    sym (c.finish_of.ensures k) ∙ ap (finish_is k) c.in-Some.is

pub returns-then-bits-lt128 : goal.returns-then-bits-lt128
returns-then-bits-lt128 c =
    let at = c in
    let st = at in
    let b = at.bits-bits in
    let z = c.keep_row.new in
    let n = st.args.others in
    let s : SFits w32 at.in-Some.field-0.cid = search rules in
    let q = client_is at.in-Some.field-0.cid b.result s (bits_are at.in-Some.field-0.cid b.result s b.ensures) c.if-bits-lt128.true in
    let v : to_z w32 (of_z w32 at.in-Some.field-0.time) ≡ at.in-Some.field-0.time = search rules in
    keeps_row (listAt_2 st) (results_with z.marks z.times z.ticks n) _ (finishAt at) (found at)
    (rw q (rw (v, back st.args.tick st.ranges.tick) at (c.keep_row.ensures n))) st.ranges.others.fits

abbrev listAt_3 : After-count_other → Results
listAt_3 st = let a = st.args in results_with a.marks.now a.times.now a.ticks.now a.others

-- the finish that `finish_of` tells of
abbrev finishAt_2 : After-count_other → Finish
finishAt_2 c = finish c.in-Some.field-0.cid c.in-Some.field-0.time c.args.tick

found_2 : (c : After-count_other) → let a = c.args in finish_of a.tick (event_is a.event) ≡ finishAt_2 c ∷ []
found_2 c =
    let k = c.args.tick in
    sym (c.finish_of.ensures k) ∙ ap (finish_is k) c.in-Some.is

pub returns : goal.returns
returns c =
    let at = c in
    let u : to_z w32 (of_z w32 at.in-Some.field-0.cid) ≡ at.in-Some.field-0.cid = search rules in
    keeps_count (listAt_3 at) _ (finishAt_2 at) _ _ (found_2 at) (at.bits-bits.ensures ∙ ap (of_z w32) u)
    c.if-bits-lt128.false c.count_other.ensures
