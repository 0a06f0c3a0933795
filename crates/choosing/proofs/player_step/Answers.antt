-- `choosing::player_step` meets its contract. Assumes nothing.
use mathlib.Core.Path.{sym, ◌∙◌}
use borrow.Author.Rules.{sfits_of}
use borrow.Author.Tests.{eq-eqb, ne_eqb}
use Rattle.state.proofs.Numbers.{back, element}
use Rattle.choosing.proofs.Forms.{none_chosen}
use Rattle.choosing.proofs.Places.{player_same, player_moves_law, player_leaves_law, player_comes_law, player_away, subtracted}
use Rattle.choosing.proofs.player_step.Goals as goal

pub returns-then-same_player : goal.returns-then-same_player
returns-then-same_player c =
    let a = c.args in
    player_same a.c a.p a.q _ (sym c.same_player.ensures ∙ c.if-same_player.true) none_chosen

pub returns-then-q-eq1 : goal.returns-then-q-eq1
returns-then-q-eq1 c =
    let a = c.args in
    let x = c.wrapping_sub in
    let y = c.wrapping_sub-then-q-eq1 in
    player_moves_law a.c a.p a.q _ (sym c.same_player.ensures ∙ c.if-same_player.false)
    (eq-eqb a.p.mark 1 c.if-p-eq1.true)
    (eq-eqb a.q.mark 1 c.if-q-eq1.true)
    _ _ _
    (back c.number-cid.result (sfits_of c.number-cid.type_inv) ∙ c.number-cid.ensures)
    (subtracted a.q.x a.p.x x.result c.struct_told-1.given.1.0.1 c.struct_told-then-q-eq1-1.given.1.0.1 x.ensures.fits_signed x.ensures.value)
    (subtracted a.q.y a.p.y y.result c.struct_told-1.given.1.1.0.1 c.struct_told-then-q-eq1-1.given.1.1.0.1 y.ensures.fits_signed y.ensures.value)
    c.plain.ensures

pub returns-then-p-eq1 : goal.returns-then-p-eq1
returns-then-p-eq1 c =
    let a = c.args in
    player_leaves_law a.c a.p a.q _ (sym c.same_player.ensures ∙ c.if-same_player.false)
    (eq-eqb a.p.mark 1 c.if-p-eq1.true)
    (ne_eqb a.q.mark 1 c.if-q-eq1.false)
    _
    (back c.number-cid.result (sfits_of c.number-cid.type_inv) ∙ c.number-cid.ensures)
    c.plain-then-p-eq1.ensures

pub returns-then-q-eq1-2 : goal.returns-then-q-eq1-2
returns-then-q-eq1-2 c =
    let a = c.args in
    player_comes_law a.c a.p a.q _ (sym c.same_player.ensures ∙ c.if-same_player.false)
    (ne_eqb a.p.mark 1 c.if-p-eq1.false)
    (eq-eqb a.q.mark 1 c.if-q-eq1-2.true)
    _ _ _
    (back c.number-cid.result (sfits_of c.number-cid.type_inv) ∙ c.number-cid.ensures)
    (element a.q.x c.struct_told-then-q-eq1-2-2-1.given.1.0.1)
    (element a.q.y c.struct_told-then-q-eq1-2-2-1.given.1.1.0.1)
    c.plain-then-q-eq1-2.ensures

pub returns : goal.returns
returns c =
    let a = c.args in
    player_away a.c a.p a.q _ (sym c.same_player.ensures ∙ c.if-same_player.false)
    (ne_eqb a.p.mark 1 c.if-p-eq1.false)
    (ne_eqb a.q.mark 1 c.if-q-eq1-2.false)
    none_chosen
