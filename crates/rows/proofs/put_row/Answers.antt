-- `rows::put_row` meets its contract. Assumes nothing.
use Prim.Native.Nat.{◌*◌}
use Rattle.state.proofs.Numbers.{back}
use Rattle.rows.proofs.Puts.{eight_sets}
use Rattle.rows.proofs.put_row.Goals as goal

pub returns : goal.returns
returns c =
    let p = c.args in
    let f = c.ranges in
    rw (back p.event f.event, back p.used f.used, back p.a f.a, back p.b f.b, back p.c f.c, back p.d f.d, back p.e f.e)
    (eight_sets p.rows.now (8 * p.i) p.event p.used p.a p.b p.c p.d p.e _ c.requires)
