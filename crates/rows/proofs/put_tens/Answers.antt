-- `rows::put_tens` meets its contract. Assumes nothing.
use Prim.Native.Nat.{◌+◌, ◌*◌}
use mathlib.Core.Path.{◌≡◌, ap, ◌∙◌}
use mathlib.Core.List.{List}
use native.Mathlib.Omega.{arith}
use lib.ListN.{length}
use lib.IntN.{ℤ}
use borrow.Author.Rules.{rules}
use Rattle.rows.specs.Rows.{put}
use Rattle.rows.proofs.Puts.{put_put}
use Rattle.rows.proofs.put_tens.Goals as goal

pub returns : goal.returns
returns c =
    let st = c in
    let a = st.args in
    let h : length a.input ≡ 10 = search rules in
    c.put_ten-2.ensures
    ∙ ap (λ (l : List ℤ). put l (20 * a.i + 10) a.former) c.put_ten.ensures
    ∙ put_put a.tens.now (20 * a.i) 10 a.input a.former h (omega (arith, st.requires))
