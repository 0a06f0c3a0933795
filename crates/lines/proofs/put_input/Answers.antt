-- `lines::put_input` meets its contract. Assumes nothing.
use Prim.Native.Nat.{◌+◌, ◌≤◌}
use mathlib.Core.Path.{◌≡◌}
use mathlib.Core.List.{◌++◌}
use lib.ListN.{length}
use mir.Syntax.{w32}
use mir.Val.{to_z, of_z}
use mir.Facts.{to_z-of_z}
use Rattle.lines.specs.Lines.{spaced, decimals, newline, input_word}
use Rattle.lines.proofs.Texts.{number_fits, rest_fits, rest_put, input_fits, input_parts}
use Rattle.lines.proofs.put_input.Goals as goal
use Rattle.lines.proofs.put_input.Goals.{After-put_end-arg-1, After-put_spaced-arg-1, After-slice_known-4-1}

-- the client is read back from its bits
client_is : (c : After-put_spaced-arg-1) → to_z w32 (of_z w32 c.args.cid) ≡ c.args.cid
client_is c = to_z-of_z {w = w32} {z = c.args.cid} c.ranges.cid

fits : (c : After-put_spaced-arg-1)
    → c.args.at + length ((input_word ++ spaced c.args.cid) ++ (decimals c.args.ten.now ++ newline)) ≤ length c.args.out.now
fits c =
    input_fits c.args.cid c.args.ten.now c.args.at (length c.args.out.now) c.requires

pub put_spaced-b-requires : goal.put_spaced-b-requires
put_spaced-b-requires c =
    let w = c in
    let s = w in
    let a = s.args in
    rw (client_is s) (number_fits a.out.now a.at input_word a.cid (decimals a.ten.now ++ newline) (fits s) _ _ w.put_word-a.ensures)

-- the client is read back from its bits
client_is_2 : (c : After-put_end-arg-1) → to_z w32 (of_z w32 c.args.cid) ≡ c.args.cid
client_is_2 c = to_z-of_z {w = w32} {z = c.args.cid} c.ranges.cid

fits_2 : (c : After-put_end-arg-1)
    → c.args.at + length ((input_word ++ spaced c.args.cid) ++ (decimals c.args.ten.now ++ newline)) ≤ length c.args.out.now
fits_2 c =
    input_fits c.args.cid c.args.ten.now c.args.at (length c.args.out.now) c.requires

pub put_end-requires : goal.put_end-requires
put_end-requires c =
    let p = c in
    let w = p in
    let s = w in
    let a = s.args in
    rest_fits a.out.now a.at input_word a.cid (decimals a.ten.now ++ newline) (fits_2 s) _ _ w.put_word-a.ensures _ _
    (rw (client_is_2 s) at p.put_spaced-b.ensures)

-- the client is read back from its bits
client_is_3 : (c : After-slice_known-4-1) → to_z w32 (of_z w32 c.args.cid) ≡ c.args.cid
client_is_3 c = to_z-of_z {w = w32} {z = c.args.cid} c.ranges.cid

fits_3 : (c : After-slice_known-4-1)
    → c.args.at + length ((input_word ++ spaced c.args.cid) ++ (decimals c.args.ten.now ++ newline)) ≤ length c.args.out.now
fits_3 c =
    input_fits c.args.cid c.args.ten.now c.args.at (length c.args.out.now) c.requires

pub returns : goal.returns
returns c =
    let p = c in
    let w = p in
    let s = w in
    let a = s.args in
    rest_put a.out.now a.at input_word a.cid (decimals a.ten.now ++ newline) (fits_3 s) _ _ w.put_word-a.ensures _ _
    (rw (client_is_3 s) at p.put_spaced-b.ensures) _ (input_parts a.cid a.ten.now) _ _ c.put_end.ensures
