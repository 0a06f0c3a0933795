-- `lines::put_record` meets its contract. Assumes nothing.
use Prim.Native.Nat.{◌+◌, ◌≤◌}
use mathlib.Core.Path.{◌≡◌}
use mathlib.Core.List.{◌++◌}
use native.Mathlib.Omega.{arith}
use borrow.Author.Rules.{rules}
use lib.ListN.{length}
use mir.Syntax.{w32}
use mir.Val.{to_z, of_z}
use mir.Facts.{to_z-of_z}
use Rattle.lines.specs.Lines.{spaced, record_word}
use Rattle.lines.proofs.Texts.{
  line_fits,
  same_text,
  number_fits,
  rest_fits,
  rest_put,
  no_client,
  no_client_fits,
  no_client_parts,
  client_parts,
}
use Rattle.lines.proofs.put_record.Goals as goal
use Rattle.lines.proofs.put_record.Goals.{After-put_spaced-arg-1, After-put_word-arg-in-None-5-1, After-slice_known-in-None-3-1, After-slice_known-in-Some-1}

pub put_line-requires : goal.put_line-requires
put_line-requires c =
    let s = c in
    line_fits record_word _ s.args.at _ s.requires (omega arith)

-- the kind's number is read back from its bits
number_is : (c : After-slice_known-in-Some-1) → to_z w32 (of_z w32 c.args.number) ≡ c.args.number
number_is c = to_z-of_z {w = w32} {z = c.args.number} c.ranges.number

pub returns-in-Some : goal.returns-in-Some
returns-in-Some c =
    let g = c in
    let s = g in
    let u : to_z w32 (of_z w32 g.in-Some.client) ≡ g.in-Some.client = search rules in
    rw g.in-Some.is
    (same_text s.args.out.now s.args.at _ _ (client_parts s.args.number g.in-Some.client) _ _
    (rw (number_is s, u) at c.put_line.ensures))

-- the kind's number is read back from its bits
number_is_2 : (c : After-put_spaced-arg-1) → to_z w32 (of_z w32 c.args.number) ≡ c.args.number
number_is_2 c = to_z-of_z {w = w32} {z = c.args.number} c.ranges.number

-- ---- with no client
fits : (c : After-put_spaced-arg-1) → c.args.at + length ((record_word ++ spaced c.args.number) ++ no_client) ≤ length c.args.out.now
fits s = no_client_fits s.args.number s.args.at (length s.args.out.now) s.requires

pub put_spaced-b-requires : goal.put_spaced-b-requires
put_spaced-b-requires c =
    let w = c in
    let s = w in
    let a = s.args in
    rw (number_is_2 s) (number_fits a.out.now a.at record_word a.number no_client (fits s) _ _ w.put_word-a.ensures)

-- the kind's number is read back from its bits
number_is_3 : (c : After-put_word-arg-in-None-5-1) → to_z w32 (of_z w32 c.args.number) ≡ c.args.number
number_is_3 c = to_z-of_z {w = w32} {z = c.args.number} c.ranges.number

-- ---- with no client
fits_2 : (c : After-put_word-arg-in-None-5-1) → c.args.at + length ((record_word ++ spaced c.args.number) ++ no_client) ≤ length c.args.out.now
fits_2 s = no_client_fits s.args.number s.args.at (length s.args.out.now) s.requires

pub put_word-requires : goal.put_word-requires
put_word-requires c =
    let p = c in
    let w = p in
    let s = w in
    let a = s.args in
    rest_fits a.out.now a.at record_word a.number no_client (fits_2 s) _ _ w.put_word-a.ensures _ _
    (rw (number_is_3 s) at p.put_spaced-b.ensures)

-- the kind's number is read back from its bits
number_is_4 : (c : After-slice_known-in-None-3-1) → to_z w32 (of_z w32 c.args.number) ≡ c.args.number
number_is_4 c = to_z-of_z {w = w32} {z = c.args.number} c.ranges.number

-- ---- with no client
fits_3 : (c : After-slice_known-in-None-3-1) → c.args.at + length ((record_word ++ spaced c.args.number) ++ no_client) ≤ length c.args.out.now
fits_3 s = no_client_fits s.args.number s.args.at (length s.args.out.now) s.requires

pub returns-in-None : goal.returns-in-None
returns-in-None c =
    let p = c in
    let w = p in
    let t = w in
    let s = t in
    let a = s.args in
    rw t.in-None.is
    (rest_put a.out.now a.at record_word a.number no_client (fits_3 s) _ _ w.put_word-a.ensures _ _
    (rw (number_is_4 s) at p.put_spaced-b.ensures) _ (no_client_parts a.number) _ _ c.put_word.ensures)
