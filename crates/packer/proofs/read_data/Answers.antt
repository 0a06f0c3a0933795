-- `packer::read_data` meets its contract. Assumes nothing.
use Rattle.std.specs.Prelude.{Option}
use Prim.Native.Nat.{ℕ}
use mathlib.Core.Path.{◌≡◌, sym, ◌∙◌, ap}
use mathlib.Core.Bool.{false}
use mathlib.Core.List.{List}
use lib.IntN.{ℤ, pos, nat_abs}
use lib.Signed.{lt_z}
use borrow.Author.Rules.{rules}
use mir.Syntax.{w32}
use mir.Val.{SFits, to_z, of_z}
use Rattle.varint.specs.Integers.{read_int}
use Rattle.varint.specs.declared.Remark.{Remark}
use Rattle.varint.specs.declared.IntRead.TheVariants as ints
use Rattle.packer.specs.Parts.{read_raw, as_data, data_after, data_of, read_data}
use Rattle.packer.specs.declared.PartRead.{PartRead}
use Rattle.packer.specs.declared.PartRead.TheVariants as parts
use Rattle.num.proofs.Signs.{below_zero, not_below_zero, read_back}
use Rattle.packer.proofs.read_data.Goals as goal
use Rattle.packer.proofs.read_data.Goals.{In-Got-read_raw, In_default-read_raw}

pub returns-in_default : goal.returns-in_default
unfolding read_data
returns-in_default c =
    ap (data_after c.args.s.now) (sym c.in_default.is ∙ c.read_int.ensures)

pub returns-then-value-lt0 : goal.returns-then-value-lt0
unfolding read_data
returns-then-value-lt0 c =
    let s = c.args.s.now in
    let h : SFits w32 c.in-Got.value = search rules in
    ap (λ z. data_of s z c.in-Got.at_part) (sym (below_zero c.in-Got.value h c.if-value-lt0.true))
    ∙ ap (data_after s) (sym c.in-Got.is ∙ c.read_int.ensures)

-- so many bytes behind a length that isn't negative
data_raw : (s : List ℕ) (at m : ℕ) (z : ℤ) (remark : Option Remark) → SFits w32 z → lt_z (to_z w32 (of_z w32 z)) (pos 0) ≡ false
    → ints.Got z m remark ≡ read_int s at → (x : PartRead) → x ≡ read_raw (nat_abs (to_z w32 (of_z w32 z))) s m → as_data x ≡ read_data s at
unfolding read_data
data_raw s at m z remark h left i x e =
    ap as_data (rw (read_back z h left) at e)
    ∙ ap (λ y. data_of s y m) (sym (not_below_zero z h left))
    ∙ ap (data_after s) i

after : (c : In_default-read_raw) (x : PartRead) → c.read_raw.result ≡ x
    → as_data x ≡ read_data c.args.s.now c.args.at
after c x e =
    let i = c in
    let a = i.args in
    data_raw a.s.now a.at c.in-Got.at_part c.in-Got.value c.in-Got.remark (search rules) c.if-value-lt0.false (sym c.in-Got.is ∙ i.read_int.ensures) x
    (sym e ∙ c.read_raw.ensures)

pub returns-in_default-read_raw : goal.returns-in_default-read_raw
returns-in_default-read_raw c = after c parts.RunsOut c.in_default-read_raw.is

after_2 : (c : In-Got-read_raw) (x : PartRead) → c.read_raw.result ≡ x
    → as_data x ≡ read_data c.args.s.now c.args.at
after_2 c x e =
    let i = c in
    let a = i.args in
    data_raw a.s.now a.at c.in-Got.at_part c.in-Got.value c.in-Got.remark (search rules) c.if-value-lt0.false (sym c.in-Got.is ∙ i.read_int.ensures) x
    (sym e ∙ c.read_raw.ensures)

pub returns : goal.returns
returns c = after_2 c (parts.Got c.in-Got-read_raw.part c.in-Got-read_raw.next) c.in-Got-read_raw.is
