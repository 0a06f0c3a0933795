-- `ids::id_byte` meets its contract. Assumes nothing.
use Prim.Native.Nat.{ℕ, ◌+◌, ◌-◌, ◌/◌, ◌%◌, ◌^◌}
use mathlib.Core.Path.{◌≡◌, sym, ap, ◌∙◌}
use native.Mathlib.Omega.{arith}
use lib.ListN.{get_or, get_or-eq_default}
use Rattle.extensions.specs.Extensions.{id_at}
use Rattle.ids.specs.declared.Halves.{Halves}
use Rattle.ids.proofs.ByHalves.{first_byte, second_byte}
use Rattle.ids.proofs.Table.{id_passes, id_length}
use Rattle.ids.proofs.id_byte.Goals as goal

pub returns-then-i-ge16 : goal.returns-then-i-ge16
returns-then-i-ge16 c =
    let a = c.args in
    sym (get_or-eq_default (id_at a.which) 0 (omega (arith, id_length a.which)))

pub returns-then-i-lt8 : goal.returns-then-i-lt8
returns-then-i-lt8 c =
    let h = c in
    let a = h.args in
    c.byte_of.ensures
    ∙ ap (λ (x : Halves). x.first / 256 ^ (7 - a.i) % 256) h.id_halves-id.ensures
    ∙ first_byte (id_at a.which) (id_passes a.which) a.i (omega arith)

pub returns : goal.returns
returns c =
    let h = c in
    let a = h.args in
    let e : 8 + (a.i - 8) ≡ a.i = omega arith in
    c.byte_of-2.ensures
    ∙ ap (λ (x : Halves). x.second / 256 ^ (7 - (a.i - 8)) % 256) h.id_halves-id.ensures
    ∙ second_byte (id_at a.which) (id_passes a.which) (a.i - 8) (omega arith)
    ∙ ap (λ (i : ℕ). get_or (id_at a.which) i 0) e
