use Rattle.std.proofs.Common.{ℕ, ◌<◌, get_or, sym, ◌∙◌, ap, arith}
use borrow.Author.Tests.{ne_eqb}
use Rattle.ids.specs.declared.Halves.{Halves}
use Rattle.ids.proofs.ByHalves.{first_differs, second_tells}
use Rattle.ids.proofs.same_bytes.Goals as goal

pub returns-then-word-id : goal.returns-then-word-id
returns-then-word-id c =
    let a = c.args in
    let g : (i : ℕ) → get_or a.s.now i 0 < 256 = λ i. omega (arith, c.type_inv.s i) in
    λ xs six e.
    second_tells a.s.now g a.at c.requires xs six (sym c.word.ensures ∙ c.if-word-id.true ∙ ap (λ (h : Halves). h.first) e)
    c.word-then-word-id.result a.id.second c.word-then-word-id.ensures (ap (λ (h : Halves). h.second) e)

pub returns-else-word-id : goal.returns-else-word-id
returns-else-word-id c =
    let a = c.args in
    let g : (i : ℕ) → get_or a.s.now i 0 < 256 = λ i. omega (arith, c.type_inv.s i) in
    λ xs six e.
    ne_eqb _ _ c.if-word-id.false
    ∙ sym (first_differs a.s.now g a.at c.requires xs six (λ q. c.if-word-id.false (c.word.ensures ∙ q ∙ sym (ap (λ (h : Halves). h.first) e))))
