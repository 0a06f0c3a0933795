use Rattle.std.proofs.Common.{◌≡◌, ℕ, not, List, [], ◌∷◌, eqb, refl, ap, ◌∙◌, sym}
use Rattle.std.specs.List.{list_any}
use Rattle.num.proofs.Cases.{by_bool}
use Rattle.packer.specs.Texts.{no_zero}
use Rattle.text_writer.proofs.no_zero.Goals as goal

contains_is : (b : List ℕ) → no_zero b ≡ not (list_any (λ y. eqb y 0) b)
unfolding no_zero
contains_is [] = refl
contains_is (x ∷ b) = by_bool (eqb x 0) (λ t. rw t) (λ t. rw t (contains_is b))

pub returns : goal.returns
returns c = ap not c.contains.ensures.value ∙ sym (contains_is c.args.b.now)
