-- `results::finish_in` meets its contract. Assumes nothing.
use mathlib.Core.Path.{◌≡◌, sym, ap, ◌∙◌}
use mathlib.Core.Bool.{Bool, cond}
use mathlib.Core.List.{[], ◌∷◌}
use borrow.Author.Rules.{rules}
use mir.Syntax.{w32}
use mir.Val.{to_z, of_z}
use Rattle.item.specs.declared.Tag.TheVariants.{Named}
use Rattle.results.specs.Results.{finish}
use Rattle.results.proofs.Finishes.{finish_told}
use Rattle.results.proofs.finish_in.Goals as goal

pub returns-then-is_player_finish : goal.returns-then-is_player_finish
returns-then-is_player_finish c k =
    let t = c.take_apart-t in
    let f = t.result.fields in
    let u : to_z w32 (of_z w32 f.first) ≡ f.first = search rules in
    let v : to_z w32 (of_z w32 f.second) ≡ f.second = search rules in
    rw (u, v)
    (ap (λ (x : Bool). cond x (finish f.first f.second k ∷ []) []) (sym c.if-is_player_finish.true ∙ c.is_player_finish.ensures)
    ∙ finish_told _ t.result (Named c.in-Named.which) t.ensures c.in-Named.is k)
