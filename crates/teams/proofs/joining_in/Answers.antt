-- `teams::joining_in` meets its contract. Assumes nothing.
use mathlib.Core.Path.{◌≡◌, sym, ap, ◌∙◌}
use mathlib.Core.Bool.{Bool, true, cond}
use borrow.Author.Rules.{rules}
use mir.Syntax.{w32}
use mir.Val.{to_z, of_z}
use Rattle.item.specs.Contents.{item_of}
use Rattle.item.specs.declared.Tag.TheVariants.{Named}
use Rattle.teams.specs.Teams.{joins, nobody, joining_in}
use Rattle.teams.proofs.Joins.{joining_told}
use Rattle.teams.proofs.joining_in.Goals as goal
use Rattle.teams.proofs.joining_in.Goals.{Then-is_player_team}

-- an extension, by what `is_player_team` answers
named : (c : Then-is_player_team) (b : Bool) → c.is_player_team.result ≡ b
    → let f = c.take_apart-t.result.fields in
    cond b (joins f.first f.second) nobody ≡ joining_in (item_of c.args.item)
named c b e =
    let t = c.take_apart-t in
    ap (λ (x : Bool). cond x (joins t.result.fields.first t.result.fields.second) nobody) (sym e ∙ c.is_player_team.ensures)
    ∙ joining_told _ t.result (Named c.in-Named.which) t.ensures c.in-Named.is

pub returns-then-is_player_team : goal.returns-then-is_player_team
returns-then-is_player_team c =
    let f = c.take_apart-t.result.fields in
    let u : to_z w32 (of_z w32 f.first) ≡ f.first = search rules in
    let v : to_z w32 (of_z w32 f.second) ≡ f.second = search rules in
    rw (u, v) (named c true c.if-is_player_team.true)
