-- `item::Item::cid` meets its contract. Assumes nothing.
use Rattle.std.specs.Prelude.{Some, None}
use mathlib.Core.Path.{◌≡◌, sym, ap, ◌∙◌}
use mathlib.Core.Bool.{Bool, true, false, cond}
use borrow.Author.Rules.{rules}
use mir.Syntax.{w32}
use mir.Val.{to_z, of_z}
use Rattle.item.specs.Contents.{item_of, cid_of}
use Rattle.kinds.specs.Kinds.{kind_cid}
use Rattle.item.specs.declared.Tag.TheVariants.{Plain, Named, Other}
use Rattle.item.proofs.Apart.{cid_told_law}
use Rattle.item.proofs.Item.cid.Goals as goal
use Rattle.item.proofs.Item.cid.Goals.{Then-has_client}

-- an extension, by what `has_client` answers
named : (c : Then-has_client) (b : Bool) → c.has_client.result ≡ b
    → cond b (Some c.take_apart-t.result.fields.first) None
    ≡ cid_of (item_of c.args.self)
named c b e =
    let t = c.take_apart-t in
    ap (λ (x : Bool). cond x (Some t.result.fields.first) None) (sym e ∙ c.has_client.ensures)
    ∙ cid_told_law _ t.result (Named c.in-Named.which) t.ensures c.in-Named.is

pub returns-then-has_client : goal.returns-then-has_client
returns-then-has_client c =
    let t = c.take_apart-t in
    let u : to_z w32 (of_z w32 t.result.fields.first) ≡ t.result.fields.first = search rules in
    ap Some u ∙ named c true c.if-has_client.true
