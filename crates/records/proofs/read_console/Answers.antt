-- `records::read_console` meets its contract. Assumes nothing.
use mathlib.Core.Path.{◌≡◌, refl}
use mir.Syntax.{w32}
use mir.Val.{to_z, of_z}
use Rattle.records.proofs.Commands.{no_head, command_rest}
use borrow.Author.Rules.{rules}
use Rattle.records.proofs.read_console.Goals as goal

pub returns-in_default : goal.returns-in_default
returns-in_default c =
    let h = c in
    let a = h.args in
    rw c.alone.ensures
    (record {
      values = no_head a.s.now a.at h.read_head.result h.read_head.ensures c.in_default.is;
      tidy = refl;
    })

pub returns : goal.returns
returns c =
    let r = c in
    let h = r in
    let a = h.args in
    let k : to_z w32 (of_z w32 r.in-Got.cid) ≡ r.in-Got.cid = search rules in
    rw (c.command.ensures, k)
    (command_rest a.s.now a.at h.read_head.result h.read_head.ensures r.in-Got.cid r.in-Got.flag_mask r.in-Got.cmd r.in-Got.next r.in-Got.is
    r.read_args-read.result r.read_args-read.ensures)
