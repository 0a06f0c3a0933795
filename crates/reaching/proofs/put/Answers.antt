-- `reaching::put` meets its contract. Assumes nothing.
use Rattle.reaching.proofs.Putting.{put_none, put_past, never_refused}
use Rattle.reaching.proofs.put.Goals as goal

pub returns-in_default : goal.returns-in_default
returns-in_default c = let a = c.args in put_none a.version a.choice a.out.now a.at c.requires c.in_default.is

pub returns-in_default-write_record : goal.returns-in_default-write_record
returns-in_default-write_record c =
    let a = c.args in
    never_refused a.version a.choice c.in-Some.value c.in-Some.is a.out.now a.at c.requires
    _ _
    c.write_record.ensures
    _
    c.in_default-write_record.is

pub returns : goal.returns
returns c =
    let a = c.args in
    put_past a.version a.choice c.in-Some.value c.in-Some.is a.out.now a.at c.requires
    _ _
    c.write_record.ensures
    _
    c.in-Ok.is
