-- `record_writer::write_piece` meets its contract. Assumes nothing.
use Rattle.packer.proofs.Joined.{put_answer}
use Rattle.extensions.specs.Extensions.{id_at}
use Rattle.record_writer.proofs.Puts.{put_none}
use Rattle.record_writer.proofs.write_piece.Goals as goal

pub returns-in-Empty : goal.returns-in-Empty
returns-in-Empty c =
    let d = c in
    record {
      answer = rw c.in-Empty.is (put_none d.args.out.now d.args.at (rw c.in-Empty.is at d.requires).1).0;
      target = rw c.in-Empty.is (put_none d.args.out.now d.args.at (rw c.in-Empty.is at d.requires).1).1;
    }

pub returns-in-Id : goal.returns-in-Id
returns-in-Id c =
    let d = c in
    record {
      answer = rw c.in-Id.is (put_answer d.args.out.now d.args.at (id_at c.in-Id.which) (rw c.in-Id.is at d.requires).1 _ _ c.put_id.ensures).0;
      target = rw c.in-Id.is (put_answer d.args.out.now d.args.at (id_at c.in-Id.which) (rw c.in-Id.is at d.requires).1 _ _ c.put_id.ensures).1;
    }
