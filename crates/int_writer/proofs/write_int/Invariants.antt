-- The loop's invariant: the bytes still to come, stored from `i` on, make of the target what the whole number's bytes make of it.
use Rattle.std.proofs.Common.{◌≡◌, ◌+◌, ◌-◌, ◌^◌, ◌<◌, length}
use lib.Seq.{sets}
use Rattle.varint.specs.Written.{later_bytes}
use Rattle.int_writer.proofs.write_int.Given as goal

abbrev pub invariant-loop-i : goal.invariant-loop-i
invariant-loop-i l = record {
  same_length : length l.out ≡ length l.initial.out;
  below : l.rest < 128 ^ (l.at + 5 - l.i);
  left : l.i + length (later_bytes (l.at + 5 - l.i) l.rest) ≡ l.at + l.count;
  bytes : sets l.out l.i (later_bytes (l.at + 5 - l.i) l.rest) ≡ sets l.initial.out (l.at + 1) (later_bytes 4 l.initial.rest);
}
