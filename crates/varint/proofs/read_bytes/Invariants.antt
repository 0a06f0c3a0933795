-- The loop's invariant: what is left to read, from the sum so far, is the answer.
use Rattle.std.proofs.Common.{◌≡◌, ◌+◌, ◌<◌, drop}
use Rattle.varint.specs.Integers.{read_from, read_int}
use Rattle.varint.proofs.Laws.{limit}
use Rattle.varint.proofs.read_bytes.Given as goal

abbrev pub invariant-loop-k : goal.invariant-loop-k
invariant-loop-k l =
    (l.k < 5) × (l.n < limit l.k) × (read_int l.s l.at ≡ read_from (drop (l.at + l.k) l.s) l.at l.k l.sign l.n)
