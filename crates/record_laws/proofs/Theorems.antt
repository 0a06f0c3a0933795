-- The statements of specs/Laws.antt. Assumes nothing.
use Rattle.record_laws.specs.Laws as laws
use Rattle.record_laws.proofs.Trips as trips
use Rattle.record_laws.proofs.Determined as determined
use Rattle.record_laws.proofs.Refusals as refusals

pub written_called : laws.WrittenCalled
written_called = trips.written_called

pub called_written : laws.CalledWritten
called_written = trips.called_written

pub call_determined : laws.CallDetermined
call_determined = determined.call_determined

pub write_determined : laws.WriteDetermined
write_determined = determined.write_determined

pub record_refuses : laws.RecordRefuses
record_refuses = refusals.record_refuses

pub three_to_seven_or_21 : laws.ThreeToSevenOr21
three_to_seven_or_21 = refusals.three_to_seven_or_21
