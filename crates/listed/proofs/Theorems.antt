-- The statements of specs/Laws.antt. Assumes nothing.
use Rattle.listed.specs.Laws.{OpenTick, BesideIsWhole, BodyEnds, FinishesInBytes, RefusedListed}
use Rattle.listed.proofs.Ticks as ticks
use Rattle.listed.proofs.Windows as windows
use Rattle.listed.proofs.Refused as refused
use Rattle.listed.proofs.Bodies as bodies

pub open_tick : OpenTick
open_tick = ticks.open_tick

pub beside_is_whole : BesideIsWhole
beside_is_whole = windows.beside_is_whole

pub body_ends : BodyEnds
body_ends = refused.body_ends

pub finishes_in_bytes : FinishesInBytes
finishes_in_bytes = bodies.finishes_in_bytes

pub refused_listed : RefusedListed
refused_listed = refused.refused_listed
