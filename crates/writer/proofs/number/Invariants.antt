-- What is to be written over the bytes of the beginning is what is still to be written over those of now.
use Rattle.std.proofs.Common.{◌≡◌}
use Rattle.writer.specs.Writing.{be, over}
use Rattle.writer.proofs.number.Given as goal

abbrev pub invariant-loop-i : goal.invariant-loop-i
invariant-loop-i l = over l.at (be l.width l.v) l.initial.buf ≡ over l.at (be l.i l.rest) l.buf
