-- What is to be written over the bytes of the beginning is what is still to be written over those of now.
use Rattle.std.proofs.Common.{◌≡◌, ◌+◌, drop}
use Rattle.writer.specs.Writing.{over}
use Rattle.writer.proofs.bytes.Given as goal

abbrev pub invariant-loop-i : goal.invariant-loop-i
invariant-loop-i l = over l.at l.src l.initial.buf ≡ over (l.at + l.i) (drop l.i l.src) l.buf
