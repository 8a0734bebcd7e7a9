-- What is to be written over the bytes of the beginning is what is still to be written over those of now.
use Rattle.std.proofs.Common.{◌≡◌}
use Rattle.lines.specs.Lines.{digits}
use Rattle.writer.specs.Writing.{over}
use Rattle.lines.proofs.put_digits.Given as goal

abbrev pub invariant-loop-i : goal.invariant-loop-i
invariant-loop-i l = over l.at (digits l.base l.width l.n) l.initial.buf ≡ over l.at (digits l.base l.i l.rest) l.buf
