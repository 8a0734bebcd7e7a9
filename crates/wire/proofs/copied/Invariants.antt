use Rattle.std.specs.Prelude.{◌≡◌, false}
use Rattle.lists.specs.Lists.{any}
use Rattle.cursor.specs.Spans.{list_of}
use Rattle.verification.specs.Verification.{same_wire}
use Rattle.wire.specs.Wire.{siger_of}
use Rattle.wire.proofs.copied.Given as goal

abbrev pub invariant-loop-j : goal.invariant-loop-j
invariant-loop-j l = any (same_wire (siger_of l.s l.p)) (list_of (siger_of l.s) 76 l.j l.at) ≡ false
