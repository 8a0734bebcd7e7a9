use Rattle.std.proofs.Common.{◌+◌, ◌≤◌, length, take, IfSome}
use Rattle.canonical.specs.Bytes.{Bytes}
use Rattle.found.specs.Kept.{kept_in}
use Rattle.stream.specs.Left.{left_of}
use Rattle.keyreport.specs.Run.{Ready}
use Rattle.keyreport.proofs.Runs.{Progress}
use Rattle.keyreport.proofs.run.Given as goal

-- a line fits behind the place; and, of a run that began with no state and enough room, how far the report is
abbrev pub invariant-loop : goal.invariant-loop
invariant-loop g l = record {
  room : l.at + 111 ≤ length l.out;
  bytes : Bytes l.state;
  progress : Ready l.fn.used l.fn.state l.fn.window
      → IfSome (g.R.Read.remaining l.fn.input) (λ s. Progress s (g.W.Write.contents l.fn.output) (g.W.Write.contents l.output) (take l.at l.out) (left_of l.window l.span (g.R.Read.remaining l.input)) l.t (kept_in l.state l.used));
}
