use Rattle.std.proofs.Common.{◌≡◌, ◌-◌, ◌≤◌, length, take, drop}
use Rattle.std.specs.Io.KnownBytes.{Consumes}
use Rattle.stream.proofs.fill.Given as goal

abbrev pub invariant-loop : goal.invariant-loop
invariant-loop g l =
    (l.have ≤ l.to) × (l.to ≤ length l.window) × (take l.have l.window ≡ take l.have l.fn.window)
    × Consumes (g.R.Read.remaining l.fn.input) (g.R.Read.remaining l.input) (take (l.to - l.have) (drop l.have l.window))
