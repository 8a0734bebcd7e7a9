use Rattle.std.proofs.Common.{◌≡◌, ◌+◌, List, ℕ, length, take}
use Rattle.std.specs.Io.KnownBytes.{Consumes}
use Rattle.stream.proofs.skip.Given as goal

abbrev pub invariant-loop : goal.invariant-loop
invariant-loop g l =
    (take l.from l.window ≡ take l.from l.fn.window)
    × ((bs : List ℕ) × Consumes (g.R.Read.remaining l.fn.input) (g.R.Read.remaining l.input) bs × (length bs + l.left ≡ l.count))
