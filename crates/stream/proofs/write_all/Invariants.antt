use Rattle.std.proofs.Common.{◌≡◌, ◌≤◌, length, take}
use Rattle.std.specs.Io.KnownBytes.{Appends}
use Rattle.stream.proofs.write_all.Given as goal

-- what is written is written; and where there is nothing to write, no turn of the loop goes by
abbrev pub invariant-loop : goal.invariant-loop
invariant-loop g l =
    (l.done ≤ length l.out) × (length l.out ≡ 0 → l.counter ≡ 0)
    × Appends (g.W.Write.contents l.fn.output) (g.W.Write.contents l.output) (take l.done l.out)
