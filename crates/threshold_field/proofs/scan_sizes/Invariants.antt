use mathlib.Core.Path.{◌≡◌}
use Prim.Native.Nat.{◌≤◌, ◌-◌}
use Rattle.threshold_field.specs.ThresholdField.{total_at}
use Rattle.threshold_field.proofs.scan_sizes.Given as goal

abbrev pub invariant-loop : goal.invariant-loop
invariant-loop l = (l.total ≤ 16) × (total_at l.s l.n 0 l.first ≡ total_at l.s (l.n - l.counter) l.total l.at)
