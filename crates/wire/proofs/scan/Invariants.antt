use Rattle.std.specs.Prelude.{◌≡◌, ◌-◌}
use Rattle.cursor.specs.Spans.{runs}
use Rattle.wire.specs.Wire.{place_at}
use Rattle.wire.proofs.scan.Given as goal

abbrev pub invariant-loop : goal.invariant-loop
invariant-loop l = runs (place_at l.s) l.count l.first ≡ runs (place_at l.s) (l.count - l.counter) l.next
