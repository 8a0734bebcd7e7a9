use Rattle.std.proofs.Common.{◌≡◌, ◌-◌}
use Rattle.cursor.specs.Spans.{runs}
use Rattle.field.specs.Field.{entry_at}
use Rattle.field.proofs.scan_list.Given as goal

abbrev pub invariant-loop-turn : goal.invariant-loop-turn
invariant-loop-turn l = runs (entry_at l.e l.s) l.n l.first ≡ runs (entry_at l.e l.s) (l.n - l._turn) l.p
