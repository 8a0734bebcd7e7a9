use mathlib.Core.Path.{◌≡◌}
use Rattle.lists.specs.Lists.{padded}
use Rattle.cursor.specs.Spans.{list_of}
use Rattle.threshold_field.specs.ThresholdField.{weight_of, no_weight}
use Rattle.threshold_field.proofs.copy_weights.Given as goal

abbrev pub invariant-loop-i : goal.invariant-loop-i
invariant-loop-i l = l.weights ≡ padded 16 no_weight (list_of (weight_of l.s) 16 l.i l.first)
