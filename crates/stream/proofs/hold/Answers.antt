use Rattle.std.proofs.Common.{rules, arith, ◌∙◌}
use Rattle.stream.proofs.Laws.{slid, taken_less}
use Rattle.stream.proofs.Left.{hold_left}
use Rattle.stream.proofs.hold.Goals as goal

pub returns-clause-holds : goal.returns-clause-holds
returns-clause-holds g c =
    let span = c.args.span in
    let moved = slid c.args.window.now c.copy_within.new.self span.from span.to c.requires.from_le_to c.requires.to_in_bounds c.copy_within.ensures.after in
    let reached = c.in_ok-to.ensures.reached in
    record {
      ordered = omega arith;
      within = omega (arith, reached);
      longer = omega (arith, reached);
      stay = λ k h. taken_less _ _ k _ h (c.fill.ensures.window_unchanged ∙ moved);
    }

pub returns-clause-bytes : goal.returns-clause-bytes
returns-clause-bytes g c =
    let span = c.args.span in
    let moved = slid c.args.window.now c.copy_within.new.self span.from span.to c.requires.from_le_to c.requires.to_in_bounds c.copy_within.ensures.after in
    let bytes = c.in_ok-to.ensures.bytes in
    (hold_left _ _ c.args.window.now c.copy_within.new.self c.fill.new.window span c.in_ok-to.to moved c.fill.ensures.window_unchanged c.in_ok-to.ensures.reached.0 bytes.0, search rules)
