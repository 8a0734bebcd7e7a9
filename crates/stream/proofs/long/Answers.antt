use Rattle.std.proofs.Common.{arith}
use Rattle.stream.proofs.Laws.{size_moved, long_stands}
use Rattle.stream.proofs.Left.{long_gives}
use Rattle.stream.proofs.long.Goals as goal

pub returns-clause-found : goal.returns-clause-found
returns-clause-found g c =
    long_stands c.args.window.now c.hold.new.window c.skip.new.window c.args.head c.in_ok-full.full c.args.size c.in_ok-full.ensures.holds c.requires.bound c.requires.size_value c.skip.auto.window (omega arith) (omega arith) c.skip.ensures.window_unchanged

pub returns-clause-bytes : goal.returns-clause-bytes
returns-clause-bytes g c =
    let l = c.in_ok-full.ensures.holds in
    let is = size_moved c.args.window.now c.hold.new.window c.args.head c.in_ok-full.full c.args.size l c.requires.bound c.requires.size_value in
    long_gives c.hold.new.window c.skip.new.window c.in_ok-full.full _ c.args.size c.hold.auto.window l.ordered l.within c.if-full-len.false c.requires.in_bounds is c.requires.window_len_bound _ _ _ c.skip.auto.window c.skip.ensures.window_unchanged c.in_ok-full.ensures.bytes.0 (rw c.if-not-branch.false at c.in_ok-skip.ensures.bytes)
