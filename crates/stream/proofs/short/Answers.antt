use Rattle.std.proofs.Common.{arith}
use Rattle.stream.proofs.Laws.{size_moved, short_stands}
use Rattle.stream.proofs.Left.{short_gives}
use Rattle.stream.proofs.short.Goals as goal

pub returns-clause-found : goal.returns-clause-found
returns-clause-found g c =
    short_stands c.args.window.now c.hold.new.window c.args.head c.in_ok-whole.whole c.args.size c.in_ok-whole.ensures.holds c.requires.bound c.requires.size_value (omega arith) c.if-whole-size.false

pub returns-clause-bytes : goal.returns-clause-bytes
returns-clause-bytes g c =
    let l = c.in_ok-whole.ensures.holds in
    let whole = c.in_ok-whole.whole in
    short_gives _ _ c.hold.new.window whole c.args.size l.ordered l.within (omega (arith, l.longer)) (size_moved c.args.window.now c.hold.new.window c.args.head whole c.args.size l c.requires.bound c.requires.size_value) c.if-whole-size.false c.in_ok-whole.ensures.bytes.0
