use borrow.Author.Rules.{rules}
use Rattle.state.specs.State.{is_held}
use Rattle.fold.proofs.Laws.{rolls}
use Rattle.fold.proofs.roll.Goals as goal

pub returns : goal.returns
unfolding is_held
returns c = rolls c.args.before c.args.h c.args.b (search rules) _ _ c.in_ok-witnesses.ensures c.rotate.ensures
