use Rattle.items.proofs.Laws as items
use Rattle.config.proofs.Laws as config
use Rattle.snapshot.proofs.Shapes.{good_state}
use Rattle.snapshot.proofs.put_tail.Goals as goal

pub put_standing-p-requires-clause-count_bound : goal.put_standing-p-requires-clause-count_bound
put_standing-p-requires-clause-count_bound c = (items.good _ _ (good_state c.args.s c.requires.s_value).witnesses).few

pub put_standing-p-requires-clause-count_bound_2 : goal.put_standing-p-requires-clause-count_bound_2
put_standing-p-requires-clause-count_bound_2 c = (config.good _ (good_state c.args.s c.requires.s_value).config).few
