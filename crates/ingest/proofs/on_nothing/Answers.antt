use mathlib.Core.Path.{◌∙◌}
use Rattle.event.specs.declared.Ilk.TheVariants.{Inception}
use Rattle.shape.proofs.Laws.{shape_as_lem, good_prefix}
use Rattle.ingest.specs.Judgement.{next_state}
use Rattle.ingest.proofs.on_nothing.Goals as goal

pub inception-requires : goal.inception-requires
inception-requires c = good_prefix c.args.e (shape_as_lem c.args.e Inception c.in-Inception.is ∙ c.requires)

pub returns-in-Inception : goal.returns-in-Inception
unfolding next_state
returns-in-Inception c = λ before s. rw c.in-Inception.is (c.inception.ensures before)
