-- "Unchecked fold: IC starts afresh, even over a state; RO and IX set fields as `rolled` and `stepped` do; DI and DR answer 6,
-- RO and IX on nothing 8, an overfull list 38."
use Rattle.lists.specs.Lists.{pick}
use Rattle.answer.specs.declared.Answer.{Answer}
use Rattle.answer.specs.Answer.{refused, accepted}
use Rattle.items.specs.Items.{packed}
use Rattle.member_set.specs.Members.{change_of}
use Rattle.event.specs.declared.Ilk.{Ilk}
use Rattle.event.specs.declared.Ilk.TheVariants.{Inception, Rotation, Interaction, DelegatedInception, DelegatedRotation}
use Rattle.event.specs.declared.Event.{Event}
use Rattle.state.specs.declared.KeyState.{KeyState}
use Rattle.state.specs.declared.Holder.{Holder}
use Rattle.state.specs.State.{is_held, holding, genesis, rotated, stepped}
use Rattle.rules.specs.Rules.{new_witnesses}
use Rattle.ingest.specs.declared.Offered.{Offered}
use Rattle.ingest.specs.Judgement.{shaped, settled}

abbrev pub foldable : Ilk → Holder → Event → Answer
foldable Inception h e = accepted
foldable Rotation h e = pick (is_held h) (change_of (new_witnesses h.state e.body)).answer (refused 8 0 0)
foldable Interaction h e = pick (is_held h) accepted (refused 8 0 0)
foldable DelegatedInception h e = refused 6 0 0
foldable DelegatedRotation h e = refused 6 0 0

abbrev pub folded_as : Ilk → KeyState → Event → KeyState
folded_as Inception s e = genesis e.head e.body
folded_as Rotation s e = rotated s e.head e.body (packed (new_witnesses s e.body))
folded_as Interaction s e = stepped s e.head
folded_as DelegatedInception s e = s
folded_as DelegatedRotation s e = s

unfoldable pub fold_answer : Holder → Event → Answer
fold_answer h e = shaped h e (foldable e.ilk h e)

unfoldable pub fold_state : KeyState → Event → KeyState
fold_state s e = folded_as e.ilk s e

unfoldable pub folded : Holder → Event → Offered
folded h e = settled h (fold_answer h e) (holding (fold_state h.state e))
