-- One folded event, by its ilk and by whether a state is held. Assumes nothing.
use mathlib.Core.Path.{◌≡◌, refl, sym, ◌∙◌, ap}
use mathlib.Core.Bool.{Bool, true, false}
use mathlib.Core.List.{List, []}
use lib.Dec.{leb}
use lib.ListN.{length}
use Rattle.lists.specs.Lists.{pick}
use Rattle.lists.proofs.Facts.{clash}
use Rattle.answer.specs.declared.Answer.{Answer}
use Rattle.answer.specs.declared.Refusal.{Refusal}
use Rattle.answer.specs.Answer.{refused, accepted}
use Rattle.answer.specs.Refusal.{answer_of}
use Rattle.answer.proofs.Laws.{Clean}
use Rattle.item.specs.declared.Item.{Item}
use Rattle.items.specs.declared.Items.{Items}
use Rattle.items.specs.Items.{packed}
use Rattle.member_set.specs.Members.{Change, change_of}
use Rattle.event.specs.declared.Ilk.{Ilk}
use Rattle.event.specs.declared.Ilk.TheVariants.{Inception, Rotation, Interaction, DelegatedInception, DelegatedRotation}
use Rattle.event.specs.declared.Head.{Head}
use Rattle.event.specs.declared.Body.{Body}
use Rattle.event.specs.declared.Event.{Event}
use Rattle.state.specs.declared.KeyState.{KeyState}
use Rattle.state.specs.declared.Holder.{Holder}
use Rattle.state.specs.State.{is_held, holding, rotated, stepped}
use Rattle.rules.specs.Rules.{new_witnesses}
use Rattle.rules.proofs.Laws.{room}
use Rattle.ingest.specs.Judgement.{settled}
use Rattle.ingest.proofs.Laws.{refuses_as, goes_as}
use Rattle.fold.specs.Fold.{foldable}

-- a list with room is accepted without details
clean_change : (new : List Item) → Clean (change_of new).answer
unfolding change_of
clean_change new = by_test (leb (length new) 16)
  where
    by_test : (t : Bool) → Clean (pick {A = Change} t (record { answer = accepted; list = packed new }) (record { answer = refused 38 (length new) 0; list = packed [] })).answer
    by_test true p = refl
    by_test false p = clash (sym p)

pub clean_fold : (k : Ilk) (h : Holder) (e : Event) → Clean (foldable k h e)
clean_fold Inception h e = λ p. refl
clean_fold Rotation h e = by_test (is_held h)
  where
    by_test : (t : Bool) → Clean (pick t (change_of (new_witnesses h.state e.body)).answer (refused 8 0 0))
    by_test true p = clean_change (new_witnesses h.state e.body) p
    by_test false p = clash (sym p)
clean_fold Interaction h e = by_test (is_held h)
  where
    by_test : (t : Bool) → Clean (pick t accepted (refused 8 0 0))
    by_test true p = refl
    by_test false p = clash (sym p)
clean_fold DelegatedInception h e = λ p. clash (sym p)
clean_fold DelegatedRotation h e = λ p. clash (sym p)

module _ (h : Holder) (e : Head) (b : Body) (held : is_held h ≡ true) where
  -- the new list has no room, or its state
  pub overfull : (r : Refusal) → record { answer = answer_of r; list = packed [] } ≡ change_of (new_witnesses h.state b)
      → record { answer = answer_of r; holder = h } ≡ settled h (pick (is_held h) (change_of (new_witnesses h.state b)).answer (refused 8 0 0)) (holding (rotated h.state e b (packed (new_witnesses h.state b))))
  overfull r ed = rw held (refuses_as h r _ _ (ap (λ (d : Change). d.answer) ed))

  pub rolls : (l : Items) (s : KeyState) → record { answer = accepted; list = l } ≡ change_of (new_witnesses h.state b) → s ≡ rotated h.state e b l
      → record { answer = accepted; holder = holding s } ≡ settled h (pick (is_held h) (change_of (new_witnesses h.state b)).answer (refused 8 0 0)) (holding (rotated h.state e b (packed (new_witnesses h.state b))))
  rolls l s ed es =
      let new = new_witnesses h.state b in
      let a : accepted ≡ (change_of new).answer = ap (λ (d : Change). d.answer) ed in
      let n : l ≡ packed new = ap (λ (d : Change). d.list) ed ∙ room new (rw (← a) refl) in
      rw held (goes_as h s _ _ a (es ∙ ap (λ (i : Items). rotated h.state e b i) n))
