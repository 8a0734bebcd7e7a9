-- From a fold without a look at shapes to the definition. Assumes nothing.
use mathlib.Core.Path.{◌≡◌, refl, ◌∙◌, ap}
use mathlib.Core.List.{List}
use Prim.Native.Nat.{ℕ}
use lib.Dec.{eqb}
use Rattle.lists.specs.Lists.{pick}
use Rattle.state.specs.declared.Holder.{Holder}
use Rattle.state.specs.State.{holding}
use Rattle.shape.specs.Event.{event_shape}
use Rattle.shape.specs.State.{holder_shape}
use Rattle.ingest.specs.declared.Offered.{Offered}
use Rattle.ingest.specs.Judgement.{turned_away}
use Rattle.ingest.proofs.Laws.{good_shape}
use Rattle.layout.specs.Records.{Content, event, snapshot, refusal, content_of}
use Rattle.decoded.specs.Decoded.{Shaped}
use Rattle.decoded.proofs.Shapes.{decoded_shape}
use Rattle.receive.proofs.Laws.{good_holder}
use Rattle.fold.specs.Fold.{foldable, fold_answer, fold_state, folded}
use Rattle.fold.proofs.Laws.{clean_fold}
use Rattle.fold_record.specs.Folded.{fold_taken, body_folded}
use Rattle.fold_record.specs.Steps.{content_folded, folded_by}

-- what is folded without a look at its shape is what the definition takes: a decoded content has none to refuse
module _ (h : Holder) (n : ℕ) (en : n ≡ holder_shape h) (z : n ≡ 0) where
  content_folded_lem : (c : Content) → Shaped c → content_folded h c ≡ fold_taken h c
  unfolding folded fold_answer fold_state
  content_folded_lem (event e) good = good_shape h e (foldable e.ilk h e) (holding (fold_state h.state e)) n en z (event_shape e) refl good (clean_fold e.ilk h e)
  content_folded_lem (snapshot s) good = refl
  content_folded_lem (refusal r) good = refl

  pub good_before : (mark : ℕ) (body : List ℕ) → folded_by h mark body ≡ body_folded h mark body
  unfolding folded_by body_folded
  good_before mark body =
      ap (λ (x : Offered). pick (eqb mark 0x4B53) (turned_away h 2) x) (content_folded_lem (content_of mark body) (decoded_shape mark body))
      ∙ good_holder h n en (pick (eqb mark 0x4B53) (turned_away h 2) (fold_taken h (content_of mark body))) z
