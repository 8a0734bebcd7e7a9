-- An inception and a rotation from their groups of checks, by value. Assumes nothing.
use mathlib.Core.Path.{◌≡◌, refl, sym, ap, ◌∙◌}
use mathlib.Core.List.{List, ◌∷◌, []}
use Prim.Native.Nat.{ℕ}
use Rattle.answer.specs.declared.Answer.{Answer}
use Rattle.answer.specs.declared.Refusal.{Refusal}
use Rattle.answer.specs.Answer.{accepted, first_refusal}
use Rattle.answer.specs.Refusal.{answer_of}
use Rattle.answer.proofs.Laws.{Clean, clean_first, grouped, tail_same, last}
use Rattle.answer.proofs.Results.{stops, goes_on}
use Rattle.item.specs.declared.Item.{Item}
use Rattle.items.specs.Items.{listed, packed}
use Rattle.member_set.specs.Members.{Change}
use Rattle.event.specs.declared.Head.{Head}
use Rattle.event.specs.declared.Body.{Body}
use Rattle.state.specs.declared.KeyState.{KeyState}
use Rattle.rules.specs.Rules.{chains, own_form, next_form, rewitness, rotation, inception, of_prefix, changed, new_witnesses}
use Rattle.rules.proofs.Laws.{change_stops}
use Rattle.reserved.proofs.Laws.{start_of, keys_of, witnesses_of, incepts}

-- ---- an inception from its groups of checks
module _ (h : Head) (b : Body) (anchors : ℕ) (signed : Answer) (receipted : ℕ → Answer) where
  abbrev whole : Answer
  whole = of_prefix h.prefix (inception h b anchors signed receipted)

  pub start_stops : (r : Refusal) → answer_of r ≡ first_refusal (start_of h b anchors) → answer_of r ≡ whole
  start_stops r e = stops r _ _ e ∙ incepts h b anchors signed receipted

  module _ (began : accepted ≡ first_refusal (start_of h b anchors)) where
    pub keys_stop : (r : Refusal) → answer_of r ≡ first_refusal (keys_of b signed) → answer_of r ≡ whole
    keys_stop r e = stops r _ _ e ∙ sym (goes_on _ _ began) ∙ incepts h b anchors signed receipted

    pub witnesses_answer : accepted ≡ first_refusal (keys_of b signed) → (x : Answer) → x ≡ first_refusal (witnesses_of b receipted) → x ≡ whole
    witnesses_answer e x w =
        last x _ (clean_first (witnesses_of b receipted)) w ∙ sym (goes_on _ _ e) ∙ sym (goes_on _ _ began) ∙ incepts h b anchors signed receipted

-- ---- a rotation from its groups of checks
pub clean_rewitness : (current : List Item) (b : Body) (receipted : ℕ → Answer) → Clean (rewitness current b receipted)
unfolding rewitness
clean_rewitness current b receipted = clean_first _

abbrev pub opening_of : Body → Answer → Answer → List Answer
opening_of b signed exposed = own_form b.authority ∷ next_form b.commitment ∷ signed ∷ exposed ∷ []

abbrev pub rewitness_of : KeyState → Body → (ℕ → Answer) → Answer
rewitness_of s b receipted = rewitness (listed s.witnessing.witnesses) b receipted

pub rotations : (s : KeyState) (h : Head) (b : Body) (signed exposed : Answer) (receipted : ℕ → Answer)
    → first_refusal (chains s h ∷ first_refusal (opening_of b signed exposed) ∷ rewitness_of s b receipted ∷ []) ≡ rotation s h b signed exposed receipted
unfolding rotation
rotations s h b signed exposed receipted =
    tail_same (chains s h ∷ []) (first_refusal (opening_of b signed exposed) ∷ rewitness_of s b receipted ∷ []) _ (grouped (opening_of b signed exposed) (rewitness_of s b receipted ∷ []))

module _ (s : KeyState) (h : Head) (b : Body) (signed exposed : Answer) (receipted : ℕ → Answer) where
  abbrev rotated : Change
  rotated = changed (rotation s h b signed exposed receipted) (new_witnesses s b)

  pub chain_stops : (r : Refusal) → answer_of r ≡ chains s h → record { answer = answer_of r; list = packed [] } ≡ rotated
  chain_stops r e = change_stops r _ _ (stops r _ _ e ∙ rotations s h b signed exposed receipted)

  module _ (chained : accepted ≡ chains s h) where
    pub opening_stops : (r : Refusal) → answer_of r ≡ first_refusal (opening_of b signed exposed) → record { answer = answer_of r; list = packed [] } ≡ rotated
    opening_stops r e = change_stops r _ _ (stops r _ _ e ∙ sym (goes_on _ _ chained) ∙ rotations s h b signed exposed receipted)

    pub rewitness_answers : accepted ≡ first_refusal (opening_of b signed exposed) → changed (rewitness_of s b receipted) (new_witnesses s b) ≡ rotated
    rewitness_answers e =
        ap (λ (w : Answer). changed w (new_witnesses s b))
        (last (rewitness_of s b receipted) (rewitness_of s b receipted) (clean_rewitness (listed s.witnessing.witnesses) b receipted) refl
        ∙ sym (goes_on _ _ e) ∙ sym (goes_on _ _ chained) ∙ rotations s h b signed exposed receipted)
