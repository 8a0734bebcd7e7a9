-- Checks that pass do so without details, and a change's list where it passes. Assumes nothing.
use mathlib.Core.Path.{◌≡◌, refl, sym, ◌∙◌, ap}
use mathlib.Core.Bool.{Bool, true, false}
use mathlib.Core.List.{List, ◌∷◌, []}
use Prim.Native.Nat.{ℕ}
use native.Mathlib.Omega.{arith}
use lib.Dec.{leb}
use lib.ListN.{length}
use Rattle.lists.specs.Lists.{pick}
use Rattle.answer.specs.declared.Answer.{Answer}
use Rattle.answer.specs.declared.Refusal.{Refusal}
use Rattle.answer.specs.Refusal.{answer_of}
use Rattle.answer.proofs.Results.{refuses}
use Rattle.answer.specs.Answer.{refused, accepted, first_refusal}
use Rattle.item.specs.declared.Item.{Item}
use Rattle.items.specs.declared.Items.{Items}
use Rattle.items.specs.Items.{packed}
use Rattle.member_set.specs.Members.{Change, change_of}
use Rattle.toad.specs.Toad.{witness_threshold}
use Rattle.rules.specs.Rules.{witness_stages, changed}

-- ---- a change
-- the new list where there is room for it
abbrev roomed : Bool → List Item → Change
roomed t new = pick t (record { answer = accepted; list = packed new }) (record { answer = refused 38 (length new) 0; list = packed [] })

pub room : (new : List Item) → (change_of new).answer.number ≡ 0 → (change_of new).list ≡ packed new
unfolding change_of
room new e = by_test (leb (length new) 16) e
  where
    by_test : (t : Bool) → (roomed t new).answer.number ≡ 0 → (roomed t new).list ≡ packed new
    by_test true p = refl
    by_test false p = absurd (omega (arith, p))

-- a refusal says what the whole says
pub change_stops : (r : Refusal) (whole : Answer) (new : List Item) → answer_of r ≡ whole → record { answer = answer_of r; list = packed [] } ≡ changed whole new
change_stops r whole new e = rw (← e, refuses r)

-- ---- a witness change whose list was made: what is left is asked of the new list
module _ (faults : Answer) (new : List Item) (toad : ℕ) (receipted : ℕ → Answer) (l : Items) (clean : accepted ≡ faults)
    (made : record { answer = accepted; list = l } ≡ change_of new) where
  is_new : l ≡ packed new
  is_new = ap (λ (d : Change). d.list) made ∙ room new (rw (← made) refl)

  counts : l.count ≡ length new
  counts = ap (λ (m : Items). m.count) is_new

  abbrev whole : Answer
  whole = first_refusal (witness_stages faults new toad receipted)

  made-first : whole ≡ first_refusal (witness_threshold toad (length new) ∷ receipted (length new) ∷ [])
  unfolding first_refusal
  made-first = rw (← clean, ← made)

  pub toad_stops : (r : Refusal) → answer_of r ≡ witness_threshold toad l.count → record { answer = answer_of r; list = packed [] } ≡ changed whole new
  unfolding first_refusal
  toad_stops r e = change_stops r whole new (sym (made-first ∙ rw (← (e ∙ ap (witness_threshold toad) counts), refuses r)))

  module _ (good : accepted ≡ witness_threshold toad l.count) where
    toad-first : whole ≡ first_refusal (receipted (length new) ∷ [])
    unfolding first_refusal
    toad-first = made-first ∙ rw (← (good ∙ ap (witness_threshold toad) counts))

    pub receipts_stop : (r : Refusal) → answer_of r ≡ receipted l.count → record { answer = answer_of r; list = packed [] } ≡ changed whole new
    unfolding first_refusal
    receipts_stop r e = change_stops r whole new (sym (toad-first ∙ rw (← (e ∙ ap receipted counts), refuses r)))

    pub rewitnesses : accepted ≡ receipted l.count → record { answer = accepted; list = l } ≡ changed whole new
    unfolding first_refusal
    rewitnesses e =
        let w : whole ≡ accepted = toad-first ∙ rw (← (e ∙ ap receipted counts)) in
        rw (w, is_new)
