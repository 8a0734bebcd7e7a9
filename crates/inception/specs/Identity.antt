-- "for a basic prefix 12, 13 (anything but Simple(1)), 14, and with code B also 15, 16, 17". 12's detail: the key count.
use Rattle.std.specs.Prelude.{ℕ, List, [], ◌∷◌, eqb, get_or}
use Rattle.lists.specs.Lists.{pick, both}
use Rattle.answer.specs.declared.Answer.{Answer}
use Rattle.answer.specs.Answer.{refused, accepted, refuse_unless, first_refusal}
use Rattle.item.specs.declared.Item.{Item}
use Rattle.item.specs.Item.{same_item, basic_of, transferable_of, zero_item}
use Rattle.items.specs.declared.Items.{Items}
use Rattle.threshold.specs.declared.Threshold.{Threshold}
use Rattle.threshold.specs.Threshold.{is_simple}

-- the sole key
abbrev pub first_key : Items → Item
first_key keys = get_or keys.at 0 zero_item

-- of a basic prefix: it is the sole key, at threshold one
abbrev pub sole_key : Item → Items → Threshold → List Answer
sole_key prefix keys t =
    refuse_unless (eqb keys.count 1) (refused 12 keys.count 0)
    ∷ refuse_unless (both (is_simple t) (eqb t.simple 1)) (refused 13 0 0)
    ∷ refuse_unless (same_item prefix (first_key keys)) (refused 14 0 0)
    ∷ []

-- of a non-transferable prefix: no next keys, no witnesses, no anchors
abbrev pub commits_nothing : ℕ → ℕ → ℕ → List Answer
commits_nothing next witnesses anchors =
    refuse_unless (eqb next 0) (refused 15 0 0) ∷ refuse_unless (eqb witnesses 0) (refused 16 0 0) ∷ refuse_unless (eqb anchors 0) (refused 17 0 0) ∷ []

unfoldable pub identity : Item → Items → Threshold → ℕ → ℕ → ℕ → Answer
identity prefix keys t next witnesses anchors =
    pick (basic_of prefix.code)
    (first_refusal (
    first_refusal (sole_key prefix keys t)
    ∷ pick (transferable_of prefix.code) accepted (first_refusal (commits_nothing next witnesses anchors))
    ∷ []))
    accepted
