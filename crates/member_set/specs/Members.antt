-- Lists of witnesses: their faults in the Rust's order, and the list after a change.
-- 18 and 19: "1 witnesses, 2 removals, 3 additions". 38's detail: the count.
use Rattle.std.specs.Prelude.{Option, Some, None, Result, Ok, Err, ℕ, ◌+◌, List, [], ◌∷◌, ◌++◌, Bool, not, leb, length}
use Rattle.lists.specs.Lists.{pick, any, filter, is_at}
use Rattle.item.specs.declared.Item.{Item}
use Rattle.item.specs.Item.{is_transferable}
use Rattle.items.specs.declared.Items.{Items}
use Rattle.items.specs.Items.{member, packed}
use Rattle.answer.specs.declared.Answer.{Answer}
use Rattle.answer.specs.declared.Refusal.{Refusal}
use Rattle.answer.specs.Answer.{refused, accepted, refuse_if, first_refusal}
use Rattle.answer.specs.Refusal.{answer_of}

-- ---- the single faults
-- the first place whose item stood earlier
unfoldable pub repeat_from : List Item → ℕ → List Item → Option ℕ
repeat_from before k [] = None
repeat_from before k (x ∷ xs) = pick (member before x) (Some k) (repeat_from (before ++ (x ∷ [])) (k + 1) xs)

abbrev pub duplicate : ℕ → List Item → Answer
duplicate list xs = refuse_if (is_at (repeat_from [] 0 xs)) (refused 18 list 0)

abbrev pub transferable : ℕ → List Item → Answer
transferable list xs = refuse_if (any is_transferable xs) (refused 19 list 0)

-- a cut that is also added
abbrev pub overlap : List Item → List Item → Answer
overlap cuts adds = refuse_if (any (member adds) cuts) (refused 20 0 0)

abbrev pub absent : List Item → Item → Bool
absent current x = not (member current x)

-- a cut that is no current member
abbrev pub not_current : List Item → List Item → Answer
not_current current cuts = refuse_if (any (absent current) cuts) (refused 21 0 0)

-- an addition that is a current member
abbrev pub present : List Item → List Item → Answer
present current adds = refuse_if (any (member current) adds) (refused 22 0 0)

-- ---- "witnesses 18, then 19"
unfoldable pub witness_faults : ℕ → List Item → Answer
witness_faults list xs = first_refusal (duplicate list xs ∷ transferable list xs ∷ [])

-- ---- "18 removals, 18 additions, 20, 19 removals, 19 additions, 21, 22"
unfoldable pub change_faults : List Item → List Item → List Item → Answer
change_faults current cuts adds =
    first_refusal (
    duplicate 2 cuts
    ∷ duplicate 3 adds
    ∷ overlap cuts adds
    ∷ transferable 2 cuts
    ∷ transferable 3 adds
    ∷ not_current current cuts
    ∷ present current adds
    ∷ [])

-- ---- "Updated members: current ones not cut, in order, then additions in order, less those already kept and less repeats."
unfoldable pub joined : List Item → List Item → List Item
joined kept [] = kept
joined kept (x ∷ more) = pick (member kept x) (joined kept more) (joined (kept ++ (x ∷ [])) more)

unfoldable pub updated : List Item → List Item → List Item → List Item
updated current cuts adds = joined (filter (absent cuts) current) adds

-- the answer, and the new list where it is accepted; else the empty list
pub record Change : Type 0 where
  pub answer : Answer
  pub list : Items

-- what an update answers, with its list
abbrev pub change_as : Result Items Refusal → Change
change_as (Ok l) = record { answer = accepted; list = l }
change_as (Err r) = record { answer = answer_of r; list = packed [] }

-- "A resulting witness list above 16 is refused (38)."
unfoldable pub change_of : List Item → Change
change_of xs =
    pick (leb (length xs) 16)
    (record { answer = accepted; list = packed xs })
    (record { answer = refused 38 (length xs) 0; list = packed [] })
