-- A machine that is offered one thing after another: what it is in the end, what it answered, and which things it took.
use Rattle.std.specs.Prelude.{List, [], ◌∷◌, Bool}
use Rattle.lists.specs.Lists.{pick}

-- the machine after all of them
unfoldable pub end_of : {H A : Type 0} → (H → A → H) → H → List A → H
end_of step h [] = h
end_of step h (x ∷ xs) = end_of step (step h x) xs

-- what it answered to each, in order
unfoldable pub answers_of : {H A X : Type 0} → (H → A → H) → (H → A → X) → H → List A → List X
answers_of step answer h [] = []
answers_of step answer h (x ∷ xs) = answer h x ∷ answers_of step answer (step h x) xs

-- those that it took, in order
unfoldable pub kept_of : {H A : Type 0} → (H → A → H) → (H → A → Bool) → H → List A → List A
kept_of step takes h [] = []
kept_of step takes h (x ∷ xs) = pick (takes h x) (x ∷ kept_of step takes (step h x) xs) (kept_of step takes (step h x) xs)
