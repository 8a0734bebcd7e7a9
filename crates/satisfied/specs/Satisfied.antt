-- "`satisfied_by_sorted_unique` says no to a list that isn't strictly rising; `satisfied_by` sorts and removes repeats."
-- The Rust 'fails closed on any unrepresentable case': so does a struct of bad shape. Both entries name the first unsatisfied
-- clause; of "a list not strictly rising" there is none to name (document 02, request 2), nor of a bad shape.
use Rattle.std.specs.Prelude.{ℕ, List, [], ◌∷◌, Bool, true, eqb, ltb}
use Rattle.lists.specs.Lists.{pick, both}
use Rattle.threshold.specs.declared.Threshold.{Threshold}
use Rattle.threshold.specs.Threshold.{Judgement, short, shape_of, judged_by}

unfoldable pub rising_after : ℕ → List ℕ → Bool
rising_after x [] = true
rising_after x (y ∷ ys) = both (ltb x y) (rising_after y ys)

abbrev pub rising : List ℕ → Bool
rising [] = true
rising (x ∷ xs) = rising_after x xs

-- put into a rising list, where it is not there yet
unfoldable pub insert : ℕ → List ℕ → List ℕ
insert x [] = x ∷ []
insert x (y ∷ ys) = pick (ltb x y) (x ∷ y ∷ ys) (pick (eqb x y) (y ∷ ys) (y ∷ insert x ys))

unfoldable pub sorted_unique : List ℕ → List ℕ
sorted_unique [] = []
sorted_unique (x ∷ xs) = insert x (sorted_unique xs)

unfoldable pub satisfied_by_sorted_unique : Threshold → List ℕ → Judgement
satisfied_by_sorted_unique t ps = pick (both (eqb (shape_of t) 0) (rising ps)) (judged_by t ps) (short 0)

abbrev pub satisfied_by : Threshold → List ℕ → Judgement
satisfied_by t ps = satisfied_by_sorted_unique t (sorted_unique ps)
