-- Words that the definitions of every crate are written in: choices, searches along a list, sets of places, padding.
use Rattle.std.specs.Prelude.{ℕ, ◌+◌, ◌-◌, List, [], ◌∷◌, ◌++◌, Bool, true, false, Option, Some, None, eqb, length, replicate}

-- the first where the test holds, else the second
abbrev pub pick : {A : Type 0} → Bool → A → A → A
pick true a b = a
pick false a b = b

abbrev pub both : Bool → Bool → Bool
both a b = pick a b false

abbrev pub either : Bool → Bool → Bool
either a b = pick a true b

-- some element has the property
unfoldable pub any : {A : Type 0} → (A → Bool) → List A → Bool
any f [] = false
any f (x ∷ xs) = either (f x) (any f xs)

-- every element has the property
unfoldable pub all : {A : Type 0} → (A → Bool) → List A → Bool
all f [] = true
all f (x ∷ xs) = both (f x) (all f xs)

-- the elements with the property, in order
unfoldable pub filter : {A : Type 0} → (A → Bool) → List A → List A
filter f [] = []
filter f (x ∷ xs) = pick (f x) (x ∷ filter f xs) (filter f xs)

-- the place of the first element with the property, the first place being k
unfoldable pub first_from : {A : Type 0} → (A → Bool) → ℕ → List A → Option ℕ
first_from f k [] = None
first_from f k (x ∷ xs) = pick (f x) (Some k) (first_from f (k + 1) xs)

abbrev pub is_at : Option ℕ → Bool
is_at (Some k) = true
is_at None = false

-- two lists of numbers are the same
unfoldable pub same_numbers : List ℕ → List ℕ → Bool
same_numbers [] [] = true
same_numbers [] (y ∷ ys) = false
same_numbers (x ∷ xs) [] = false
same_numbers (x ∷ xs) (y ∷ ys) = both (eqb x y) (same_numbers xs ys)

-- a list in an array of n places, those past its end at z
abbrev pub padded : {A : Type 0} → ℕ → A → List A → List A
padded n z xs = xs ++ replicate (n - length xs) z
