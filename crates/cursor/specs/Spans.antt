-- Lists by their places: a count and the first one's place, and the values that stand there. Reading the places first and
-- copying after is reading the values: proofs/Laws, `span_values`.
use Rattle.std.specs.Prelude.{ℕ, zero, suc, ◌+◌, ◌*◌, List, [], ◌∷◌, leb, length}
use Rattle.lists.specs.Lists.{pick, both}
use Rattle.format.specs.Parse.{Parse, got, bad, bind, byte_at}
use Rattle.cursor.specs.declared.Listing.{Listing}

-- what was read, put through a function
abbrev pub mapped : {A B : Type 0} → (A → B) → Parse A → Parse B
mapped f (got a n) = got (f a) n
mapped f (bad r) = bad r

-- n fields by one rule, one after another: the place after the last, or the first refusal
unfoldable pub runs : {A : Type 0} → (ℕ → Parse A) → ℕ → ℕ → Parse (Unit {0})
runs f zero p = got tt p
runs f (suc n) p = bind (f p) (λ _ q. runs f n q)

-- a count byte of at most max, and as many fields by one rule: the count and the first one's place
unfoldable pub span_at : {A : Type 0} → (ℕ → Parse A) → ℕ → List ℕ → ℕ → Parse Listing
span_at f max s at =
    bind (byte_at s at) (λ n p. pick (leb n max) (bind (runs f n p) (λ _ q. got (record { count = n; first = p }) q)) (bad 4))

-- n values, each w bytes after the one before
unfoldable pub list_of : {A : Type 0} → (ℕ → A) → ℕ → ℕ → ℕ → List A
list_of f w zero p = []
list_of f w (suc n) p = f p ∷ list_of f w n (p + w)

-- the n values of w bytes at a place; none where they are more than max or the bytes run out
unfoldable pub many_of : {A : Type 0} → (ℕ → A) → ℕ → ℕ → List ℕ → ℕ → ℕ → List A
many_of f w max s n p = pick (both (leb n max) (leb (p + n * w) (length s))) (list_of f w n p) []
