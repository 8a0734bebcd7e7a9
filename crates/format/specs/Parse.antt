-- What reading a field gives: the value with the place after it, or the refusal's number. "Fields are read in order; where a
-- field cannot be had, the reading stops there with its refusal."
use Rattle.std.specs.Prelude.{ℕ, zero, suc, ◌+◌, ◌*◌, List, [], ◌∷◌, Bool, true, false, leb, ltb, eqb, length, take, drop, get_or}
use Rattle.lists.specs.Lists.{pick}

pub data Parse (A : Type 0) : Type 0 where
  got : A → ℕ → Parse A
  bad : ℕ → Parse A

-- reads on at the next place, or stops with the refusal
abbrev pub bind : {A B : Type 0} → Parse A → (A → ℕ → Parse B) → Parse B
bind (got a n) k = k a n
bind (bad r) k = bad r

-- one field after another
abbrev pub ◌>>=◌ : {A B : Type 0} → (ℕ → Parse A) → (A → ℕ → Parse B) → ℕ → Parse B
◌>>=◌ f k at = bind (f at) k

-- a byte, or 3 where the body is short
unfoldable pub byte_at : List ℕ → ℕ → Parse ℕ
byte_at s at = pick (ltb at (length s)) (got (get_or s at 0) (at + 1)) (bad 3)

-- "Numbers are big-endian": w bytes as a number, or 3
unfoldable pub be_from : ℕ → List ℕ → ℕ
be_from a [] = a
be_from a (x ∷ xs) = be_from (a * 256 + x) xs

unfoldable pub num_at : ℕ → List ℕ → ℕ → Parse ℕ
num_at w s at = pick (leb (at + w) (length s)) (got (be_from 0 (take w (drop at s))) (at + w)) (bad 3)

-- w bytes as they stand, or 3
unfoldable pub raw_at : ℕ → List ℕ → ℕ → Parse (List ℕ)
raw_at w s at = pick (leb (at + w) (length s)) (got (take w (drop at s)) (at + w)) (bad 3)

-- a value of a class, or 3
abbrev pub classed : {A : Type 0} → Bool → A → ℕ → Parse A
classed good a at = pick good (got a at) (bad 3)

-- n fields by one rule, one after another
unfoldable pub many_at : {A : Type 0} → (ℕ → Parse A) → ℕ → ℕ → Parse (List A)
many_at f zero at = got [] at
many_at f (suc n) at = bind (f at) (λ x p. bind (many_at f n p) (λ xs q. got (x ∷ xs) q))

-- "A list is a count byte and its items"; "4 for a count above its limit"
unfoldable pub list_at : {A : Type 0} → (ℕ → Parse A) → ℕ → List ℕ → ℕ → Parse (List A)
list_at f limit s at = bind (byte_at s at) (λ n p. pick (leb n limit) (many_at f n p) (bad 4))

-- "bytes left over" are 3
unfoldable pub ended : {A : Type 0} → List ℕ → A → ℕ → Parse A
ended s a at = pick (eqb at (length s)) (got a at) (bad 3)
