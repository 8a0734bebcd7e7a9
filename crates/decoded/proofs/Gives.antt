-- A property of readers: what they get has a property, and what they refuse with is 3 or 4. Assumes nothing.
--     gives-..     one law for each way to make a reader
use mathlib.Core.Path.{◌≡◌, refl, ap}
use mathlib.Core.Bool.{Bool, true, false}
use mathlib.Core.List.{List, ◌∷◌, []}
use Prim.Native.Nat.{ℕ, zero, suc, ◌+◌, ◌≤◌}
use native.Mathlib.Omega.{arith}
use lib.Dec.{leb, ltb, eqb}
use lib.ListN.{length}
use borrow.Author.Tests.{leb-true}
use Rattle.lists.specs.Lists.{pick, all}
use Rattle.format.specs.Parse.{Parse, got, bad, bind, ◌>>=◌, byte_at, num_at, raw_at, classed, many_at, list_at, ended}

-- one reading, and a reader at every place
abbrev pub Outcome : {A : Type 0} → (A → Type 0) → Parse A → Type 0
Outcome P (got a n) = P a
Outcome P (bad r) = (3 ≤ r) × (r ≤ 4)

unfoldable pub Gives : {A : Type 0} → (A → Type 0) → (ℕ → Parse A) → Type 0
Gives P f = (at : ℕ) → Outcome P (f at)

-- nothing is said
abbrev pub Some : {A : Type 0} → A → Type 0
Some a = Unit

-- every element
abbrev pub Each : {A : Type 0} → (A → Type 0) → List A → Type 0
Each P [] = Unit
Each P (x ∷ xs) = P x × Each P xs

pub each_all : {A : Type 0} (f : A → Bool) (xs : List A) → Each (λ x. f x ≡ true) xs → all f xs ≡ true
unfolding all
each_all f [] e = refl
each_all f (x ∷ xs) e = rw e.0 (each_all f xs e.1)

-- ---- one field after another, and the last
outcome_bind : {A B : Type 0} (P : A → Type 0) (Q : B → Type 0) (x : Parse A) (k : A → ℕ → Parse B) → Outcome P x
    → ((a : A) (n : ℕ) → P a → Outcome Q (k a n)) → Outcome Q (bind x k)
outcome_bind P Q (got a n) k p q = q a n p
outcome_bind P Q (bad r) k p q = p

module _ {A B : Type 0} (P : A → Type 0) (Q : B → Type 0) (f : ℕ → Parse A) (k : A → ℕ → Parse B) where
  pub gives_then : Gives P f → ((a : A) → P a → Gives Q (k a)) → Gives Q (◌>>=◌ f k)
  unfolding Gives
  gives_then p q at = outcome_bind P Q (f at) k (p at) (λ a n h. q a h n)

-- a weaker property
outcome_weaker : {A : Type 0} (P Q : A → Type 0) → ((a : A) → P a → Q a) → (x : Parse A) → Outcome P x → Outcome Q x
outcome_weaker P Q g (got a n) p = g a p
outcome_weaker P Q g (bad r) p = p

pub gives_weaker : {A : Type 0} (P Q : A → Type 0) → ((a : A) → P a → Q a) → (f : ℕ → Parse A) → Gives P f → Gives Q f
unfolding Gives
gives_weaker P Q g f p at = outcome_weaker P Q g (f at) (p at)

module _ {A : Type 0} (P : A → Type 0) where
  pub gives_got : (a : A) → P a → Gives P (got a)
  unfolding Gives
  gives_got a p at = p

  pub gives_bad : (r : ℕ) → 3 ≤ r → r ≤ 4 → Gives P (λ at. bad r)
  unfolding Gives
  gives_bad r h g at = (h, g)

  -- what is tested holds of what is got
  pub outcome_pick : (b : Bool) (x y : Parse A) → (b ≡ true → Outcome P x) → Outcome P y → Outcome P (pick b x y)
  outcome_pick true x y p q = p refl
  outcome_pick false x y p q = q

  pub gives_pick : (b : Bool) (f g : ℕ → Parse A) → (b ≡ true → Gives P f) → Gives P g → Gives P (λ at. pick b (f at) (g at))
  unfolding Gives
  gives_pick b f g p q at = outcome_pick b (f at) (g at) (λ e. p e at) (q at)

  pub gives_classed : (b : Bool) (a : A) → (b ≡ true → P a) → Gives P (classed b a)
  gives_classed b a p = gives_pick b (got a) (λ at. bad 3) (λ e. gives_got a (p e)) (gives_bad 3 (omega arith) (omega arith))

  pub gives_ended : (s : List ℕ) (a : A) → P a → Gives P (ended s a)
  unfolding Gives ended
  gives_ended s a p at = outcome_pick (eqb at (length s)) (got a at) (bad 3) (λ e. p) (omega arith, omega arith)

-- ---- numbers and bytes
pub gives_byte : (s : List ℕ) → Gives Some (byte_at s)
unfolding Gives byte_at
gives_byte s at = outcome_pick Some (ltb at (length s)) _ (bad 3) (λ e. tt) (omega arith, omega arith)

pub gives_number : (w : ℕ) (s : List ℕ) → Gives Some (num_at w s)
unfolding Gives num_at
gives_number w s at = outcome_pick Some (leb (at + w) (length s)) _ (bad 3) (λ e. tt) (omega arith, omega arith)

pub gives_raw : (w : ℕ) (s : List ℕ) → Gives Some (raw_at w s)
unfolding Gives raw_at
gives_raw w s at = outcome_pick Some (leb (at + w) (length s)) _ (bad 3) (λ e. tt) (omega arith, omega arith)

-- ---- fields by one rule: so many or few enough, each with the property
abbrev pub Many : {A : Type 0} → (A → Type 0) → ℕ → List A → Type 0
Many P n xs = Each P xs × (length xs ≡ n)

abbrev pub Few : {A : Type 0} → (A → Type 0) → ℕ → List A → Type 0
Few P limit xs = Each P xs × (length xs ≤ limit)

module _ {A : Type 0} (P : A → Type 0) (f : ℕ → Parse A) (p : Gives P f) where
  pub gives_many : (n : ℕ) → Gives (Many P n) (many_at f n)
  unfolding Gives many_at
  gives_many zero at = (tt, refl)
  gives_many (suc n) at =
      outcome_bind P (Many P (suc n)) (f at) _ (p at)
      (λ x k h. outcome_bind (Many P n) (Many P (suc n)) (many_at f n k) _ (gives_many n k)
      (λ xs j m. ((h, m.0), ap suc m.1)))

  pub gives_list : (limit : ℕ) (s : List ℕ) → Gives (Few P limit) (list_at f limit s)
  unfolding list_at
  gives_list limit s =
      gives_then Some (Few P limit) (byte_at s) _ (gives_byte s)
      (λ n u. gives_pick (Few P limit) (leb n limit) (many_at f n) (λ at. bad 4)
      (λ e. let h : n ≤ limit = leb-true n limit e in gives_weaker (Many P n) (Few P limit) (λ xs m. (m.0, let l = m.1 in omega arith)) (many_at f n) (gives_many n))
      (gives_bad (Few P limit) 4 (omega arith) (omega arith)))
