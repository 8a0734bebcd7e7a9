-- The checks in order, one at a time, and the shape of fields in order. Assumes nothing.
--     passed, stopped      one more check, as an equation
--     here, past           the same for a function that returns at the first check that refuses: its result is the whole answer
--     clean                an answer that passes is `accepted`, with no details; the checks in order are
use mathlib.Core.Path.{◌≡◌, refl, sym, ◌∙◌, ap}
use mathlib.Core.List.{List, ◌∷◌, ◌++◌, []}
use mathlib.Core.Bool.{Bool, true, false}
use borrow.Author.Tests.{eq-eqb, ne_eqb}
use Rattle.lists.specs.Lists.{pick}
use Rattle.lists.proofs.Facts.{clash}
use Rattle.answer.specs.declared.Answer.{Answer}
use Rattle.answer.specs.Answer.{accepted, passes, refuse_if, refuse_unless, first_refusal}

-- a check that passes leaves the answer to those behind it; one that refuses gives it
pub passed : (x : Answer) (xs : List Answer) → x.number ≡ 0 → first_refusal (x ∷ xs) ≡ first_refusal xs
unfolding first_refusal
passed x xs e = rw (eq-eqb x.number 0 e)

pub stopped : (x : Answer) (xs : List Answer) → (x.number ≡ 0 → ⊥) → first_refusal (x ∷ xs) ≡ x
unfolding first_refusal
stopped x xs e = rw (ne_eqb x.number 0 e)

pub here : (x y : Answer) (ys : List Answer) → x ≡ y → (x.number ≡ 0 → ⊥) → x ≡ first_refusal (y ∷ ys)
here x y ys e ne = e ∙ sym (stopped y ys (rw e at ne))

pub past : (x y : Answer) (ys : List Answer) → x ≡ y → x.number ≡ 0 → first_refusal (y ∷ ys) ≡ first_refusal ys
past x y ys e z = passed y ys (rw e at z)

-- the first checks may answer for themselves
pub grouped : (xs ys : List Answer) → first_refusal (first_refusal xs ∷ ys) ≡ first_refusal (xs ++ ys)
unfolding first_refusal
grouped [] ys = refl
grouped (x ∷ xs) ys = by_test (passes x) refl (grouped xs ys)
  where
    by_test : (t : Bool) → passes x ≡ t → first_refusal (first_refusal xs ∷ ys) ≡ first_refusal (xs ++ ys)
        → first_refusal (pick t (first_refusal xs) x ∷ ys) ≡ pick t (first_refusal (xs ++ ys)) x
    by_test true e ih = ih
    by_test false e ih = rw e

-- what comes behind may be answered in another way
pub tail_same : (xs ys zs : List Answer) → first_refusal ys ≡ first_refusal zs → first_refusal (xs ++ ys) ≡ first_refusal (xs ++ zs)
unfolding first_refusal
tail_same [] ys zs e = e
tail_same (x ∷ xs) ys zs e = ap (λ (r : Answer). pick (passes x) r x) (tail_same xs ys zs e)

-- or only where the check before it passes
pub then_same : (x : Answer) (xs ys : List Answer) → (passes x ≡ true → first_refusal xs ≡ first_refusal ys) → first_refusal (x ∷ xs) ≡ first_refusal (x ∷ ys)
unfolding first_refusal
then_same x xs ys f = by_test (passes x) f
  where
    by_test : (t : Bool) → (t ≡ true → first_refusal xs ≡ first_refusal ys) → pick t (first_refusal xs) x ≡ pick t (first_refusal ys) x
    by_test true g = g refl
    by_test false g = refl

-- ---- answers that pass without details
abbrev pub Clean : Answer → Type 0
Clean x = passes x ≡ true → x ≡ accepted

pub clean_first : (xs : List Answer) → Clean (first_refusal xs)
unfolding first_refusal
clean_first [] p = refl
clean_first (x ∷ xs) p = by_test (passes x) refl p (clean_first xs)
  where
    by_test : (t : Bool) → passes x ≡ t → passes (pick t (first_refusal xs) x) ≡ true → Clean (first_refusal xs) → pick t (first_refusal xs) x ≡ accepted
    by_test true e q ih = ih q
    by_test false e q ih = clash (sym q ∙ e)

-- a refusal or nothing
pub clean_unless : (good : Bool) (x : Answer) → passes x ≡ false → Clean (refuse_unless good x)
clean_unless true x f p = refl
clean_unless false x f p = clash (sym p ∙ f)

pub clean_if : (fault : Bool) (x : Answer) → passes x ≡ false → Clean (refuse_if fault x)
clean_if true x f p = clash (sym p ∙ f)
clean_if false x f p = refl

-- the last check, where it passes cleanly, gives the answer either way
pub last : (x y : Answer) → Clean y → x ≡ y → x ≡ first_refusal (y ∷ [])
unfolding first_refusal
last x y clean e = by_test (passes y) refl
  where
    by_test : (t : Bool) → passes y ≡ t → x ≡ pick t accepted y
    by_test true p = e ∙ clean p
    by_test false p = e

-- three groups of checks in a row are all their checks in a row
pub three_groups : (xs ys zs : List Answer) → first_refusal (first_refusal xs ∷ first_refusal ys ∷ first_refusal zs ∷ []) ≡ first_refusal (xs ++ (ys ++ zs))
three_groups xs ys zs =
    grouped xs (first_refusal ys ∷ first_refusal zs ∷ [])
    ∙ tail_same xs (first_refusal ys ∷ first_refusal zs ∷ []) (ys ++ zs) (grouped ys (first_refusal zs ∷ []) ∙ tail_same ys (first_refusal zs ∷ []) zs (sym (last (first_refusal zs) (first_refusal zs) (clean_first zs) refl)))
