-- What std's methods over lists say, in the words of our definitions. Assumes nothing.
--     same_pointwise      `==` on arrays or slices of numbers
--     all_is, any_is, first_is      the words that `all`, `any` and `position` of a chain are stated in
--     contains_is      `contains` at numbers, whose clause `value` is stated in list_any
--     used, unused      the items of a chain over an array with a count
--     yields_all, yields_any, yields_first      what `all`, `any` and `position` return at the end of a chain, for an answer as
--         yields_all test _ _ _ c.all.ensures.ran (used places count (cc) (cc)) (λ x b q k. search rules)
use mathlib.Core.Path.{◌≡◌, refl, sym, ap, ◌∙◌}
use mathlib.Core.List.{List, [], ◌∷◌}
use mathlib.Core.Bool.{Bool, true, false, ◌&&◌, ◌||◌}
use Prim.Native.Nat.{ℕ, ◌+◌}
use lib.Dec.{eqb}
use borrow.Author.Tests.{eqb-true, eqb-false, eq-eqb, ne_eqb}
use Rattle.std.specs.Prelude.{Option, Some, None, cond}
use Rattle.std.specs.Cmp.Lexicographic.{pointwise}
use Rattle.std.specs.List.{FoldsTo, list_all, list_any, position, position_from}
use Rattle.std.specs.Fn.{Called}
use Rattle.std.specs.Iterator.{YieldsThen}
use Rattle.std.specs.Iterator.Adapters.{take_source, take_count, take_steps, skip_source, skip_count, skip_steps}
use Rattle.std.specs.Slice.Iter.{iter_rest}
use Rattle.std.proofs.iter.Yields.{fronts}
use Rattle.std.specs.declared.iter.Take.{Take}
use Rattle.std.specs.declared.iter.Skip.{Skip}
use Rattle.std.proofs.Common.{Iter}
use Rattle.std.specs.Option.{MatchOption}
use denote.Param.Members.{Mut}
use lib.ListN.{length, take, drop}
use Rattle.std.proofs.lemmas.Iterator.{YieldsList, YieldsList-from_slice, YieldsList-from_take}
use Rattle.std.proofs.lemmas.Iterator.Search.{all_from_yields_List, any_from_yields_List, position_from_yields_List}
use Rattle.std.proofs.lemmas.Iterator.Adapters.{position_from-zero, YieldsList-from_skip}
use Rattle.lists.specs.Lists.{pick, both, either, any, all, first_from, same_numbers}

and_both : (a b : Bool) → (a && b) ≡ both a b
and_both true b = refl
and_both false b = refl

or_either : (a b : Bool) → (a || b) ≡ either a b
or_either true b = refl
or_either false b = refl

cond_pick : {A : Type 0} (b : Bool) (x y : A) → cond b x y ≡ pick b x y
cond_pick true x y = refl
cond_pick false x y = refl

pub same_pointwise : (xs ys : List ℕ) → pointwise eqb xs ys ≡ same_numbers xs ys
unfolding same_numbers
same_pointwise [] [] = refl
same_pointwise [] (y ∷ ys) = refl
same_pointwise (x ∷ xs) [] = refl
same_pointwise (x ∷ xs) (y ∷ ys) = and_both (eqb x y) (pointwise eqb xs ys) ∙ ap (both (eqb x y)) (same_pointwise xs ys)

module _ {A : Type 0} (f : A → Bool) where
  pub all_is : (xs : List A) → list_all f xs ≡ all f xs
  unfolding all
  all_is [] = refl
  all_is (x ∷ xs) = and_both (f x) (list_all f xs) ∙ ap (both (f x)) (all_is xs)

  pub any_is : (xs : List A) → list_any f xs ≡ any f xs
  unfolding any
  any_is [] = refl
  any_is (x ∷ xs) = or_either (f x) (list_any f xs) ∙ ap (either (f x)) (any_is xs)

  from_is : (k : ℕ) (xs : List A) → position_from f k xs ≡ first_from f k xs
  unfolding first_from
  from_is k [] = refl
  from_is k (x ∷ xs) = cond_pick (f x) (Some k) (position_from f (k + 1) xs) ∙ ap (pick (f x) (Some k)) (from_is (k + 1) xs)

  pub first_is : (xs : List A) → position f xs ≡ first_from f 0 xs
  first_is xs = position_from-zero f xs ∙ from_is 0 xs

eqb_swap : (n m : ℕ) → eqb n m ≡ eqb m n
eqb_swap n m = by_test (eqb n m) refl
  where
    by_test : (t : Bool) → eqb n m ≡ t → eqb n m ≡ eqb m n
    by_test true e = e ∙ sym (eq-eqb m n (sym (eqb-true n m e)))
    by_test false e = e ∙ sym (ne_eqb m n (λ h. eqb-false n m e (sym h)))

pub contains_is : (x : ℕ) (xs : List ℕ) → list_any (λ y. eqb y x) xs ≡ any (eqb x) xs
unfolding any
contains_is x [] = refl
contains_is x (y ∷ ys) = or_either (eqb y x) (list_any (λ z. eqb z x) ys) ∙ (rw (eqb_swap y x) (ap (either (eqb x y)) (contains_is x ys)))

-- an array's used part, `places.iter().take(count)`, and the rest, `places.iter().skip(count)`
pub used : {A : Type 0} (places : List A) (count : ℕ) {s : Take (Iter A)} → iter_rest (take_source s) ≡ places → take_count s ≡ count
    → YieldsList (take_steps fronts) (λ x. x.now) s (take count places)
used places count e f = YieldsList-from_take count (YieldsList-from_slice places e) f

pub unused : {A : Type 0} (places : List A) (count : ℕ) {s : Skip (Iter A)} → iter_rest (skip_source s) ≡ places → skip_count s ≡ count
    → YieldsList (skip_steps fronts) (λ x. x.now) s (drop count places)
unused places count e f = YieldsList-from_skip count (YieldsList-from_slice places e) f

-- a chain whose items are xs, ended by `all`, `any` or `position`
module _ {S A B F : Type 0} {steps : S → Option A → S → Type 0} {v : A → B} {g : Mut F (A × Unit {0}) Bool} {s : S} {xs : List B} (test : B → Bool) (u : S) (f : F) where
  pub yields_all : (r : Bool)
      → (zs : List A) × (o : Option A) × (j : F) × YieldsThen steps s zs o u × FoldsTo (λ p x q. Called g p (x, tt) true q) f zs j × MatchOption o (r ≡ true) (λ x. (r ≡ false) × ((h : F) × Called g j (x, tt) false h))
      → YieldsList steps v s xs → ((x : A) (b : Bool) (q : F) → Called g f (x, tt) b q → (q ≡ f) × (b ≡ test (v x))) → r ≡ all test xs
  yields_all r d e k = all_from_yields_List test u f r d e k ∙ all_is test xs

  pub yields_any : (r : Bool)
      → (zs : List A) × (o : Option A) × (j : F) × YieldsThen steps s zs o u × FoldsTo (λ p x q. Called g p (x, tt) false q) f zs j × MatchOption o (r ≡ false) (λ x. (r ≡ true) × ((h : F) × Called g j (x, tt) true h))
      → YieldsList steps v s xs → ((x : A) (b : Bool) (q : F) → Called g f (x, tt) b q → (q ≡ f) × (b ≡ test (v x))) → r ≡ any test xs
  yields_any r d e k = any_from_yields_List test u f r d e k ∙ any_is test xs

  pub yields_first : (r : Option ℕ)
      → (zs : List A) × (o : Option A) × (j : F) × YieldsThen steps s zs o u × FoldsTo (λ p x q. Called g p (x, tt) false q) f zs j × MatchOption o (r ≡ None) (λ x. (r ≡ Some (length zs)) × ((h : F) × Called g j (x, tt) true h))
      → YieldsList steps v s xs → ((x : A) (b : Bool) (q : F) → Called g f (x, tt) b q → (q ≡ f) × (b ≡ test (v x))) → r ≡ first_from test 0 xs
  yields_first r d e k = position_from_yields_List test u f r d e k ∙ first_is test xs
