-- What a judgement's number tells, of a set of places, of a lent list, and in 27 and 28. Assumes nothing.
--     names        the judgement over a set of places
--     list_names   `satisfied_by_sorted_unique`; `satisfied_by` is this one of the sorted list
--     b_tells      an answer of 27 or 28: a is how many places there are, b the number
use mathlib.Core.Path.{◌≡◌, refl, sym, ◌∙◌, ap}
use mathlib.Core.Logic.{◌⊎◌, inl, inr}
use mathlib.Core.List.{List}
use mathlib.Core.Bool.{Bool, true, false, not}
use Prim.Native.Nat.{ℕ, ◌+◌, ◌-◌, ◌<◌}
use native.Mathlib.Omega.{arith}
use lib.Dec.{eqb, leb}
use lib.ListN.{length}
use borrow.Author.Tests.{eqb-true, eqb-false, eq-eqb, not-true, not-false}
use Rattle.std.specs.Prelude.{Option, Some, None, Ok}
use Rattle.lists.specs.Lists.{pick, both, first_from}
use Rattle.lists.proofs.Facts.{clash, first_at, FirstAt}
use Rattle.answer.specs.declared.Answer.{Answer}
use Rattle.threshold.specs.declared.Threshold.{Threshold}
use Rattle.threshold.specs.Threshold.{is_simple, shape_of, short, short_at, judged, judged_by, is_met, clause_named, satisfied}
use Rattle.satisfied.specs.Satisfied.{rising, satisfied_by_sorted_unique}
use Rattle.authority.specs.Authority.{quorum}
use Rattle.short_clause.specs.ShortClause.{by_clause, FirstUnsatisfied, NoneToName, NoneToNameIn, Tells, Refuses}

-- where there is none to name, 0 tells it
tells_none : {none : Type 0} {number : ℕ} (t : Threshold) (places : List ℕ) → number ≡ 0 → none → Tells none t places number
tells_none t places z none = (((λ _. none), λ _. z), λ some. absurd (some z))

module _ (t : Threshold) (places : List ℕ) where
  -- a search for the first unsatisfied clause
  searched : (n : ℕ) → first_from not 1 (by_clause t places) ≡ Some n → FirstUnsatisfied t places n
  searched n e =
      let ms = by_clause t places in
      let f : FirstAt not false 1 ms n = first_at not false 1 ms n e in
      let l : n < 1 + length ms = f.1.0 in
      (f.0, (omega (arith, l), (not-true _ f.1.1.0, λ k h g. not-false _ (f.1.1.1 (k - 1) (omega (arith, h, g))))))

  abbrev number : ℕ
  number = clause_named (judged_by t places)

  of_simple : is_simple t ≡ true → number ≡ 0
  unfolding judged
  of_simple e = rw e (by_test (leb t.simple (length places)))
    where
      by_test : (b : Bool) → clause_named (pick b (Ok tt) (short 0)) ≡ 0
      by_test true = refl
      by_test false = refl

  of_none : is_simple t ≡ false → eqb t.clauses 0 ≡ true → number ≡ 0
  unfolding judged
  of_none e c = rw (e, c)

  of_clauses : (f : Option ℕ) → is_simple t ≡ false → eqb t.clauses 0 ≡ false → first_from not 1 (by_clause t places) ≡ f → judged_by t places ≡ short_at f
  unfolding judged
  of_clauses f e c g = rw (e, c, g)

  -- of a clause that was found nothing of 'none to name' holds
  some_named : (n : ℕ) → is_simple t ≡ false → eqb t.clauses 0 ≡ false → judged_by t places ≡ short n → NoneToName t places → ⊥
  some_named n e c j (inl met) = clash (sym met ∙ ap is_met j)
  some_named n e c j (inr (inl simple)) = clash (sym simple ∙ e)
  some_named n e c j (inr (inr none)) = clash (sym (eq-eqb t.clauses 0 none) ∙ c)

  by_found : (f : Option ℕ) → is_simple t ≡ false → eqb t.clauses 0 ≡ false → first_from not 1 (by_clause t places) ≡ f → Tells (NoneToName t places) t places number
  by_found None e c g = let j = of_clauses None e c g in tells_none t places (ap clause_named j) (inl (ap is_met j))
  by_found (Some n) e c g =
      let j = of_clauses (Some n) e c g in
      let first = searched n g in
      let k : number ≡ n = ap clause_named j in
      (((λ z. absurd (omega (arith, z, k, first.0))), λ none. absurd (some_named n e c j none)), λ _. rw k first)

  pub names : Tells (NoneToName t places) t places number
  names = by_test (is_simple t) (eqb t.clauses 0) refl refl
    where
      by_test : (a b : Bool) → is_simple t ≡ a → eqb t.clauses 0 ≡ b → Tells (NoneToName t places) t places number
      by_test true b e c = tells_none t places (of_simple e) (inr (inl e))
      by_test false true e c = tells_none t places (of_none e c) (inr (inr (eqb-true t.clauses 0 c)))
      by_test false false e c = by_found (first_from not 1 (by_clause t places)) e c refl

-- ---- a lent list: the sorted entry
module _ (t : Threshold) (ps : List ℕ) where
  abbrev listed : ℕ
  listed = clause_named (satisfied_by_sorted_unique t ps)

  of_list : (good rises : Bool) → eqb (shape_of t) 0 ≡ good → rising ps ≡ rises → satisfied_by_sorted_unique t ps ≡ pick (both good rises) (judged_by t ps) (short 0)
  unfolding satisfied_by_sorted_unique
  of_list good rises e r = rw (e, r)

  of_good : satisfied_by_sorted_unique t ps ≡ judged_by t ps → shape_of t ≡ 0 → rising ps ≡ true → Tells (NoneToNameIn t ps) t ps listed
  of_good j z r =
      let told = names t ps in
      let k : listed ≡ clause_named (judged_by t ps) = ap clause_named j in
      rw k (((λ e. inl (told.0.0 e)), still), told.1)
    where
      still : NoneToNameIn t ps → clause_named (judged_by t ps) ≡ 0
      still (inl none) = (names t ps).0.1 none
      still (inr (inl falls)) = clash (sym r ∙ falls)
      still (inr (inr bad)) = absurd (bad z)

  pub list_names : Tells (NoneToNameIn t ps) t ps listed
  list_names = by_test (eqb (shape_of t) 0) (rising ps) refl refl
    where
      by_test : (a b : Bool) → eqb (shape_of t) 0 ≡ a → rising ps ≡ b → Tells (NoneToNameIn t ps) t ps listed
      by_test false b e r = tells_none t ps (ap clause_named (of_list false b e r)) (inr (inr (eqb-false (shape_of t) 0 e)))
      by_test true false e r = tells_none t ps (ap clause_named (of_list true false e r)) (inr (inl r))
      by_test true true e r = of_good (of_list true true e r) (eqb-true (shape_of t) 0 e) r

-- ---- 27 and 28
module _ (which : ℕ) (t : Threshold) (places : List ℕ) where
  unmet : satisfied t places ≡ false → NoneToName t places → (is_simple t ≡ true) ⊎ (t.clauses ≡ 0)
  unmet short (inl met) = clash (sym met ∙ short)
  unmet short (inr none) = none

  by_judgement : (met : Bool) → satisfied t places ≡ met → (which ≡ 0 → ⊥) → (quorum which t places).number ≡ which → Refuses which t places (quorum which t places)
  unfolding quorum
  by_judgement true e some n = absurd (some (sym (rw e at n)))
  by_judgement false e some n =
      let told = names t places in
      (rw e, (((λ z. unmet e (told.0.0 z)), λ none. told.0.1 (inr none)), told.1))

  pub b_tells : (x : Answer) → (which ≡ 0 → ⊥) → x ≡ quorum which t places → x.number ≡ which → Refuses which t places x
  b_tells x some e n =
      rw e (by_judgement (satisfied t places) refl some (sym (ap (λ (y : Answer). y.number) e) ∙ n))
