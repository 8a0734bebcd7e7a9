-- What holds of every machine that stays as it is where it does not take a thing. Assumes nothing.
--     held_is_fold     what is held is the fold of exactly the things taken
--     struck_out       with the others struck out the same is held, so every later answer is the same (later_answers),
--     all-taken        and each of the taken ones is taken again
use mathlib.Core.Path.{◌≡◌, refl, sym, ◌∙◌, ap}
use mathlib.Core.List.{List, ◌∷◌, ◌++◌, []}
use mathlib.Core.Bool.{Bool, true, false}
use lib.ListN.{length, replicate}
use Rattle.lists.specs.Lists.{pick}
use Rattle.runs.specs.Runs.{end_of, answers_of, kept_of}

-- a run in two parts
pub end-append : {H A : Type 0} (step : H → A → H) (h : H) (xs ys : List A) → end_of step h (xs ++ ys) ≡ end_of step (end_of step h xs) ys
unfolding end_of
end-append step h [] ys = refl
end-append step h (x ∷ xs) ys = end-append step (step h x) xs ys

module _ {H A : Type 0} (step : H → A → H) (takes : H → A → Bool) (stays : (h : H) (x : A) → takes h x ≡ false → step h x ≡ h) where
  pub held_is_fold : (fold : H → A → H) → ((h : H) (x : A) → takes h x ≡ true → step h x ≡ fold h x) → (h : H) (xs : List A)
      → end_of step h xs ≡ end_of fold h (kept_of step takes h xs)
  unfolding end_of kept_of
  held_is_fold fold same h [] = refl
  held_is_fold fold same h (x ∷ xs) = by_test (takes h x) refl (held_is_fold fold same (step h x) xs)
    where
      by_test : (t : Bool) → takes h x ≡ t → end_of step (step h x) xs ≡ end_of fold (step h x) (kept_of step takes (step h x) xs)
          → end_of step (step h x) xs ≡ end_of fold h (pick t (x ∷ kept_of step takes (step h x) xs) (kept_of step takes (step h x) xs))
      by_test true p ih = ih ∙ ap (λ (k : H). end_of fold k (kept_of step takes (step h x) xs)) (same h x p)
      by_test false p ih = ih ∙ ap (λ (k : H). end_of fold k (kept_of step takes (step h x) xs)) (stays h x p)

  pub struck_out : (h : H) (xs : List A) → end_of step h (kept_of step takes h xs) ≡ end_of step h xs
  unfolding end_of kept_of
  struck_out h [] = refl
  struck_out h (x ∷ xs) = by_test (takes h x) refl (struck_out (step h x) xs)
    where
      by_test : (t : Bool) → takes h x ≡ t → end_of step (step h x) (kept_of step takes (step h x) xs) ≡ end_of step (step h x) xs
          → end_of step h (pick t (x ∷ kept_of step takes (step h x) xs) (kept_of step takes (step h x) xs)) ≡ end_of step (step h x) xs
      by_test true p ih = ih
      by_test false p ih = ap (λ (k : H). end_of step k (kept_of step takes (step h x) xs)) (sym (stays h x p)) ∙ ih

  module _ {X : Type 0} (answer : H → A → X) where
    pub later_answers : (h : H) (xs later : List A) → answers_of step answer (end_of step h (kept_of step takes h xs)) later ≡ answers_of step answer (end_of step h xs) later
    later_answers h xs later = ap (λ (k : H). answers_of step answer k later) (struck_out h xs)

    pub all-taken : (taken : X) → ((h : H) (x : A) → takes h x ≡ true → answer h x ≡ taken) → (h : H) (xs : List A)
        → answers_of step answer h (kept_of step takes h xs) ≡ replicate (length (kept_of step takes h xs)) taken
    unfolding kept_of answers_of
    all-taken taken same h [] = refl
    all-taken taken same h (x ∷ xs) = by_test (takes h x) refl (all-taken taken same (step h x) xs)
      where
        by_test : (t : Bool) → takes h x ≡ t → answers_of step answer (step h x) (kept_of step takes (step h x) xs) ≡ replicate (length (kept_of step takes (step h x) xs)) taken
            → answers_of step answer h (pick t (x ∷ kept_of step takes (step h x) xs) (kept_of step takes (step h x) xs))
            ≡ replicate (length (pick t (x ∷ kept_of step takes (step h x) xs) (kept_of step takes (step h x) xs))) taken
        by_test true p ih = rw (same h x p) (ap (λ (ys : List X). taken ∷ ys) ih)
        by_test false p ih = ap (λ (k : H). answers_of step answer k (kept_of step takes (step h x) xs)) (sym (stays h x p)) ∙ ih
