-- The counting step over a list: after i elements the tally is that of the first i, so what is concluded after all is the whole answer. Assumes nothing.
--     tally_at, tally_none       the tally of the first i elements, and of none
--     Unlike, unlike-           none before position j is a copy of the element at i: one step of the search
--     copy_step, first_step     the step takes the tally of the first i to that of one more, for a copy and for a first one
--     too_many, few_enough      the whole answer, above 48 elements and not
--     as_by_value               it is authority's `receipted_by` on a list of the right shape
use mathlib.Core.Path.{◌≡◌, refl, sym, ap, ◌∙◌}
use mathlib.Core.Bool.{Bool, true, false}
use mathlib.Core.List.{List, ◌∷◌, ◌++◌, []}
use Prim.Native.Nat.{ℕ, ◌+◌, ◌<◌, ◌≤◌}
use native.Mathlib.Numerals.{add-one}
use native.Mathlib.Omega.{arith}
use lib.ListN.{length, length-take, take, get_or}
use lib.Seq.{take-suc, take_all}
use borrow.Author.Tests.{le-leb, lt-leb, lt-ltb, le-ltb}
use Rattle.lists.specs.Lists.{both, any, all}
use Rattle.lists.proofs.Facts.{both_on, both_assoc}
use Rattle.answer.specs.Answer.{refused}
use Rattle.places.proofs.Laws.{places-set}
use Rattle.verification.specs.declared.Siger.{Siger}
use Rattle.verification.specs.declared.Sigers.{Sigers}
use Rattle.verification.specs.declared.Counted.{Counted}
use Rattle.verification.specs.Verification.{signatures, same_wire, counted_of, verified_at, ondex_fits, shape_of}
use Rattle.verification.proofs.Laws.{blank, counted_none, firsts_in, firsts_none, none_before, copies, walk_other, walk_copy, walk_first, good}
use Rattle.items.specs.Items.{listed}
use Rattle.authority.specs.declared.Witnessing.{Witnessing}
use Rattle.authority.specs.Authority.{witnessed}
use Rattle.lent_receipts.specs.declared.Tally.{Tally}
use Rattle.lent_receipts.specs.Receipted.{receipted_from, step_of, none_yet, concluded}

tally : {n m : ℕ} {c d : Counted} {a b : Bool} → n ≡ m → c ≡ d → a ≡ b
    → ◌≡◌ {A = Tally} (record { firsts = n; counted = c; fits = a }) (record { firsts = m; counted = d; fits = b })
tally e f g = cc

-- ---- the tally of a list's first i
all_more : {A : Type 0} (f : A → Bool) (xs : List A) (x : A) → all f (xs ++ (x ∷ [])) ≡ both (all f xs) (f x)
unfolding all
all_more f [] x = both_on (f x)
all_more f (y ∷ ys) x = ap (both (f y)) (all_more f ys x) ∙ both_assoc (f y) (all f ys) (f x)

module _ (witnesses : ℕ) (xs : List Siger) where
  abbrev pub tally_at : ℕ → Tally
  tally_at i = record { firsts = firsts_in xs i; counted = counted_of witnesses 0 (take i xs); fits = all ondex_fits (take i xs) }

  pub tally_none : none_yet ≡ tally_at 0
  unfolding all
  tally_none = tally (sym (firsts_none xs)) (sym (counted_none witnesses 0)) refl

  abbrev here : ℕ → Siger
  here i = get_or xs i blank

  -- none before position j is equal to the element at i
  abbrev pub Unlike : ℕ → ℕ → Type 0
  Unlike i j = any (same_wire (here i)) (take j xs) ≡ false

  pub unlike_none : (i : ℕ) → Unlike i 0
  unlike_none i = none_before (here i)

  module _ (short : length xs ≤ 48) (i : ℕ) (in_List : i < length xs) {t : Tally} (so : t ≡ tally_at i) where
    set_is : t.firsts ≡ firsts_in xs i
    set_is = ap (λ (a : Tally). a.firsts) so

    counted_is : t.counted ≡ counted_of witnesses 0 (take i xs)
    counted_is = ap (λ (a : Tally). a.counted) so

    pub unlike_next : (j : ℕ) → j < length (take i xs) → Unlike i j → false ≡ copies xs i t.firsts (here i) j → Unlike i (j + 1)
    unlike_next j h u e = walk_other xs i t.firsts short in_List set_is (here i) refl j h (sym e) u

    fit_more : both t.fits (ondex_fits (here i)) ≡ all ondex_fits (take (i + 1) xs)
    fit_more = rw so (rw (add-one i, take-suc xs i blank in_List) (sym (all_more ondex_fits (take i xs) (here i))))

    pub copy_step : (j place : ℕ) → place ≡ j → j < length (take i xs) → true ≡ copies xs i t.firsts (here i) j → step_of witnesses t (here i) i place ≡ tally_at (i + 1)
    unfolding step_of
    copy_step j place p h e =
        let k : j < i = omega (arith, length-take i xs) in
        let w = walk_copy xs i t.firsts short in_List set_is (here i) refl witnesses 0 t.counted counted_is j h (sym e) in
        rw (p, lt-ltb j i k) (tally w.1 w.0 fit_more)

    pub first_step : (j place : ℕ) → place ≡ i → length (take i xs) ≤ j → j ≤ length (take i xs) → Unlike i j → step_of witnesses t (here i) i place ≡ tally_at (i + 1)
    unfolding step_of
    first_step j place p h g u =
        let n : i ≤ i = omega arith in
        let w = walk_first xs i t.firsts short in_List set_is (here i) refl witnesses 0 t.counted counted_is j h g u in
        rw (p, le-ltb i i n) (tally w.1 w.0 fit_more)

-- ---- the whole answer
module _ (toad witnesses : ℕ) (xs : List Siger) where
  pub too_many : 48 < length xs → refused 4 0 0 ≡ receipted_from toad witnesses xs
  unfolding receipted_from
  too_many h = rw (lt-leb (length xs) 48 h)

  pub few_enough : length xs ≤ 48 → (i : ℕ) → length xs ≤ i → {t : Tally} → t ≡ tally_at witnesses xs i → concluded toad t ≡ receipted_from toad witnesses xs
  unfolding receipted_from concluded
  few_enough h i k so = rw so (rw (take_all i xs k, le-leb (length xs) 48 h, places-set (verified_at witnesses xs)))

-- a list of the right shape, held by value, gets what it gets lent
pub as_by_value : (w : Witnessing) (l : Sigers) → length l.at ≡ 48 → shape_of l ≡ 0 → receipted_from w.toad (length (listed w.witnesses)) (signatures l) ≡ witnessed w l
unfolding receipted_from
as_by_value w l h e =
    let g = good l e in
    let n : length (signatures l) ≤ 48 = simp length-take (omega arith) in
    rw (le-leb (length (signatures l)) 48 n, g.fit)
