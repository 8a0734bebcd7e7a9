-- Lists of places: rising ones, sorted ones without repeats, and their judgement by a set and a number. Assumes nothing.
--     rising_answer        strictly rising, as `is_sorted_by` answers
--     sorted_among, sorted_rises, insert-length   what is in a sorted list, that it rises, and how long it is
--     count_..             how many numbers a list names, place by place
--     of_set, by_..        a judgement over a list, from its set and its number
use mathlib.Core.Path.{◌≡◌, refl, sym, ◌∙◌, ap}
use mathlib.Core.List.{List, ◌∷◌, []}
use mathlib.Core.Bool.{Bool, true, false}
use Prim.Native.Nat.{ℕ, zero, suc, ◌<◌, ◌≤◌, ◌+◌, ◌-◌}
use native.Mathlib.Numerals.{add-one}
use native.Mathlib.Omega.{arith}
use lib.Dec.{eqb, ltb, leb}
use lib.ListN.{length, take, drop, length-drop, get_or, drop_of_length-le}
use lib.Seq.{take_all}
use borrow.Author.Tests.{lt-ltb, le-ltb, ltb-true, ltb-false, eq-eqb, ne_eqb, eqb-true, eqb-false}
use Rattle.std.specs.List.{IsAllAdjacentAnswer, list_any}
use Rattle.std.proofs.lemmas.Grind.{common_steps}
use Rattle.lists.specs.Lists.{pick, either, any}
use Rattle.lists.proofs.Facts.{clash, both_true, both_off}
use Rattle.lists.proofs.Walks.{head_of}
use Rattle.places.specs.Places.{among, set_of, bit_at}
use Rattle.places.proofs.Laws.{bit_set, eqb_sym}
use Rattle.threshold.specs.declared.Threshold.{Threshold}
use Rattle.threshold.specs.Threshold.{Judgement, shape_of, judged, judged_by}
use Rattle.threshold.proofs.Laws.{any_is, judged-same}
use Rattle.satisfied.specs.Satisfied.{rising_after, rising, insert, sorted_unique, satisfied_by_sorted_unique, satisfied_by}

-- ---- strictly rising, place by place
rising_all : (ps : List ℕ) → ((k : ℕ) → suc k < length ps → get_or ps k 0 < get_or ps (suc k) 0) → rising ps ≡ true
unfolding rising_after
rising_all [] up = refl
rising_all (x ∷ []) up = refl
rising_all (x ∷ y ∷ ys) up =
    let here : x < y = up 0 (omega arith) in
    rw (lt-ltb x y here) (rising_all (y ∷ ys) (λ k l. up (suc k) (omega arith)))

falls_at : (ps : List ℕ) (k : ℕ) → suc k < length ps → get_or ps (suc k) 0 ≤ get_or ps k 0 → rising ps ≡ false
unfolding rising_after
falls_at [] k l h = absurd (omega arith)
falls_at (x ∷ []) k l h = absurd (omega arith)
falls_at (x ∷ y ∷ ys) zero l h = rw (le-ltb x y h)
falls_at (x ∷ y ∷ ys) (suc k) l h = rw (falls_at (y ∷ ys) k (omega arith) h) (both_off (ltb x y))

-- what `is_sorted_by` answers
pub rising_answer : (ps : List ℕ) (r : Bool) → IsAllAdjacentAnswer (λ x y b. b ≡ ltb x y) ps r → r ≡ rising ps
rising_answer ps true h = sym (rising_all ps (λ k l. let n : k + 1 ≡ suc k = add-one k in ltb-true _ _ (rw n at (sym (h k 0 (omega arith))))))
rising_answer ps false h =
    let n : h.0 + 1 ≡ suc h.0 = add-one h.0 in
    sym (falls_at ps h.0 (omega (arith, h.1)) (ltb-false _ _ (rw n at (sym (h.2 0)))))

-- ---- a number put into a list: first, already there, or further on
module _ (x y : ℕ) (ys : List ℕ) where
  insert-first : x < y → insert x (y ∷ ys) ≡ x ∷ y ∷ ys
  unfolding insert
  insert-first h = rw (lt-ltb x y h)

  insert_there : x ≡ y → insert x (y ∷ ys) ≡ y ∷ ys
  unfolding insert
  insert_there h = rw (le-ltb x y (omega (arith, h)), eq-eqb x y h)

  insert_on : y < x → insert x (y ∷ ys) ≡ y ∷ insert x ys
  unfolding insert
  insert_on h = rw (le-ltb x y (omega (arith, h)), ne_eqb x y (λ e. omega (arith, h, e)))

  -- so what holds in the three cases holds
  by_order : (P : List ℕ → Type 0) → (x < y → P (x ∷ y ∷ ys)) → (x ≡ y → P (y ∷ ys)) → (y < x → P (y ∷ insert x ys)) → P (insert x (y ∷ ys))
  by_order P first there on = by_test (ltb x y) (eqb x y) refl refl
    where
      by_test : (a b : Bool) → ltb x y ≡ a → eqb x y ≡ b → P (insert x (y ∷ ys))
      by_test true b e f = let h = ltb-true x y e in rw (insert-first h) (first h)
      by_test false true e f = let h = eqb-true x y f in rw (insert_there h) (there h)
      by_test false false e f =
          let l = ltb-false x y e in
          let n = eqb-false x y f in
          let h : y < x = omega (arith, l, n) in
          rw (insert_on h) (on h)

-- what is in it
swap : (a b c : Bool) → either a (either b c) ≡ either b (either a c)
swap true true c = refl
swap true false c = refl
swap false true c = refl
swap false false c = refl

twice : (a b c : Bool) → a ≡ b → either b c ≡ either a (either b c)
twice true true c e = refl
twice true false c e = clash e
twice false b c e = refl

insert-among : (k x : ℕ) (ys : List ℕ) → among (insert x ys) k ≡ either (eqb k x) (among ys k)
unfolding any insert
insert-among k x [] = refl
insert-among k x (y ∷ ys) =
    let on : among (insert x ys) k ≡ either (eqb k x) (among ys k) = insert-among k x ys in
    by_order x y ys (λ (l : List ℕ). among l k ≡ either (eqb k x) (either (eqb k y) (among ys k)))
    (λ h. refl)
    (λ h. twice (eqb k x) (eqb k y) (among ys k) (ap (eqb k) h))
    (λ h. ap (either (eqb k y)) on ∙ swap (eqb k y) (eqb k x) (among ys k))

pub sorted_among : (ps : List ℕ) (k : ℕ) → among (sorted_unique ps) k ≡ among ps k
unfolding any sorted_unique
sorted_among [] k = refl
sorted_among (p ∷ ps) k = insert-among k p (sorted_unique ps) ∙ ap (either (eqb k p)) (sorted_among ps k)

-- it rises
after-insert : (a x : ℕ) (ys : List ℕ) → a < x → rising_after a ys ≡ true → rising_after a (insert x ys) ≡ true
unfolding rising_after insert
after-insert a x [] h e = rw (lt-ltb a x h)
after-insert a x (y ∷ ys) h e =
    let p = both_true (ltb a y) (rising_after y ys) e in
    let on : y < x → rising_after y (insert x ys) ≡ true = λ l. after-insert y x ys l p.1 in
    by_order x y ys (λ (l : List ℕ). rising_after a l ≡ true)
    (λ l. rw (lt-ltb a x h, lt-ltb x y l) p.1)
    (λ l. e)
    (λ l. rw p.0 (on l))

rising-insert : (x : ℕ) (ys : List ℕ) → rising ys ≡ true → rising (insert x ys) ≡ true
unfolding rising_after insert
rising-insert x [] e = refl
rising-insert x (y ∷ ys) e =
    by_order x y ys (λ (l : List ℕ). rising l ≡ true) (λ l. rw (lt-ltb x y l) e) (λ l. e) (λ l. after-insert y x ys l e)

pub sorted_rises : (ps : List ℕ) → rising (sorted_unique ps) ≡ true
unfolding sorted_unique
sorted_rises [] = refl
sorted_rises (p ∷ ps) = rising-insert p (sorted_unique ps) (sorted_rises ps)

-- how long it is
under : (x y : ℕ) (ys : List ℕ) → x ≤ y → rising_after y ys ≡ true → among ys x ≡ false
unfolding any rising_after
under x y [] h e = refl
under x y (z ∷ zs) h e =
    let p = both_true (ltb y z) (rising_after z zs) e in
    let l : y < z = ltb-true y z p.0 in
    rw (ne_eqb x z (λ d. omega (arith, h, l, d))) (under x z zs (omega (arith, h, l)) p.1)

tail_rises : (y : ℕ) (ys : List ℕ) → rising_after y ys ≡ true → rising ys ≡ true
unfolding rising_after
tail_rises y [] e = refl
tail_rises y (z ∷ zs) e = (both_true (ltb y z) (rising_after z zs) e).1

pub insert-length : (x : ℕ) (ys : List ℕ) → rising ys ≡ true → length (insert x ys) ≡ length ys + pick (among ys x) 0 1
unfolding any insert
insert-length x [] e = refl
insert-length x (y ∷ ys) e =
    let ih : length (insert x ys) ≡ length ys + pick (among ys x) 0 1 = insert-length x ys (tail_rises y ys e) in
    by_order x y ys (λ (l : List ℕ). length l ≡ length (y ∷ ys) + pick (either (eqb x y) (among ys x)) 0 1)
    (λ l. rw (ne_eqb x y (λ d. omega (arith, l, d)), under x y ys (omega (arith, l)) e) (omega arith))
    (λ l. rw (eq-eqb x y l) (omega arith))
    (λ l. rw (ne_eqb x y (λ d. omega (arith, l, d))) (omega (arith, ih)))

-- ---- how many numbers a list names, place by place: a number counts at its last place
abbrev pub named : List ℕ → ℕ
named ps = length (sorted_unique ps)

named_next : (ps : List ℕ) (x i : ℕ) → drop i ps ≡ x ∷ drop (i + 1) ps → named (drop i ps) ≡ named (drop (i + 1) ps) + pick (among (drop (i + 1) ps) x) 0 1
unfolding sorted_unique
named_next ps x i e =
    let r = drop (i + 1) ps in
    rw (e, ← sorted_among r x) (insert-length x (sorted_unique r) (sorted_rises r))

-- a slice from a place on is the rest
take_rest : (ps : List ℕ) (i : ℕ) → take (length ps - i) (drop i ps) ≡ drop i ps
take_rest ps i = take_all (length ps - i) (drop i ps) (omega (arith, length-drop i ps))

pub asked : (p : ℕ → Bool) (ps : List ℕ) (i : ℕ) → list_any p (take (length ps - i) (drop i ps)) ≡ list_any p (drop i ps)
asked p ps i = ap (list_any p) (take_rest ps i)

-- the code asks whether the number is named again behind its place
among_is : (ps : List ℕ) (x : ℕ) → list_any (λ y. eqb y x) ps ≡ among ps x
among_is ps x = any_is (λ y. eqb y x) (eqb x) (λ y. eqb_sym y x) ps

module _ (ps : List ℕ) (left i : ℕ) (h : i < length ps) where
  pub count_again : list_any (λ y. eqb y (get_or ps i 0)) (drop (i + 1) ps) ≡ true → leb left (named (drop (i + 1) ps)) ≡ leb left (named (drop i ps))
  count_again e =
      let n = named_next ps (get_or ps i 0) i (head_of 0 ps i h) in
      ap (leb left) (omega (arith, rw (sym (among_is (drop (i + 1) ps) (get_or ps i 0)) ∙ e) at n))

  pub count_new : (left ≡ 0 → ⊥) → list_any (λ y. eqb y (get_or ps i 0)) (drop (i + 1) ps) ≡ false → leb (left - 1) (named (drop (i + 1) ps)) ≡ leb left (named (drop i ps))
  count_new ne e =
      let n = named_next ps (get_or ps i 0) i (head_of 0 ps i h) in
      let m : named (drop i ps) ≡ named (drop (i + 1) ps) + 1 = omega (arith, rw (sym (among_is (drop (i + 1) ps) (get_or ps i 0)) ∙ e) at n) in
      rw m (grind (arith, common_steps))

pub count_end : (ps : List ℕ) (left i : ℕ) → length ps ≤ i → eqb left 0 ≡ leb left (named (drop i ps))
unfolding sorted_unique
count_end ps left i h = rw (drop_of_length-le ps h) (grind (arith, common_steps))

-- ---- a judgement over a list
pub by_list : (t : Threshold) (ps : List ℕ) → shape_of t ≡ 0 → rising ps ≡ true → judged_by t ps ≡ satisfied_by_sorted_unique t ps
unfolding satisfied_by_sorted_unique
by_list t ps g r = rw (eq-eqb (shape_of t) 0 g, r)

module _ (t : Threshold) (ps : List ℕ) where
  -- a judgement over the set is one over the list
  pub of_set : (n set : ℕ) (j : Judgement) → length t.weights ≡ 16 → set ≡ set_of 16 (among ps) → j ≡ judged t n (bit_at set) → j ≡ judged t n (among ps)
  of_set n set j h e d =
      d ∙ ap (λ (s : ℕ). judged t n (bit_at s)) e ∙ judged-same (bit_at (set_of 16 (among ps))) (among ps) (bit_set 16 (among ps)) t n (omega (arith, h))

  -- a weighted threshold does not ask how many places there are
  any-number : (n m : ℕ) (f : ℕ → Bool) → eqb t.tag 0 ≡ false → judged t n f ≡ judged t m f
  unfolding judged
  any-number n m f e = rw e

  pub by_places : length t.weights ≡ 16 → shape_of t ≡ 0 → (t.tag ≡ 0 → ⊥) → judged t 0 (among ps) ≡ satisfied_by t ps
  by_places h g ne =
      let sorted : judged t 0 (among ps) ≡ judged t 0 (among (sorted_unique ps)) =
      judged-same (among ps) (among (sorted_unique ps)) (λ k _. sym (sorted_among ps k)) t 0 (omega (arith, h)) in
      sorted ∙ any-number 0 (named ps) (among (sorted_unique ps)) (ne_eqb t.tag 0 ne) ∙ by_list t (sorted_unique ps) g (sorted_rises ps)
