-- Searches along a witness list, its checks in order, and the two passes of an update. Assumes nothing.
use mathlib.Core.Path.{◌≡◌, refl, sym, ◌∙◌}
use mathlib.Core.Bool.{Bool, true, false}
use mathlib.Core.List.{List, [], ◌∷◌, ◌++◌}
use Prim.Native.Nat.{ℕ, ◌+◌, ◌<◌, ◌≤◌}
use native.Mathlib.Numerals.{add-one}
use native.Mathlib.Omega.{arith}
use lib.Dec.{ltb}
use lib.ListN.{length, take, drop, get_or, set, length-take, length-append, drop_of_length-le}
use lib.Seq.{take_all, take-append-le, take-suc}
use mir.Val.{Val}
use denote.Laws.{Is}
use borrow.Author.Tests.{ltb-true, ltb-false, le-leb, lt-leb}
use Rattle.std.specs.Prelude.{Some, None}
use Rattle.lists.specs.Lists.{pick, either, any, filter, first_from}
use Rattle.lists.proofs.Walks.{head_of, any_here, any_next, any-end, first_here, first_next, first-end}
use Rattle.lists.proofs.Facts.{any_append}
use Rattle.lists.proofs.Padding.{padded_push}
use Rattle.item.specs.declared.Item.{Item}
use Rattle.item.specs.Item.{same_item, zero_item}
use Rattle.item.proofs.Laws.{same_item_lem}
use Rattle.items.specs.declared.Items.{Items}
use Rattle.items.specs.contracts.Items.{the_row}
use Rattle.items.specs.Items.{listed, packed, member}
use Rattle.items.proofs.Laws.{no_item, made, listed-packed, places-16}
use Rattle.answer.specs.Answer.{refused, accepted}
use Rattle.member_set.specs.Members.{repeat_from, absent, joined, change_of}
use Rattle.member_set.specs.Parts.{grown, pushed}

-- ---- the search for a repeat, place by place
module _ (xs : List Item) (i : ℕ) where
  pub repeat_here : i < length xs → member (take i xs) (get_or xs i no_item) ≡ true → repeat_from (take i xs) i (drop i xs) ≡ Some i
  unfolding repeat_from
  repeat_here h t = rw (head_of no_item xs i h, t)

  pub repeat_next : i < length xs → member (take i xs) (get_or xs i no_item) ≡ false
      → repeat_from (take i xs) i (drop i xs) ≡ repeat_from (take (i + 1) xs) (i + 1) (drop (i + 1) xs)
  unfolding repeat_from
  repeat_next h t = rw (head_of no_item xs i h, t) (rw (add-one i, take-suc xs i no_item h))

  pub repeat_none : length xs ≤ i → repeat_from (take i xs) i (drop i xs) ≡ None
  unfolding repeat_from
  repeat_none h = rw (drop_of_length-le xs h)

-- ---- the search for an overlap, place by place: of one x among ys, and of the first of xs
module _ (x : Item) (ys : List Item) (j : ℕ) where
  pub among_here : j < length ys → same_item x (get_or ys j no_item) ≡ true → any (same_item x) (drop j ys) ≡ true
  among_here h = any_here (same_item x) ys _ j (head_of no_item ys j h)

  pub among_next : j < length ys → same_item x (get_or ys j no_item) ≡ false → any (same_item x) (drop j ys) ≡ any (same_item x) (drop (j + 1) ys)
  among_next h = any_next (same_item x) ys _ j (head_of no_item ys j h)

  pub among_none : length ys ≤ j → any (same_item x) (drop j ys) ≡ false
  among_none h = any-end (same_item x) ys j h

module _ (ys xs : List Item) (i : ℕ) where
  pub overlap_here : i < length xs → member ys (get_or xs i no_item) ≡ true → first_from (member ys) i (drop i xs) ≡ Some i
  overlap_here h = first_here (member ys) xs _ i (head_of no_item xs i h)

  pub overlap_next : i < length xs → member ys (get_or xs i no_item) ≡ false → first_from (member ys) i (drop i xs) ≡ first_from (member ys) (i + 1) (drop (i + 1) xs)
  overlap_next h = first_next (member ys) xs _ i (head_of no_item xs i h)

  pub overlap_none : length xs ≤ i → first_from (member ys) i (drop i xs) ≡ None
  overlap_none h = first-end (member ys) xs i h

-- ---- a list on its way
grown_count : (ks : List Item) → (grown ks).count ≡ length ks
unfolding grown
grown_count ks = refl

grown_packed : (ks : List Item) → length ks ≤ 16 → grown ks ≡ packed ks
unfolding grown
grown_packed ks h = rw (take_all 16 ks h)

grown_push : (ks : List Item) (x : Item) → grown (ks ++ (x ∷ [])) ≡ pushed (grown ks) x
unfolding grown pushed
grown_push ks x = made (length-append ks (x ∷ [])) (sym (push_by (ltb (length ks) 16) refl))
  where
    push_by : (t : Bool) → ltb (length ks) 16 ≡ t → pick t (set (grown ks).at (length ks) x) (grown ks).at ≡ (grown (ks ++ (x ∷ []))).at
    push_by true e =
        let h : length ks < 16 = ltb-true (length ks) 16 e in
        let l : length (ks ++ (x ∷ [])) ≤ 16 = rw length-append (omega arith) in
        rw (take_all 16 ks (omega arith), take_all 16 (ks ++ (x ∷ [])) l) (padded_push zero_item 16 ks x h)
    push_by false e =
        let h : 16 ≤ length ks = ltb-false (length ks) 16 e in
        rw (take-append-le 16 ks (x ∷ []) h)

-- the used places are at most 16
pub listed_few : (l : Items) (vs : List Val) → Is the_row l vs → length (listed l) ≤ 16
listed_few l vs p = let n : length l.at ≡ 16 = places-16 l vs p in simp length-take (omega arith)

take_next : (xs : List Item) (i : ℕ) → i < length xs → take (i + 1) xs ≡ take i xs ++ (get_or xs i no_item ∷ [])
take_next xs i h = rw (add-one i, take-suc xs i no_item h)

-- ---- the members that are kept, one more of them
filter_more : (f : Item → Bool) (xs : List Item) (x : Item) → filter f (xs ++ (x ∷ [])) ≡ pick (f x) (filter f xs ++ (x ∷ [])) (filter f xs)
unfolding filter
filter_more f [] x = by_test (f x)
  where
    by_test : (b : Bool) → pick b (x ∷ []) [] ≡ pick b ([] ++ (x ∷ [])) []
    by_test true = refl
    by_test false = refl
filter_more f (y ∷ ys) x = rw (filter_more f ys x) (by_test (f y) (f x))
  where
    by_test : (b t : Bool) → pick b (y ∷ pick t (filter f ys ++ (x ∷ [])) (filter f ys)) (pick t (filter f ys ++ (x ∷ [])) (filter f ys))
        ≡ pick t (pick b (y ∷ filter f ys) (filter f ys) ++ (x ∷ [])) (pick b (y ∷ filter f ys) (filter f ys))
    by_test true true = refl
    by_test true false = refl
    by_test false true = refl
    by_test false false = refl

filter_few : (f : Item → Bool) (xs : List Item) → length (filter f xs) ≤ length xs
unfolding filter
filter_few f [] = omega arith
filter_few f (x ∷ xs) = by_test (f x) (filter_few f xs)
  where
    by_test : (b : Bool) → length (filter f xs) ≤ length xs → length (pick b (x ∷ filter f xs) (filter f xs)) ≤ length (x ∷ xs)
    by_test true h = omega (arith, h)
    by_test false h = omega (arith, h)

pub kept_none : (cuts : List Item) → grown (filter (absent cuts) []) ≡ packed []
unfolding grown filter
kept_none cuts = refl

module _ (cuts xs : List Item) (i : ℕ) where
  pub kept_in : i < length xs → member cuts (get_or xs i no_item) ≡ false
      → grown (filter (absent cuts) (take (i + 1) xs)) ≡ pushed (grown (filter (absent cuts) (take i xs))) (get_or xs i no_item)
  kept_in h t =
      let x = get_or xs i no_item in
      rw (take_next xs i h, filter_more (absent cuts) (take i xs) x, t) (grown_push (filter (absent cuts) (take i xs)) x)

  pub kept_out : i < length xs → member cuts (get_or xs i no_item) ≡ true → filter (absent cuts) (take (i + 1) xs) ≡ filter (absent cuts) (take i xs)
  kept_out h t = rw (take_next xs i h, filter_more (absent cuts) (take i xs) (get_or xs i no_item), t)

  pub kept_room : i < 32 → (grown (filter (absent cuts) (take i xs))).count < 32
  kept_room h =
      let few : length (filter (absent cuts) (take i xs)) ≤ length (take i xs) = filter_few (absent cuts) (take i xs) in
      let n : length (take i xs) ≤ i = simp length-take (omega arith) in
      rw grown_count (omega arith)

  pub kept_end : length xs ≤ 16 → length xs ≤ i → grown (filter (absent cuts) (take i xs)) ≡ packed (filter (absent cuts) xs)
  kept_end h g =
      let few : length (filter (absent cuts) xs) ≤ length xs = filter_few (absent cuts) xs in
      rw (take_all i xs g) (grown_packed (filter (absent cuts) xs) (omega arith))

-- ---- the list with its additions, one more of them
abbrev with_one : Item → List Item → List Item
with_one x ks = pick (member ks x) ks (ks ++ (x ∷ []))

joined_more : (ks xs : List Item) (x : Item) → joined ks (xs ++ (x ∷ [])) ≡ with_one x (joined ks xs)
unfolding joined
joined_more ks [] x = refl
joined_more ks (y ∷ ys) x = by_test (member ks y) (joined_more ks ys x) (joined_more (ks ++ (y ∷ [])) ys x)
  where
    by_test : (b : Bool) → joined ks (ys ++ (x ∷ [])) ≡ with_one x (joined ks ys) → joined (ks ++ (y ∷ [])) (ys ++ (x ∷ [])) ≡ with_one x (joined (ks ++ (y ∷ [])) ys)
        → pick b (joined ks (ys ++ (x ∷ []))) (joined (ks ++ (y ∷ [])) (ys ++ (x ∷ []))) ≡ with_one x (pick b (joined ks ys) (joined (ks ++ (y ∷ [])) ys))
    by_test true e f = e
    by_test false e f = f

-- its members are the first ones and the additions
joined_member : (ks xs : List Item) (y : Item) → member (joined ks xs) y ≡ either (member ks y) (member xs y)
unfolding joined any
joined_member ks [] y = none (member ks y)
  where
    none : (b : Bool) → b ≡ either b false
    none true = refl
    none false = refl
joined_member ks (x ∷ xs) y = by_test (joined_member ks xs y) (joined_member (ks ++ (x ∷ [])) xs y) (member ks x) (same_item y x) refl refl
  where
    both_ways : (a s m : Bool) → either (either a (either s false)) m ≡ either a (either s m)
    both_ways true s m = refl
    both_ways false true m = refl
    both_ways false false m = refl

    by_test : member (joined ks xs) y ≡ either (member ks y) (member xs y)
        → member (joined (ks ++ (x ∷ [])) xs) y ≡ either (member (ks ++ (x ∷ [])) y) (member xs y)
        → (b s : Bool) → member ks x ≡ b → same_item y x ≡ s
        → member (pick b (joined ks xs) (joined (ks ++ (x ∷ [])) xs)) y ≡ either (member ks y) (either s (member xs y))
    by_test k n true true e f = let h : y ≡ x = same_item_lem y x f in let g : member ks y ≡ true = rw h e in k ∙ rw g
    by_test k n true false e f = k
    by_test k n false s e f = n ∙ rw (any_append (same_item y) ks (x ∷ []), f) (both_ways (member ks y) s (member xs y))

joined_few : (ks xs : List Item) → length (joined ks xs) ≤ length ks + length xs
unfolding joined
joined_few ks [] = omega arith
joined_few ks (x ∷ xs) = by_test (member ks x) (joined_few ks xs) (rw length-append at (joined_few (ks ++ (x ∷ [])) xs))
  where
    by_test : (b : Bool) → length (joined ks xs) ≤ length ks + length xs → length (joined (ks ++ (x ∷ [])) xs) ≤ length ks + 1 + length xs
        → length (pick b (joined ks xs) (joined (ks ++ (x ∷ [])) xs)) ≤ length ks + length (x ∷ xs)
    by_test true h g = omega (arith, h)
    by_test false h g = omega (arith, g)

module _ (first xs : List Item) (i : ℕ) where
  joined_next : i < length xs → (b : Bool) → either (member first (get_or xs i no_item)) (member (take i xs) (get_or xs i no_item)) ≡ b
      → joined first (take (i + 1) xs) ≡ pick b (joined first (take i xs)) (joined first (take i xs) ++ (get_or xs i no_item ∷ []))
  joined_next h b t =
      let x = get_or xs i no_item in
      rw (take_next xs i h, joined_more first (take i xs) x, joined_member first (take i xs) x, t)

  pub joined_in : i < length xs → member first (get_or xs i no_item) ≡ false → member (take i xs) (get_or xs i no_item) ≡ false
      → grown (joined first (take (i + 1) xs)) ≡ pushed (grown (joined first (take i xs))) (get_or xs i no_item)
  joined_in h t u = rw (joined_next h false (rw (t, u))) (grown_push (joined first (take i xs)) (get_or xs i no_item))

  pub joined_kept : i < length xs → member first (get_or xs i no_item) ≡ true → joined first (take (i + 1) xs) ≡ joined first (take i xs)
  joined_kept h t = joined_next h true (rw t)

  pub joined_earlier : i < length xs → member (take i xs) (get_or xs i no_item) ≡ true → joined first (take (i + 1) xs) ≡ joined first (take i xs)
  joined_earlier h u = joined_next h true (rw u (on (member first (get_or xs i no_item))))
    where
      on : (b : Bool) → either b true ≡ true
      on true = refl
      on false = refl

  pub joined_room : length first ≤ 16 → i < 16 → (grown (joined first (take i xs))).count < 32
  joined_room f h =
      let few : length (joined first (take i xs)) ≤ length first + length (take i xs) = joined_few first (take i xs) in
      let n : length (take i xs) ≤ i = simp length-take (omega arith) in
      rw grown_count (omega arith)

pub joined_start : (first : Items) → first ≡ packed (listed first) → length (listed first) ≤ 16 → first ≡ grown (joined (listed first) [])
unfolding joined
joined_start first e h = e ∙ sym (grown_packed (listed first) h)

-- ---- the whole update
pub first_listed : (first : Items) (ks : List Item) → first ≡ packed ks → listed first ≡ ks
first_listed first ks e = rw e (listed-packed ks)

module _ (xs : List Item) where
  pub update_many : 16 < length xs → change_of xs ≡ record { answer = refused 38 (length xs) 0; list = packed [] }
  unfolding change_of
  update_many h = rw (lt-leb (length xs) 16 h)

  pub update_fits : length xs ≤ 16 → change_of xs ≡ record { answer = accepted; list = grown xs }
  unfolding change_of
  update_fits h = rw (le-leb (length xs) 16 h, grown_packed xs h)
