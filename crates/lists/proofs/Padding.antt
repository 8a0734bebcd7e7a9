-- A list in an array: what its used part is, and what one more element does to it. Assumes nothing.
use mathlib.Core.Path.{◌≡◌, refl, sym, ◌∙◌, ap}
use mathlib.Core.List.{List, ◌∷◌, ◌++◌, append_assoc, []}
use mathlib.Core.Bool.{Bool, true}
use Prim.Native.Nat.{ℕ, suc, ◌<◌, ◌≤◌, ◌+◌, ◌-◌}
use native.Mathlib.Numerals.{add-one}
use native.Mathlib.Omega.{arith}
use lib.ListN.{length, drop, take, set, get_or, replicate, length-append, length-replicate, replicate-append-replicate, length-take, length-drop, take-append-drop}
use lib.Seq.{take-append_seam, drop-append_seam, set-append_seam, take-append-add, take_at, take-suc, take-suc-set}
use Rattle.lists.specs.Lists.{all, padded}
use Rattle.lists.proofs.Facts.{both_true}

module _ {A : Type 0} (z : A) where
  pub padded-used : (n : ℕ) (xs : List A) → take (length xs) (padded n z xs) ≡ xs
  padded-used n xs = take-append_seam xs _

  pub padded-unused : (n : ℕ) (xs : List A) → drop (length xs) (padded n z xs) ≡ replicate (n - length xs) z
  padded-unused n xs = drop-append_seam xs _

  pub padded-length : (n : ℕ) (xs : List A) → length xs ≤ n → length (padded n z xs) ≡ n
  padded-length n xs h = simp (length-append, length-replicate) (omega arith)

  -- an element stored at the first unused place
  pub padded_push : (n : ℕ) (xs : List A) (x : A) → length xs < n → set (padded n z xs) (length xs) x ≡ padded n z (xs ++ (x ∷ []))
  padded_push n xs x h =
      let e : n - length xs ≡ suc (n - (length xs + 1)) = rw (← add-one) (omega arith) in
      let l : length (xs ++ (x ∷ [])) ≡ length xs + 1 = length-append xs (x ∷ []) in
      rw (e, l, append_assoc) (set-append_seam xs z (replicate (n - (length xs + 1)) z) x)

  take-replicate : (n m : ℕ) → n ≤ m → take n (replicate m z) ≡ replicate n z
  take-replicate n m h =
      let e : n + (m - n) ≡ m = omega arith in
      let f : replicate m z ≡ replicate n z ++ replicate (m - n) z = rw (replicate-append-replicate n (m - n) z, e) in
      rw f (take_at (replicate n z) (replicate (m - n) z) n (length-replicate n z))

  -- the first n places of a wider array, where the list fits them
  pub padded_narrow : (n m : ℕ) (xs : List A) → length xs ≤ n → n ≤ m → take n (padded m z xs) ≡ padded n z xs
  padded_narrow n m xs h g =
      let e : length xs + (n - length xs) ≡ n = omega arith in
      let f = take-append-add xs (replicate (m - length xs) z) (n - length xs) in
      let r = take-replicate (n - length xs) (m - length xs) (omega arith) in
      (rw e at f) ∙ ap (λ (l : List A). xs ++ l) r

  -- where a test that only z passes holds all along, the list is z all along
  pub zeros : (f : A → Bool) → ((x : A) → f x ≡ true → x ≡ z) → (xs : List A) → all f xs ≡ true → xs ≡ replicate (length xs) z
  unfolding all
  zeros f only [] e = refl
  zeros f only (x ∷ xs) e =
      let p = both_true (f x) (all f xs) e in
      let h : x ≡ z = only x p.0 in
      let t : xs ≡ replicate (length xs) z = zeros f only xs p.1 in
      ap (λ (y : A). y ∷ xs) h ∙ ap (λ (ys : List A). z ∷ ys) t

  -- an array whose places past n are zero is its used part, padded
  pub is_padded : (f : A → Bool) → ((x : A) → f x ≡ true → x ≡ z) → (size n : ℕ) (places : List A) → length places ≡ size → n ≤ size
      → all f (drop n places) ≡ true → places ≡ padded size z (take n places)
  is_padded f only size n places h g e =
      let l : length (take n places) ≡ n = simp length-take (omega arith) in
      let d : length (drop n places) ≡ size - length (take n places) = simp (length-drop, length-take) (omega arith) in
      let r : drop n places ≡ replicate (size - length (take n places)) z = rw d at (zeros f only (drop n places) e) in
      sym (take-append-drop n places) ∙ ap (λ (ys : List A). take n places ++ ys) r

-- one place copied: the first i agree, then the first i + 1
pub copy-next : {A : Type 0} (to from : List A) (i : ℕ) (d : A) → i < length to → i < length from → take i to ≡ take i from
    → take (i + 1) (set to i (get_or from i d)) ≡ take (i + 1) from
copy-next to from i d h g e = rw (add-one i, take-suc-set to i (get_or from i d) h, take-suc from i d g, e)
