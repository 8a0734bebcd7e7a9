-- What is written is read back: bytes against the readings of the crates `format` and `layout`. Assumes nothing.
--     Reads, Codes     what it is for bytes to be read as a value
--     code-..          one line a field
use mathlib.Core.Path.{◌≡◌, refl, sym, ap, ◌∙◌}
use mathlib.Core.Bool.{Bool, true}
use mathlib.Core.List.{List, ◌∷◌, ◌++◌, append_assoc, append-nil, []}
use Prim.Native.Nat.{ℕ, zero, suc, ◌+◌, ◌*◌, ◌/◌, ◌%◌, ◌^◌, ◌≤◌, ◌<◌}
use native.Mathlib.Nat.{add-zero, add_assoc, div-add-mod', div-lt_iff_lt-mul, pow-suc}
use native.Mathlib.Omega.{arith}
use lib.Dec.{lit<}
use lib.ListN.{length, drop, get_or, length-append, length-drop}
use lib.Seq.{drop-drop, drop-append_seam, take_at, get_or-drop}
use borrow.Author.Tests.{le-leb, lt-ltb, eq-eqb}
use Rattle.format.specs.Parse.{Parse, got, ◌>>=◌, byte_at, be_from, num_at, raw_at, classed, many_at, list_at, ended}
use Rattle.writer.specs.Writing.{be}
use Rattle.snapshot.specs.Bytes.{each}
use Rattle.writer.proofs.Laws.{length_be}

-- the bytes xs, wherever they stand before a rest that R allows, are read as a
unfoldable pub Reads : {A : Type 0} → (List ℕ → Type 0) → (List ℕ → ℕ → Parse A) → List ℕ → A → Type 0
Reads R f xs a =
    (s : List ℕ) (at : ℕ) (rest : List ℕ) → R rest → at ≤ length s → drop at s ≡ xs ++ rest → f s at ≡ got a (at + length xs)

-- before any rest, and before none
abbrev pub Any : List ℕ → Type 0
Any rest = Unit

abbrev pub None : List ℕ → Type 0
None rest = rest ≡ []

abbrev pub Codes : {A : Type 0} → (List ℕ → ℕ → Parse A) → List ℕ → A → Type 0
Codes f xs a = Reads Any f xs a

module _ (s : List ℕ) (at : ℕ) (xs rest : List ℕ) (h : at ≤ length s) (e : drop at s ≡ xs ++ rest) where
  pub within : at + length xs ≤ length s
  within = omega (arith, simp (length-drop, length-append) at (ap length e))

  pub after : drop (at + length xs) s ≡ rest
  after = rw (← drop-drop, e, drop-append_seam)

-- ---- one field after another
module _ {A B : Type 0} (R : List ℕ → Type 0) (f : List ℕ → ℕ → Parse A) (k : A → List ℕ → ℕ → Parse B) where
  pub code_then : (xs ys : List ℕ) (a : A) (b : B) → Codes f xs a → Reads R (k a) ys b → Reads R (λ s. ◌>>=◌ (f s) (λ v. k v s)) (xs ++ ys) b
  unfolding Reads
  code_then xs ys a b p q s at rest r h e =
      let d : drop at s ≡ xs ++ (ys ++ rest) = rw append_assoc at e in
      rw (
        p s at (ys ++ rest) tt h d,
        q s (at + length xs) rest r (within s at xs (ys ++ rest) h d) (after s at xs (ys ++ rest) h d),
        length-append,
        add_assoc,
      )

  -- the last field
  pub code_last : (xs : List ℕ) (a : A) (b : B) → Codes f xs a → Reads R (k a) [] b → Reads R (λ s. ◌>>=◌ (f s) (λ v. k v s)) xs b
  code_last xs a b p q = let n : xs ++ [] ≡ xs = append-nil xs in rw (← n) (code_then xs [] a b p q)

pub code_got : {A : Type 0} (R : List ℕ → Type 0) (a b : A) → a ≡ b → Reads R (λ s. got a) [] b
unfolding Reads
code_got R a b i s at rest r h e = rw (i, add-zero)

pub code_classed : {A : Type 0} (R : List ℕ → Type 0) (good : Bool) (a : A) → good ≡ true → Reads R (λ s. classed good a) [] a
unfolding Reads
code_classed R good a g s at rest r h e = rw (g, add-zero)

pub code_ended : {A : Type 0} (a : A) → Reads None (λ s. ended s a) [] a
unfolding Reads ended
code_ended a s at rest r h e =
    let z : drop at s ≡ [] = e ∙ r in
    let n : at ≡ length s = omega (arith, simp length-drop at (ap length z)) in
    rw (eq-eqb at (length s) n, add-zero)

-- ---- numbers and bytes
be_snoc : (a : ℕ) (xs : List ℕ) (x : ℕ) → be_from a (xs ++ (x ∷ [])) ≡ be_from a xs * 256 + x
unfolding be_from
be_snoc a [] x = refl
be_snoc a (y ∷ xs) x = be_snoc (a * 256 + y) xs x

be_back : (w v : ℕ) → v < 256 ^ w → be_from 0 (be w v) ≡ v
unfolding be be_from
be_back zero v h = omega arith
be_back (suc w) v h =
    let k : v / 256 < 256 ^ w = (div-lt_iff_lt-mul (lit< tt)).1 (rw pow-suc at h) in
    be_snoc 0 (be w (v / 256)) (v % 256) ∙ rw (be_back w (v / 256) k) (div-add-mod' v 256)

pub code_number : (w v : ℕ) → v < 256 ^ w → Codes (num_at w) (be w v) v
unfolding Reads num_at
code_number w v h s at rest r k e =
    let l : length (be w v) ≡ w = length_be w v in
    let n : at + w ≤ length s = omega (arith, within s at (be w v) rest k e) in
    rw (le-leb _ _ n, e, take_at (be w v) rest w l, be_back w v h, l)

pub code_raw : (w : ℕ) (xs : List ℕ) → length xs ≡ w → Codes (raw_at w) xs xs
unfolding Reads raw_at
code_raw w xs l s at rest r k e =
    let n : at + w ≤ length s = omega (arith, within s at xs rest k e) in
    rw (le-leb _ _ n, e, take_at xs rest w l, l)

pub code_byte : (x : ℕ) → Codes byte_at (x ∷ []) x
unfolding Reads byte_at
code_byte x s at rest r k e =
    let n : at < length s = omega (arith, within s at (x ∷ []) rest k e) in
    let g : get_or s at 0 ≡ x = rw add-zero at (sym (get_or-drop at s 0 0)) ∙ ap (λ (y : List ℕ). get_or y 0 0) e in
    rw (lt-ltb _ _ n, g)

-- ---- values by one rule
abbrev pub Each : {A : Type 0} → (A → Type 0) → List A → Type 0
Each P [] = Unit
Each P (x ∷ xs) = P x × Each P xs

module _ {A : Type 0} (f : List ℕ → ℕ → Parse A) (bytes : A → List ℕ) where
  pub code_many : (xs : List A) → Each (λ x. Codes f (bytes x) x) xs → Codes (λ s. many_at (f s) (length xs)) (each bytes xs) xs
  unfolding Reads many_at each
  code_many [] c s at rest r k e = rw add-zero
  code_many (x ∷ xs) c s at rest r k e =
      let d : drop at s ≡ bytes x ++ (each bytes xs ++ rest) = rw append_assoc at e in
      let n = code_many xs c.1 s (at + length (bytes x)) rest tt (within s at (bytes x) _ k d) (after s at (bytes x) _ k d) in
      rw (c.0 s at (each bytes xs ++ rest) tt k d, n, length-append, add_assoc)

  pub code_list : (limit : ℕ) (xs : List A) → length xs ≤ limit → Each (λ x. Codes f (bytes x) x) xs
      → Codes (λ s. list_at (f s) limit s) (length xs ∷ each bytes xs) xs
  unfolding Reads list_at
  code_list limit xs h c s at rest r k e =
      let w = within s at (length xs ∷ []) (each bytes xs ++ rest) k e in
      let m = code_many xs c s (at + 1) rest tt w (after s at (length xs ∷ []) (each bytes xs ++ rest) k e) in
      let j : at + 1 + length (each bytes xs) ≡ at + suc (length (each bytes xs)) = omega arith in
      rw (code_byte (length xs) s at (each bytes xs ++ rest) tt k e, le-leb (length xs) limit h, m, j)
