-- Signatures: which are no copies, the sets of places one signature at a time, and lists of the right shape. Assumes nothing.
--     flags_equal, same_raw, list_all_is   what `==` and a chain give, in this repository's words
--     counted-copy, counted_more, counted_none   one more signature in a list
--     next_                    the same along an array
--     wire_trans               what equals a copy equals the one copied
--     firsts_, list_           the positions of a list's first ones, one more signature, and a step of the search among them
--     walk_, front_            one round of the walk over a list; the element at a place of its first m
--     good, packed-signatures  what a shape without a fault says; a list of the right shape is its signatures, packed
use mathlib.Core.Path.{◌≡◌, refl, sym, ap, ◌∙◌}
use mathlib.Core.Bool.{Bool, true, false, beq, ◌&&◌}
use mathlib.Core.List.{List, [], ◌∷◌, ◌++◌, append-nil, append_assoc}
use Prim.Native.Nat.{ℕ, ◌+◌, ◌<◌, ◌≤◌}
use native.Mathlib.Numerals.{add-one}
use native.Mathlib.Omega.{arith}
use lib.Dec.{eqb, ltb, leb}
use lib.ListN.{length, length-take, get_or, take, drop}
use lib.Seq.{take-suc}
use borrow.Author.Tests.{eqb-true, leb-true}
use Rattle.std.proofs.lemmas.List.{get_or-take}
use Rattle.std.specs.Prelude.{nat_eq}
use Rattle.std.specs.Cmp.Lexicographic.{pointwise}
use Rattle.std.specs.List.{list_all}
use Rattle.lists.specs.Lists.{pick, both, either, any, all, same_numbers}
use Rattle.lists.proofs.Facts.{both_true, both_assoc, picks, same-numbers, clash}
use Rattle.lists.proofs.Padding.{is_padded}
use Rattle.places.specs.Places.{set_of, with_place}
use Rattle.places.proofs.Laws.{with, with-set, set_same, set-none, either_false}
use Rattle.firsts.specs.Firsts.{has_first, with_first, first_ones}
use Rattle.firsts.proofs.Laws.{any_more, none_yet_lem, first-kept, first_more, is_copy, no_copy}
use Rattle.verification.specs.declared.Siger.{Siger}
use Rattle.verification.specs.declared.Sigers.{Sigers}
use Rattle.verification.specs.declared.Counted.{Counted}
use Rattle.verification.specs.Verification.{signatures, same_flag, same_wire, firsts, signs_at, exposes_at, verified_at, exposed_at, counted_of}
use Rattle.verification.specs.Verification.{exposed_with, counted_with, no_siger, ondex_fits, zero_siger, packed_sigers, shape_of}

-- the element that an array of signatures has past its end, as Rattle has it
abbrev pub blank : Siger
blank = record { code = 0; index = record { 0 = 0 }; dual = false; ondex = record { 0 = 0 }; raw = []; verified = false; matches = false }

-- ---- equality as the code writes it
and_both : (a b : Bool) → (a && b) ≡ both a b
and_both true b = refl
and_both false b = refl

pub flags_equal : (a b : Bool) → beq a b ≡ same_flag a b
flags_equal true true = refl
flags_equal true false = refl
flags_equal false true = refl
flags_equal false false = refl

pub same_raw : (xs ys : List ℕ) → pointwise nat_eq xs ys ≡ same_numbers xs ys
unfolding same_numbers
same_raw [] [] = refl
same_raw [] (y ∷ ys) = refl
same_raw (x ∷ xs) [] = refl
same_raw (x ∷ xs) (y ∷ ys) = rw (same_raw xs ys) (and_both (eqb x y) (same_numbers xs ys))

pub list_all_is : {A : Type 0} (f : A → Bool) (xs : List A) → list_all f xs ≡ all f xs
unfolding all
list_all_is f [] = refl
list_all_is f (x ∷ xs) = rw (list_all_is f xs) (and_both (f x) (all f xs))

made : {v w x y : ℕ} → v ≡ w → x ≡ y → ◌≡◌ {A = Counted} (record { verified = v; exposed = x }) (record { verified = w; exposed = y })
made e f = cc

-- ---- one more signature
firsts_more : (before xs : List Siger) (s : Siger) → firsts before (xs ++ (s ∷ [])) ≡ firsts before xs ++ pick (any (same_wire s) (before ++ xs)) [] (s ∷ [])
unfolding firsts
firsts_more before [] s = rw (append-nil before)
firsts_more before (x ∷ xs) s =
    let e : (before ++ (x ∷ [])) ++ xs ≡ before ++ (x ∷ xs) = append_assoc before (x ∷ []) xs in
    let h = rw e at (firsts_more (before ++ (x ∷ [])) xs s) in
    rw h (moves (any (same_wire x) before) x (firsts (before ++ (x ∷ [])) xs) (pick (any (same_wire s) (before ++ (x ∷ xs))) [] (s ∷ [])))
  where
    moves : (b : Bool) (y : Siger) (ys zs : List Siger) → pick b (ys ++ zs) (y ∷ (ys ++ zs)) ≡ pick b ys (y ∷ ys) ++ zs
    moves true y ys zs = refl
    moves false y ys zs = refl

-- the sets of signatures without copies
abbrev tally : ℕ → ℕ → List Siger → Counted
tally keys next fs = record { verified = set_of 16 (λ k. any (signs_at keys k) fs); exposed = set_of 16 (λ k. any (exposes_at keys next k) fs) }

set_more : (b : Bool) (p : ℕ) (f g : ℕ → Bool) → ((k : ℕ) → g k ≡ either (f k) (both b (eqb p k))) → set_of 16 g ≡ pick b (with_place (set_of 16 f) p) (set_of 16 f)
set_more true p f g h = set_same 16 g (with p f) (λ k l. h k) ∙ sym (with-set f p)
set_more false p f g h = set_same 16 g f (λ k l. h k ∙ either_false (f k))

-- two fields chosen by one test, and a choice within a choice
apart : (b : Bool) (v w x y : ℕ)
    → ◌≡◌ {A = Counted} (record { verified = pick b v w; exposed = pick b x y }) (pick b (record { verified = v; exposed = x }) (record { verified = w; exposed = y }))
apart true v w x y = refl
apart false v w x y = refl

within : (b o : Bool) (x y : ℕ) → pick (both b o) x y ≡ pick b (pick o x y) y
within true o x y = refl
within false o x y = refl

module _ (keys next : ℕ) where
  tally_more : (fs : List Siger) (s : Siger) → tally keys next (fs ++ (s ∷ [])) ≡ counted_with keys next (tally keys next fs) s
  unfolding counted_with exposed_with
  tally_more fs s =
      let v : Bool = both s.verified (ltb s.index.0 keys) in
      let x : Bool = both s.dual (both (ltb s.ondex.0 next) s.matches) in
      made
      (set_more v s.index.0 (λ k. any (signs_at keys k) fs) (λ k. any (signs_at keys k) (fs ++ (s ∷ [])))
      (λ k. any_more (signs_at keys k) fs s ∙ ap (either (any (signs_at keys k) fs)) (both_assoc s.verified (ltb s.index.0 keys) (eqb s.index.0 k))))
      (set_more (both v x) s.ondex.0 (λ k. any (exposes_at keys next k) fs) (λ k. any (exposes_at keys next k) (fs ++ (s ∷ [])))
      (λ k. any_more (exposes_at keys next k) fs s ∙ ap (either (any (exposes_at keys next k) fs)) (grouped v s.dual (ltb s.ondex.0 next) s.matches (eqb s.ondex.0 k)))
      ∙ within v x _ _)
      ∙ apart v _ _ _ _
    where
      grouped : (a b c d e : Bool) → both a (both b (both c (both d e))) ≡ both (both a (both b (both c d))) e
      grouped true true c d e = both_assoc c d e
      grouped true false c d e = refl
      grouped false b c d e = refl

  counted_is : (xs : List Siger) → counted_of keys next xs ≡ tally keys next (firsts [] xs)
  unfolding verified_at exposed_at
  counted_is xs = refl

  -- a copy of one before it changes nothing; any other puts its places in
  pub counted-copy : (xs : List Siger) (s : Siger) → any (same_wire s) xs ≡ true → counted_of keys next xs ≡ counted_of keys next (xs ++ (s ∷ []))
  counted-copy xs s e =
      let f : firsts [] (xs ++ (s ∷ [])) ≡ firsts [] xs = firsts_more [] xs s ∙ rw e (append-nil (firsts [] xs)) in
      rw (counted_is xs, counted_is (xs ++ (s ∷ [])), f)

  pub counted_more : (xs : List Siger) (s : Siger) → any (same_wire s) xs ≡ false
      → counted_with keys next (counted_of keys next xs) s ≡ counted_of keys next (xs ++ (s ∷ []))
  counted_more xs s e =
      let f : firsts [] (xs ++ (s ∷ [])) ≡ firsts [] xs ++ (s ∷ []) = firsts_more [] xs s ∙ rw e in
      rw (counted_is xs, counted_is (xs ++ (s ∷ [])), f, tally_more (firsts [] xs) s)

  pub counted_none : counted_of keys next [] ≡ record { verified = 0; exposed = 0 }
  unfolding verified_at exposed_at firsts any
  counted_none = made (set-none 16) (set-none 16)

-- ---- along an array: one more place
module _ (keys next : ℕ) (at : List Siger) (i : ℕ) (c : Counted) (h : i < length at) (e : c ≡ counted_of keys next (take i at)) where
  pub next_copy : any (same_wire (get_or at i blank)) (take i at) ≡ true → c ≡ counted_of keys next (take (i + 1) at)
  next_copy f = rw (add-one i, take-suc at i blank h) (e ∙ counted-copy keys next (take i at) (get_or at i blank) f)

  pub next_more : any (same_wire (get_or at i blank)) (take i at) ≡ false → counted_with keys next c (get_or at i blank) ≡ counted_of keys next (take (i + 1) at)
  next_more f = rw (add-one i, take-suc at i blank h, e) (counted_more keys next (take i at) (get_or at i blank) f)

-- ---- copies of copies
record Five (a b c d e : Bool) : Type 0 where
  one : a ≡ true
  two : b ≡ true
  three : c ≡ true
  four : d ≡ true
  five : e ≡ true

all_five : (a b c d e : Bool) → both a (both b (both c (both d e))) ≡ true → Five a b c d e
all_five a b c d e h =
    let p = both_true a (both b (both c (both d e))) h in
    let q = both_true b (both c (both d e)) p.1 in
    let r = both_true c (both d e) q.1 in
    let t = both_true d e r.1 in
    record { one = p.0; two = q.0; three = r.0; four = t.0; five = t.1 }

same_flags : (a b : Bool) → same_flag a b ≡ true → a ≡ b
same_flags true true e = refl
same_flags true false e = sym e
same_flags false true e = clash (sym e)
same_flags false false e = refl

pub wire_trans : (x y z : Siger) → same_wire x y ≡ true → same_wire y z ≡ true → same_wire x z ≡ true
unfolding same_wire
wire_trans x y z e f =
    let p = all_five (eqb x.code y.code) (eqb x.index.0 y.index.0) (same_flag x.dual y.dual) (eqb x.ondex.0 y.ondex.0) (same_numbers x.raw y.raw) e in
    rw (
      eqb-true x.code y.code p.one,
      eqb-true x.index.0 y.index.0 p.two,
      same_flags x.dual y.dual p.three,
      eqb-true x.ondex.0 y.ondex.0 p.four,
      same-numbers x.raw y.raw p.five,
    ) f

-- ---- the search for a copy among the first ones
abbrev pub firsts_in : List Siger → ℕ → ℕ
firsts_in xs i = first_ones same_wire (λ p. get_or xs p blank) (λ p. take p xs) i

one_further : (xs : List Siger) (p : ℕ) → p < length xs → take (p + 1) xs ≡ take p xs ++ (get_or xs p blank ∷ [])
one_further xs p h = rw (add-one p) (take-suc xs p blank h)

pub firsts_none : (xs : List Siger) → firsts_in xs 0 ≡ 0
firsts_none xs = none_yet_lem same_wire (λ p. get_or xs p blank) (λ p. take p xs)

-- before the first position there is none
pub none_before : (x : Siger) → any (same_wire x) [] ≡ false
unfolding any
none_before x = refl

module _ (xs : List Siger) (i set : ℕ) (e : set ≡ firsts_in xs i) where
  pub firsts_kept : any (same_wire (get_or xs i blank)) (take i xs) ≡ true → set ≡ firsts_in xs (i + 1)
  firsts_kept f = e ∙ first-kept same_wire (λ p. get_or xs p blank) (λ p. take p xs) i f

  pub firsts_with : i < 64 → any (same_wire (get_or xs i blank)) (take i xs) ≡ false → with_first set i ≡ firsts_in xs (i + 1)
  firsts_with h f = rw e (first_more same_wire (λ p. get_or xs p blank) (λ p. take p xs) i h f)

  module _ (x : Siger) (j : ℕ) (h : j < i) (g : i ≤ length xs) where
    pub list_copy : both (has_first set j) (same_wire x (get_or xs j blank)) ≡ true → any (same_wire x) (take i xs) ≡ true
    list_copy f = is_copy same_wire (λ p. get_or xs p blank) (λ p. take p xs) wire_trans (length xs) (one_further xs) x i j h g (rw e at f)

    pub list_other : i ≤ 64 → any (same_wire x) (take j xs) ≡ false → both (has_first set j) (same_wire x (get_or xs j blank)) ≡ false
        → any (same_wire x) (take (j + 1) xs) ≡ false
    list_other w d f = no_copy same_wire (λ p. get_or xs p blank) (λ p. take p xs) wire_trans (length xs) (one_further xs) x i j h g w d (rw e at f)

-- ---- one round of the walk over a list, as the code reads it: x, the element at i, against those before it
abbrev pub copies : List Siger → ℕ → ℕ → Siger → ℕ → Bool
copies xs i set x j = both (has_first set j) (same_wire x (get_or (take i xs) j blank))

module _ (xs : List Siger) (i set : ℕ) (short : length xs ≤ 48) (here : i < length xs) (e : set ≡ firsts_in xs i) (x : Siger) (is : x ≡ get_or xs i blank) where
  before : (j : ℕ) → j < length (take i xs) → j < i
  before j h = omega (arith, length-take i xs)

  copies_at : (j : ℕ) → j < length (take i xs) → (b : Bool) → copies xs i set x j ≡ b → both (has_first set j) (same_wire x (get_or xs j blank)) ≡ b
  copies_at j h b f = let g : get_or (take i xs) j blank ≡ get_or xs j blank = get_or-take i xs j blank (before j h) in rw g at f

  pub walk_other : (j : ℕ) → j < length (take i xs) → copies xs i set x j ≡ false → any (same_wire x) (take j xs) ≡ false → any (same_wire x) (take (j + 1) xs) ≡ false
  walk_other j h f d = list_other xs i set e x j (before j h) (omega arith) (omega arith) d (copies_at j h false f)

  pub walk_copy : (keys next : ℕ) (c : Counted) → c ≡ counted_of keys next (take i xs) → (j : ℕ) → j < length (take i xs) → copies xs i set x j ≡ true
      → (c ≡ counted_of keys next (take (i + 1) xs)) × (set ≡ firsts_in xs (i + 1))
  walk_copy keys next c g j h f =
      let a : any (same_wire (get_or xs i blank)) (take i xs) ≡ true = rw is at (list_copy xs i set e x j (before j h) (omega arith) (copies_at j h true f)) in
      (next_copy keys next xs i c here g a, firsts_kept xs i set e a)

  pub walk_first : (keys next : ℕ) (c : Counted) → c ≡ counted_of keys next (take i xs) → (j : ℕ) → length (take i xs) ≤ j → j ≤ length (take i xs)
      → any (same_wire x) (take j xs) ≡ false → (counted_with keys next c x ≡ counted_of keys next (take (i + 1) xs)) × (with_first set i ≡ firsts_in xs (i + 1))
  walk_first keys next c g j h k f =
      let n : j ≡ i = omega (arith, length-take i xs) in
      let a : any (same_wire (get_or xs i blank)) (take i xs) ≡ false = rw (n, is) at f in
      (rw is (next_more keys next xs i c here g a), firsts_with xs i set e (omega arith) a)

-- the element at i of the first m
module _ (xs : List Siger) (m i : ℕ) (h : i < length (take m xs)) where
  pub front_in : i < length xs
  front_in = omega (arith, length-take m xs)

  pub front_at : get_or (take m xs) i blank ≡ get_or xs i blank
  front_at = get_or-take m xs i blank (omega (arith, length-take m xs))

-- ---- shape: only the zero signature is zero, and an array whose unused places are zero is its used ones, padded
flag_off : (b : Bool) → same_flag false b ≡ true → b ≡ false
flag_off true e = sym e
flag_off false e = refl

abbrev made_of : ℕ → ℕ → Bool → ℕ → List ℕ → Bool → Bool → Siger
made_of c i d o r v m = record { code = c; index = record { 0 = i }; dual = d; ondex = record { 0 = o }; raw = r; verified = v; matches = m }

only_zero : {c i o : ℕ} {d v m : Bool} {r : List ℕ} → 0 ≡ c → 0 ≡ i → d ≡ false → 0 ≡ o → no_siger.raw ≡ r → v ≡ false → m ≡ false
    → made_of c i d o r v m ≡ made_of 0 0 false 0 no_siger.raw false false
only_zero a b d e f g h = cc

pub zero_only : (s : Siger) → zero_siger s ≡ true → s ≡ no_siger
unfolding same_wire
zero_only s e =
    let p = both_true (same_wire no_siger s) (both (same_flag false s.verified) (same_flag false s.matches)) e in
    let v = both_true (same_flag false s.verified) (same_flag false s.matches) p.1 in
    let w = all_five (eqb 0 s.code) (eqb 0 s.index.0) (same_flag false s.dual) (eqb 0 s.ondex.0) (same_numbers no_siger.raw s.raw) p.0 in
    only_zero (eqb-true 0 s.code w.one) (eqb-true 0 s.index.0 w.two) (flag_off s.dual w.three) (eqb-true 0 s.ondex.0 w.four)
    (same-numbers no_siger.raw s.raw w.five) (flag_off s.verified v.0) (flag_off s.matches v.1)

-- a shape without a fault: what passed
pub record Good (l : Sigers) : Type 0 where
  pub few : l.count ≤ 48
  pub fit : all ondex_fits (signatures l) ≡ true
  pub rest : all zero_siger (drop l.count l.at) ≡ true

pub good : (l : Sigers) → shape_of l ≡ 0 → Good l
unfolding shape_of
good l e =
    let p = picks (leb l.count 48) (all ondex_fits (signatures l)) (all zero_siger (drop l.count l.at)) e in
    record { few = leb-true l.count 48 p.0; fit = p.1.0; rest = p.1.1 }

sigers : {n m : ℕ} {a b : List Siger} → n ≡ m → a ≡ b → ◌≡◌ {A = Sigers} (record { count = n; at = a }) (record { count = m; at = b })
sigers e f = cc

pub packed-signatures : (l : Sigers) → length l.at ≡ 48 → shape_of l ≡ 0 → l ≡ packed_sigers (signatures l)
packed-signatures l h e =
    let g = good l e in
    let few : l.count ≤ 48 = g.few in
    let n : length (signatures l) ≡ l.count = simp length-take (omega arith) in
    sigers (sym n) (is_padded no_siger zero_siger zero_only 48 l.count l.at h few g.rest)
