-- A property of readers: how far from its place a reader looks, and where it ends. Assumes nothing.
--     Local, Closed     a field; a field that is the body's last
--     local-..          one law for each way to make a reader
use mathlib.Core.Path.{◌≡◌, refl, ap, ◌∙◌}
use mathlib.Core.Bool.{Bool, true, false}
use mathlib.Core.List.{List, ◌∷◌, []}
use Prim.Native.Nat.{ℕ, zero, suc, ◌+◌, ◌*◌, ◌≤◌, ◌<◌}
use native.Mathlib.Nat.{zero-mul, suc-mul, mul-le-mul_right}
use native.Mathlib.Omega.{arith}
use lib.Dec.{leb, ltb, eqb}
use lib.ListN.{length, take, drop, get_or}
use lib.Seq.{length-take-le, get_or-take, take-take}
use borrow.Author.Tests.{lt-ltb, le-leb, ne_eqb, leb-true, eqb-true}
use Rattle.lists.specs.Lists.{pick}
use Rattle.format.specs.Parse.{Parse, got, bad, bind, ◌>>=◌, byte_at, num_at, raw_at, classed, many_at, list_at, ended}
use Rattle.decoded.proofs.Gives.{Outcome, Gives, Some}

-- the place behind what is got is at most m, and E says something of it
abbrev pub Ends : {A : Type 0} → (ℕ → Type 0) → ℕ → Parse A → Type 0
Ends E m (got a q) = (q ≤ m) × E q
Ends E m (bad r) = Unit

-- at a place, of a string: the first n bytes decide, where they reach w bytes from the place (and `more`); and the place behind
abbrev Looks : {A : Type 0} → ℕ → (List ℕ → ℕ → Type 0) → ℕ → (List ℕ → ℕ → Parse A) → List ℕ → ℕ → Type 0
Looks more E w f s at = ((n : ℕ) → at + w + more ≤ n → n ≤ length s → f (take n s) at ≡ f s at) × Ends (E s) (at + w) (f s at)

-- a field
abbrev Inside : List ℕ → ℕ → Type 0
Inside s q = Unit

unfoldable pub Local : {A : Type 0} → ℕ → (List ℕ → ℕ → Parse A) → Type 0
Local w f = (s : List ℕ) (at : ℕ) → Looks 0 Inside w f s at

-- the fields up to the body's end: one byte more tells that it is none
abbrev pub AtEnd : List ℕ → ℕ → Type 0
AtEnd s q = q ≡ length s

unfoldable pub Closed : {A : Type 0} → ℕ → (List ℕ → ℕ → Parse A) → Type 0
Closed w f = (s : List ℕ) (at : ℕ) → Looks 1 AtEnd w f s at

-- ---- one field after another
-- of what is got something is known, or nothing
abbrev Has : {A : Type 0} → (A → Type 0) → Parse A → Type 0
Has P (got a q) = P a
Has P (bad r) = Unit

has_some : {A : Type 0} (x : Parse A) → Has Some x
has_some (got a q) = tt
has_some (bad r) = tt

has-given : {A : Type 0} (P : A → Type 0) (x : Parse A) → Outcome P x → Has P x
has-given P (got a q) p = p
has-given P (bad r) p = tt

same-bind : {A B : Type 0} (P : A → Type 0) (m : ℕ) (x : Parse A) (g h : A → ℕ → Parse B) → Has P x → Ends (λ q. Unit) m x
    → ((a : A) (q : ℕ) → P a → q ≤ m → g a q ≡ h a q) → bind x g ≡ bind x h
same-bind P m (got a q) g h p e k = k a q p e.0
same-bind P m (bad r) g h p e k = refl

ends_bind : {A B : Type 0} (P : A → Type 0) (E : ℕ → Type 0) (m l : ℕ) (x : Parse A) (g : A → ℕ → Parse B) → Has P x → Ends (λ q. Unit) m x
    → ((a : A) (q : ℕ) → P a → q ≤ m → Ends E l (g a q)) → Ends E l (bind x g)
ends_bind P E m l (got a q) g p e k = k a q p e.0
ends_bind P E m l (bad r) g p e k = tt

ends_later : {A : Type 0} (E : ℕ → Type 0) (m l : ℕ) (x : Parse A) → m ≤ l → Ends E m x → Ends E l x
ends_later E m l (got a q) h e = let g = e.0 in (omega arith, e.1)
ends_later E m l (bad r) h e = tt

looks_then : {A B : Type 0} (more : ℕ) (E : List ℕ → ℕ → Type 0) (P : A → Type 0) (w v : ℕ) (f : List ℕ → ℕ → Parse A) (k : A → List ℕ → ℕ → Parse B)
    → (s : List ℕ) (at : ℕ) → Has P (f s at) → Looks 0 Inside w f s at → ((a : A) (q : ℕ) → P a → Looks more E v (k a) s q)
    → Looks more E (w + v) (λ t. ◌>>=◌ (f t) (λ a. k a t)) s at
looks_then more E P w v f k s at p l c = (
  λ n h g.
      ap (λ x. bind x (λ a. k a (take n s))) (l.0 n (omega arith) g)
      ∙ same-bind P (at + w) (f s at) (λ a. k a (take n s)) (λ a. k a s) p l.1 (λ a q r j. (c a q r).0 n (omega arith) g),
  ends_bind P (E s) (at + w) (at + (w + v)) (f s at) (λ a. k a s) p l.1
      (λ a q r j. ends_later (E s) (q + v) (at + (w + v)) (k a s q) (omega arith) (c a q r).1),
)

module _ {A B : Type 0} (w v : ℕ) (f : List ℕ → ℕ → Parse A) (k : A → List ℕ → ℕ → Parse B) (l : Local w f) where
  pub local_then : ((a : A) → Local v (k a)) → Local (w + v) (λ s. ◌>>=◌ (f s) (λ a. k a s))
  unfolding Local
  local_then c s at = looks_then 0 Inside Some w v f k s at (has_some (f s at)) (l s at) (λ a q r. c a s q)

  -- where the second field's width rests on what the first is
  pub local_where : (P : A → Type 0) → ((s : List ℕ) → Gives P (f s)) → ((a : A) → P a → Local v (k a)) → Local (w + v) (λ s. ◌>>=◌ (f s) (λ a. k a s))
  unfolding Local Gives
  local_where P p c s at = looks_then 0 Inside P w v f k s at (has-given P (f s at) (p s at)) (l s at) (λ a q r. c a r s q)

  pub closed_then : ((a : A) → Closed v (k a)) → Closed (w + v) (λ s. ◌>>=◌ (f s) (λ a. k a s))
  unfolding Local Closed
  closed_then c s at = looks_then 1 AtEnd Some w v f k s at (has_some (f s at)) (l s at) (λ a q r. c a s q)

-- ---- what looks at nothing
pub local_bad : (A : Type 0) (w r : ℕ) → Local {A = A} w (λ s at. bad r)
unfolding Local
local_bad A w r s at = (λ n h g. refl, tt)

module _ {A : Type 0} where
  pub local_got : (a : A) → Local 0 (λ s. got a)
  unfolding Local
  local_got a s at = (λ n h g. refl, (omega arith, tt))

  -- a test that does not look, and a refusal where it fails
  looks_pick : (w r : ℕ) (b : Bool) (f : List ℕ → ℕ → Parse A) (s : List ℕ) (at : ℕ) → (b ≡ true → Looks 0 Inside w f s at)
      → Looks 0 Inside w (λ t p. pick b (f t p) (bad r)) s at
  looks_pick w r true f s at l = l refl
  looks_pick w r false f s at l = (λ n h g. refl, tt)

  pub local_pick : (w r : ℕ) (b : Bool) (f : List ℕ → ℕ → Parse A) → (b ≡ true → Local w f) → Local w (λ s at. pick b (f s at) (bad r))
  unfolding Local
  local_pick w r b f l s at = looks_pick w r b f s at (λ e. l e s at)

  pub local_classed : (b : Bool) (a : A) → Local 0 (λ s. classed b a)
  local_classed b a = local_pick 0 3 b (λ s. got a) (λ e. local_got a)

  -- a wider bound
  pub local_wider : (w v : ℕ) (f : List ℕ → ℕ → Parse A) → w ≤ v → Local w f → Local v f
  unfolding Local
  local_wider w v f h l s at = (λ n j g. (l s at).0 n (omega arith) g, ends_later (λ q. Unit) (at + w) (at + v) (f s at) h' (l s at).1)
    where
      h' : at + w ≤ at + v
      h' = omega arith

-- ---- numbers and bytes
part-take : {A : Type 0} (w n at : ℕ) (s : List A) → at + w ≤ n → take w (drop at (take n s)) ≡ take w (drop at s)
part-take w n zero s h = take-take w n s (omega arith)
part-take w zero (suc at) s h = absurd (omega arith)
part-take w (suc n) (suc at) [] h = refl
part-take w (suc n) (suc at) (x ∷ xs) h = part-take w n at xs (omega arith)

-- a value of w bytes, or 3
ends_pick : {A : Type 0} (b : Bool) (m q : ℕ) (a : A) → q ≤ m → Ends (λ p. Unit) m (pick b (got a q) (bad 3))
ends_pick true m q a h = (h, tt)
ends_pick false m q a h = tt

pub local_byte : Local 1 byte_at
unfolding Local byte_at
local_byte s at = (
  λ n h g.
      let i : at < n = omega arith in
      let j : at < length s = omega arith in
      rw (length-take-le n s g, lt-ltb at n i, lt-ltb at (length s) j, get_or-take n s at 0 i),
  ends_pick (ltb at (length s)) (at + 1) (at + 1) (get_or s at 0) (omega arith),
)

module _ (w : ℕ) where
  pub local_number : Local w (num_at w)
  unfolding Local num_at
  local_number s at = (
    λ n h g.
        let i : at + w ≤ n = omega arith in
        let j : at + w ≤ length s = omega arith in
        rw (length-take-le n s g, le-leb (at + w) n i, le-leb (at + w) (length s) j, part-take w n at s i),
    ends_pick (leb (at + w) (length s)) (at + w) (at + w) _ (omega arith),
  )

  pub local_raw : Local w (raw_at w)
  unfolding Local raw_at
  local_raw s at = (
    λ n h g.
        let i : at + w ≤ n = omega arith in
        let j : at + w ≤ length s = omega arith in
        rw (length-take-le n s g, le-leb (at + w) n i, le-leb (at + w) (length s) j, part-take w n at s i),
    ends_pick (leb (at + w) (length s)) (at + w) (at + w) _ (omega arith),
  )

-- ---- fields by one rule
module _ {A : Type 0} (w : ℕ) (f : List ℕ → ℕ → Parse A) (l : Local w f) where
  pub local_many : (n : ℕ) → Local (n * w) (λ s. many_at (f s) n)
  unfolding many_at
  local_many zero = rw zero-mul (local_got [])
  local_many (suc n) =
      let e : suc n * w ≡ w + (n * w + 0) = suc-mul n w ∙ omega arith in
      rw e
      (local_then w (n * w + 0) f _ l
      (λ x. local_then (n * w) 0 (λ s. many_at (f s) n) _ (local_many n)
      (λ xs. local_got (x ∷ xs))))

  pub local_list : (limit : ℕ) → Local (1 + limit * w) (λ s. list_at (f s) limit s)
  unfolding list_at
  local_list limit =
      local_then 1 (limit * w) byte_at _ local_byte
      (λ n. local_pick (limit * w) 4 (leb n limit) (λ s. many_at (f s) n)
      (λ e. local_wider (n * w) (limit * w) (λ s. many_at (f s) n) (mul-le-mul_right w (leb-true n limit e)) (local_many n)))

-- ---- nothing behind it
pub closed_ended : {A : Type 0} (a : A) → Closed 0 (λ s. ended s a)
unfolding Closed ended
closed_ended a s at = (
  λ n h g.
      let i : at ≡ n → ⊥ = λ e. omega arith in
      let j : at ≡ length s → ⊥ = λ e. omega arith in
      rw (length-take-le n s g, ne_eqb at n i, ne_eqb at (length s) j),
  at_end (eqb at (length s)) refl,
)
  where
    at_end : (b : Bool) → eqb at (length s) ≡ b → Ends (AtEnd s) (at + 0) (pick b (got a at) (bad 3))
    at_end true e = (omega arith, eqb-true at (length s) e)
    at_end false e = tt
