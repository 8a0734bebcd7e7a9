-- Fields by their places against format's fields by value. Assumes nothing.
--     item_value, items_value, config_value    scanning a field and copying it after is reading it
use mathlib.Core.Path.{◌≡◌, refl, ap, ◌∙◌}
use mathlib.Core.Bool.{Bool, true, false}
use mathlib.Core.List.{List, [], ◌∷◌, ◌++◌}
use Prim.Native.Nat.{ℕ, suc, ◌+◌, ◌≤◌, ◌<◌}
use native.Mathlib.Omega.{arith}
use lib.Dec.{leb, ltb}
use lib.ListN.{length, get_or, replicate, take, drop, get_or-eq_default}
use lib.Seq.{get_or-drop}
use Rattle.std.proofs.lemmas.List.{drop-replicate}
use native.Mathlib.Nat.{add-zero}
use borrow.Author.Tests.{le-leb, lt-leb, leb-true, leb-false, ltb-true, ltb-false}
use Rattle.lists.specs.Lists.{padded}
use Rattle.item.specs.declared.Item.{Item}
use Rattle.item.specs.declared.Kind.{Kind}
use Rattle.item.specs.Item.{fits_of, zero_item}
use Rattle.items.specs.declared.Items.{Items}
use Rattle.items.specs.Items.{packed}
use Rattle.config.specs.declared.Config.{Config}
use Rattle.config.specs.Config.{is_trait, packed_traits}
use Rattle.format.specs.Parse.{Parse, got, bad, bind, byte_at, raw_at, classed, list_at}
use Rattle.format.specs.Fields.{item_at, items_at, trait_at, config_at}
use Rattle.cursor.specs.declared.Listing.{Listing}
use Rattle.cursor.specs.Cursor.{raw_of}
use Rattle.cursor.specs.Spans.{mapped, span_at, list_of, many_of}
use Rattle.cursor.proofs.Laws.{byte_got, byte-short, raw-short, list_length, many_got, bytes_listed, Agree, had, refused, place_value, span_values}
use Rattle.field.specs.Field.{place_at, trait_place_at, items_place_at, config_place_at, byte_of, item_of, items_of, config_of}

module _ (k : Kind) (s : List ℕ) (at : ℕ) where
  pub place_short : length s < at + 33 → place_at k s at ≡ bad 3
  unfolding place_at
  place_short h = rw (lt-leb _ _ h)

  pub place_got : at + 33 ≤ length s → fits_of k (get_or s at 0) ≡ true → place_at k s at ≡ got at (at + 33)
  unfolding place_at
  place_got h e = rw (le-leb _ _ h, e)

  pub place_bad : at + 33 ≤ length s → fits_of k (get_or s at 0) ≡ false → place_at k s at ≡ bad 3
  unfolding place_at
  place_bad h e = rw (le-leb _ _ h, e)

-- the first of some bytes at a place
pub first_of : (n : ℕ) (s : List ℕ) (at : ℕ) (part : List ℕ) → part ≡ take (suc n) (drop at s) → get_or part 0 0 ≡ get_or s at 0
first_of n s at part e = ap (λ (x : List ℕ). get_or x 0 0) e ∙ (heads (drop at s) ∙ rw (get_or-drop, add-zero) refl)
  where
    heads : (xs : List ℕ) → get_or (take (suc n) xs) 0 0 ≡ get_or xs 0 0
    heads [] = refl
    heads (x ∷ xs) = refl

module _ (s : List ℕ) (at : ℕ) where
  -- the item at a place, with its bytes there and without
  pub item_is : (r : List ℕ) → r ≡ raw_of 32 s (at + 1) → ◌≡◌ {A = Item} (record { code = get_or s at 0; raw = r }) (item_of s at)
  unfolding item_of
  item_is r e = rw e

  pub item_none : length s ≤ at → zero_item ≡ item_of s at
  unfolding item_of
  item_none h =
      let k : length s < at + 1 + 32 = omega arith in
      rw (get_or-eq_default s 0 h, raw-short 32 s (at + 1) k)

-- an array of zeros, before anything is copied
pub items_none : (s : List ℕ) (p : ℕ) (z : Item) → z ≡ zero_item → replicate 16 z ≡ padded 16 zero_item (list_of (item_of s) 33 0 p)
unfolding list_of
items_none s p z e = rw e

-- an array with i copied, where i are all
pub items_is : (s : List ℕ) (n p i : ℕ) (l : List Item) → i ≡ n → l ≡ padded 16 zero_item (list_of (item_of s) 33 i p)
    → ◌≡◌ {A = Items} (record { count = n; at = l }) (packed (list_of (item_of s) 33 n p))
items_is s n p i l e r = rw (r, e, list_length (item_of s) 33 n p)

-- traits copied as they stand
pub traits_copied : (s : List ℕ) (n p : ℕ) (part : List ℕ) → n ≤ 8 → p + n ≤ length s → part ≡ take n (drop p s)
    → ◌≡◌ {A = Config} (record { count = n; traits = part ++ drop n (replicate 8 0) }) (config_of s n p)
unfolding config_of
traits_copied s n p part m h e =
    let got : many_of (byte_of s) 1 8 s n p ≡ list_of (byte_of s) 1 n p = many_got (byte_of s) 1 8 s n p m (omega arith) in
    let l : length (list_of (byte_of s) 1 n p) ≡ n = list_length (byte_of s) 1 n p in
    rw (got, l, bytes_listed s n p h, ← e, drop-replicate)

-- w bytes as they stand, where there is room and where there is not
module _ (w : ℕ) (s : List ℕ) (at : ℕ) where
  bytes_got : at + w ≤ length s → raw_at w s at ≡ got (raw_of w s at) (at + w)
  unfolding raw_at raw_of
  bytes_got h = rw (le-leb _ _ h)

  bytes-short : length s < at + w → raw_at w s at ≡ bad 3
  unfolding raw_at
  bytes-short h = rw (lt-leb _ _ h)

-- an item by its place and by its value
module _ (k : Kind) (s : List ℕ) (p : ℕ) where
  item_fit : p + 33 ≤ length s → (b : Bool) → fits_of k (get_or s p 0) ≡ b → item_at k s p ≡ classed b (item_of s p) (p + 33)
  unfolding item_at item_of
  item_fit h b e =
      let l : p < length s = omega arith in
      let m : p + 1 + 32 ≤ length s = omega arith in
      let d : p + 1 + 32 ≡ p + 33 = omega arith in
      rw (byte_got s p l, bytes_got 32 s (p + 1) m, e, d)

  item_short : length s < p + 33 → item_at k s p ≡ bad 3
  unfolding item_at
  item_short h = go (ltb p (length s)) refl
    where
      go : (b : Bool) → ltb p (length s) ≡ b
          → bind (byte_at s p) (λ code q. bind (raw_at 32 s q) (λ raw n. classed {A = Item} (fits_of k code) (record { code = code; raw = raw }) n)) ≡ bad 3
      go true e =
          let l = ltb-true p (length s) e in
          let m : length s < p + 1 + 32 = omega arith in
          rw (byte_got s p l, bytes-short 32 s (p + 1) m)
      go false e = rw (byte-short s p (ltb-false p (length s) e))

  item_agrees : Agree 33 (length s) p (place_at k s p) (item_at k s p) (item_of s p)
  item_agrees = go (leb (p + 33) (length s)) refl
    where
      fit : p + 33 ≤ length s → (b : Bool) → fits_of k (get_or s p 0) ≡ b → Agree 33 (length s) p (place_at k s p) (item_at k s p) (item_of s p)
      fit h true e = had h (place_got k s p h e) (item_fit h true e)
      fit h false e = refused 3 (place_bad k s p h e) (item_fit h false e)

      go : (b : Bool) → leb (p + 33) (length s) ≡ b → Agree 33 (length s) p (place_at k s p) (item_at k s p) (item_of s p)
      go true e = fit (leb-true (p + 33) (length s) e) (fits_of k (get_or s p 0)) refl
      go false e = let h = leb-false (p + 33) (length s) e in refused 3 (place_short k s p h) (item_short h)

-- a trait by its place and by its value
trait_agrees : (s : List ℕ) (p : ℕ) → Agree 1 (length s) p (trait_place_at s p) (trait_at s p) (byte_of s p)
unfolding trait_place_at trait_at
trait_agrees s p = go (ltb p (length s)) refl
  where
    fit : p + 1 ≤ length s → (b : Bool) → is_trait (get_or s p 0) ≡ b
        → Agree 1 (length s) p (classed (is_trait (get_or s p 0)) p (p + 1)) (classed (is_trait (get_or s p 0)) (get_or s p 0) (p + 1)) (byte_of s p)
    fit h true e = had h (rw e) (rw e)
    fit h false e = refused 3 (rw e) (rw e)

    go : (b : Bool) → ltb p (length s) ≡ b
        → Agree 1 (length s) p (bind (byte_at s p) (λ t n. classed (is_trait t) p n)) (bind (byte_at s p) (λ t n. classed (is_trait t) t n)) (byte_of s p)
    go true e =
        let l = ltb-true p (length s) e in
        rw (byte_got s p l) (fit (omega arith) (is_trait (get_or s p 0)) refl)
    go false e = let l = ltb-false p (length s) e in refused 3 (rw (byte-short s p l)) (rw (byte-short s p l))

-- ---- Scanning a field and copying it after is reading it.
module _ (k : Kind) (s : List ℕ) (at : ℕ) where
  pub item_value : mapped (item_of s) (place_at k s at) ≡ item_at k s at
  item_value = place_value (place_at k s) (item_at k s) (item_of s) 33 (length s) (item_agrees k s) at

  pub items_value : mapped (λ (m : Listing). items_of s m.count m.first) (items_place_at k s at) ≡ items_at k s at
  unfolding items_at items_of
  items_value = packs (span_at (place_at k s) 16 s at) (list_at (item_at k s) 16 s at) (span_values (place_at k s) (item_at k s) (item_of s) 33 16 s (item_agrees k s) at)
    where
      packs : (x : Parse Listing) (y : Parse (List Item)) → mapped (λ (m : Listing). many_of (item_of s) 33 16 s m.count m.first) x ≡ y
          → mapped (λ (m : Listing). packed (many_of (item_of s) 33 16 s m.count m.first)) x ≡ bind y (λ xs n. got (packed xs) n)
      packs (got m n) y e = rw (← e)
      packs (bad r) y e = rw (← e)

pub config_value : (s : List ℕ) (at : ℕ) → mapped (λ (m : Listing). config_of s m.count m.first) (config_place_at s at) ≡ config_at s at
unfolding config_at config_of
config_value s at = packs (span_at (trait_place_at s) 8 s at) (list_at (trait_at s) 8 s at) (span_values (trait_place_at s) (trait_at s) (byte_of s) 1 8 s (trait_agrees s) at)
  where
    packs : (x : Parse Listing) (y : Parse (List ℕ)) → mapped (λ (m : Listing). many_of (byte_of s) 1 8 s m.count m.first) x ≡ y
        → mapped (λ (m : Listing). packed_traits (many_of (byte_of s) 1 8 s m.count m.first)) x ≡ bind y (λ xs n. got (packed_traits xs) n)
    packs (got m n) y e = rw (← e)
    packs (bad r) y e = rw (← e)
