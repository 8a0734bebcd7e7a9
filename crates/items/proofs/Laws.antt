-- Lists of items as structs: how many places they have, and lists of the right shape. Assumes nothing.
use mathlib.Core.Path.{◌≡◌, sym}
use mathlib.Core.Bool.{true, false}
use mathlib.Core.List.{List, []}
use Prim.Native.Nat.{ℕ, ◌+◌, ◌<◌, ◌≤◌}
use native.Mathlib.Omega.{arith}
use lib.Dec.{leb}
use lib.ListN.{length, drop, get_or, length-take}
use mir.Val.{Val}
use denote.Laws.{Is}
use borrow.Author.Tests.{leb-true}
use Rattle.std.specs.Prelude.{Some, None}
use Rattle.lists.specs.Lists.{all, first_from}
use Rattle.lists.proofs.Walks.{head_of, first_here, first_next, first-end}
use Rattle.lists.proofs.Facts.{picks}
use Rattle.lists.proofs.Padding.{padded-used, is_padded}
use Rattle.item.specs.declared.Item.{Item}
use Rattle.item.specs.declared.Kind.{Kind}
use Rattle.item.specs.Item.{zero_item, is_zero, item_fits, same_item}
use Rattle.item.proofs.Laws.{zero_only}
use Rattle.items.specs.declared.Items.{Items}
use Rattle.items.specs.Items.{listed, packed, shape_of}
use Rattle.items.specs.contracts.Items.{the_row}

-- the element that an array of items has past its end, as Rattle has it
abbrev pub no_item : Item
no_item = record { code = 0; raw = [] }

-- who owns a list knows that it has 16 places: from `good` for a parameter, from `ok` for a call's result
pub places-16 : (l : Items) (vs : List Val) → Is the_row l vs → length l.at ≡ 16
places-16 l vs p = p.1.1.1.0.1.0.1

pub listed-packed : (xs : List Item) → listed (packed xs) ≡ xs
listed-packed xs = padded-used zero_item 16 xs

pub made : {n m : ℕ} {a b : List Item} → n ≡ m → a ≡ b → ◌≡◌ {A = Items} (record { count = n; at = a }) (record { count = m; at = b })
made e f = cc

-- ---- the search for an item, place by place
module _ (x : Item) (xs : List Item) (i : ℕ) where
  pub found_here : i < length xs → same_item x (get_or xs i no_item) ≡ true → first_from (same_item x) i (drop i xs) ≡ Some i
  found_here h = first_here (same_item x) xs _ i (head_of no_item xs i h)

  pub found_next : i < length xs → same_item x (get_or xs i no_item) ≡ false → first_from (same_item x) i (drop i xs) ≡ first_from (same_item x) (i + 1) (drop (i + 1) xs)
  found_next h = first_next (same_item x) xs _ i (head_of no_item xs i h)

  pub found_none : length xs ≤ i → first_from (same_item x) i (drop i xs) ≡ None
  found_none h = first-end (same_item x) xs i h

-- a shape without a fault: what passed
pub record Good (k : Kind) (l : Items) : Type 0 where
  pub few : l.count ≤ 16
  pub fit : all (item_fits k) (listed l) ≡ true
  pub rest : all is_zero (drop l.count l.at) ≡ true

pub good : (k : Kind) (l : Items) → shape_of k l ≡ 0 → Good k l
unfolding shape_of
good k l e =
    let p = picks (leb l.count 16) (all (item_fits k) (listed l)) (all is_zero (drop l.count l.at)) e in
    record { few = leb-true l.count 16 p.0; fit = p.1.0; rest = p.1.1 }

-- a list of the right shape is its list, packed
pub packed-listed : (k : Kind) (l : Items) → length l.at ≡ 16 → shape_of k l ≡ 0 → l ≡ packed (listed l)
packed-listed k l h e =
    let g = good k l e in
    let few : l.count ≤ 16 = g.few in
    let n : length (listed l) ≡ l.count = simp length-take (omega arith) in
    made (sym n) (is_padded zero_item is_zero zero_only 16 l.count l.at h few g.rest)
