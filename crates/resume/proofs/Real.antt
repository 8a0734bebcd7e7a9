-- What is known of an event's and a holder's arrays and numbers, beside snapshot's RealState. Assumes nothing.
--     RealEvent, RealHolder, Real     arrays have their full length, numbers fit their words
--     real-..                         of lists in arrays
use mathlib.Core.Path.{◌≡◌, refl}
use mathlib.Core.Bool.{true}
use mathlib.Core.List.{List, ◌∷◌, ◌++◌, []}
use Prim.Native.Nat.{ℕ, zero, suc, ◌-◌, ◌≤◌, ◌<◌, ◌^◌}
use native.Mathlib.Omega.{arith}
use lib.ListN.{length, replicate}
use Rattle.lists.specs.Lists.{padded}
use Rattle.lists.proofs.Padding.{padded-length}
use Rattle.item.specs.declared.Item.{Item}
use Rattle.item.specs.Item.{zero_item}
use Rattle.items.specs.declared.Items.{Items}
use Rattle.items.specs.Items.{packed, listed}
use Rattle.weight.specs.declared.Weight.{Weight}
use Rattle.format.specs.Fields.{simple, weighted}
use Rattle.event.specs.declared.Head.{Head}
use Rattle.event.specs.declared.Body.{Body}
use Rattle.event.specs.declared.Event.{Event}
use Rattle.state.specs.declared.Holder.{Holder}
use Rattle.state.specs.State.{is_held}
use Rattle.layout.specs.Records.{Content, event, snapshot, refusal, no_head, no_body}
use Rattle.snapshot.proofs.Round as round
use Rattle.snapshot.proofs.Size.{each_take}
use Rattle.snapshot.proofs.Real.{Words, RealItems, RealThreshold, RealState}
use Rattle.decoded.proofs.Gives.{Each}

pub record RealHead (h : Head) : Type 0 where
  pub prefix : length h.prefix.raw ≡ 32
  pub sn : Words h.sn.high h.sn.low
  pub said : length h.said.raw ≡ 32

pub record RealBody (b : Body) : Type 0 where
  pub keys : RealItems b.authority.keys
  pub own : RealThreshold b.authority.threshold
  pub next : RealItems b.commitment.next
  pub committed : RealThreshold b.commitment.threshold
  pub additions : RealItems b.additions
  pub toad : b.toad < 2 ^ 32
  pub traits : length b.config.traits ≡ 8

pub record RealEvent (e : Event) : Type 0 where
  pub head : RealHead e.head
  pub body : RealBody e.body

-- an empty holder's state is not looked at
abbrev pub RealHolder : Holder → Type 0
RealHolder h = is_held h ≡ true → RealState h.state

abbrev pub Real : Content → Type 0
Real (event e) = RealEvent e
Real (snapshot s) = RealState s
Real (refusal n) = Unit

-- ---- every element, in the words of either crate
module _ {A : Type 0} (P : A → Type 0) where
  each-replicate : (z : A) → P z → (n : ℕ) → round.Each P (replicate n z)
  each-replicate z p zero = tt
  each-replicate z p (suc n) = (p, each-replicate z p n)

  each_append : (xs ys : List A) → Each P xs → round.Each P ys → round.Each P (xs ++ ys)
  each_append [] ys p q = q
  each_append (x ∷ xs) ys p q = (p.0, each_append xs ys p.1 q)

  pub each-padded : (z : A) → P z → (n : ℕ) (xs : List A) → Each P xs → round.Each P (padded n z xs)
  each-padded z q n xs p = each_append xs (replicate (n - length xs) z) p (each-replicate z q (n - length xs))

  pub each_from : (xs : List A) → round.Each P xs → Each P xs
  each_from [] p = tt
  each_from (x ∷ xs) p = (p.0, each_from xs p.1)

-- ---- items
abbrev pub Raw : Item → Type 0
Raw x = length x.raw ≡ 32

pub real_packed : (xs : List Item) → Each Raw xs → length xs ≤ 16 → RealItems (packed xs)
real_packed xs p h = record { places = padded-length zero_item 16 xs h; raws = each-padded Raw zero_item refl 16 xs p }

pub real_listed : (l : Items) → RealItems l → Each Raw (listed l)
real_listed l r = each_from Raw (listed l) (each_take Raw l.count l.at r.raws)

-- ---- thresholds
abbrev pub RealWeight : Weight → Type 0
RealWeight w = Words w.num w.den

pub no_words : Words 0 0
no_words = (omega arith, omega arith)

abbrev no_weight : Weight
no_weight = record { num = 0; den = 0 }

pub real_simple : (n : ℕ) → n < 2 ^ 64 → RealThreshold (simple n)
real_simple n h = record { simple = h; sizes = refl; weights = refl; words = each-padded RealWeight no_weight no_words 16 [] tt }

pub real_weighted : (zs : List ℕ) (ws : List Weight) → length zs ≤ 16 → length ws ≤ 16 → Each RealWeight ws → RealThreshold (weighted zs ws)
real_weighted zs ws h g p =
    record {
      simple = no_words.0;
      sizes = padded-length 0 16 zs h;
      weights = padded-length no_weight 16 ws g;
      words = each-padded RealWeight no_weight no_words 16 ws p;
    }

-- ---- nothing in every field is real too
pub real_no_head : RealHead no_head
real_no_head = record { prefix = refl; sn = no_words; said = refl }

pub real_no_body : RealBody no_body
real_no_body =
    let none : RealItems (packed []) = real_packed [] tt (omega arith) in
    let no-threshold = real_simple 0 (omega arith) in
    record { keys = none; own = no-threshold; next = none; committed = no-threshold; additions = none; toad = omega arith; traits = refl }
