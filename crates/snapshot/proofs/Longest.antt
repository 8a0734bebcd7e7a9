-- "the longest KS 2,281": no body of good shape is longer, and one is as long. Assumes nothing.
use mathlib.Core.Path.{◌≡◌, refl}
use mathlib.Core.Bool.{Bool, true, false}
use mathlib.Core.List.{List}
use Prim.Native.Nat.{ℕ, ◌≤◌}
use native.Mathlib.Omega.{arith}
use lib.Dec.{eqb}
use lib.ListN.{length, replicate}
use mir.Val.{Val}
use denote.Laws.{Is}
use borrow.Author.Tests.{eqb-true, eqb-false}
use Rattle.lists.specs.Lists.{all}
use Rattle.number.specs.Number.{small}
use Rattle.answer.specs.Answer.{first_fault}
use Rattle.item.specs.declared.Item.{Item}
use Rattle.item.specs.declared.Kind.{Kind}
use Rattle.item.specs.Item.{class_of}
use Rattle.items.specs.declared.Items.{Items}
use Rattle.items.specs.Items as items
use Rattle.items.proofs.Laws as items-laws
use Rattle.config.specs.Config as config
use Rattle.config.proofs.Laws as config-laws
use Rattle.threshold.specs.declared.Threshold.{Threshold}
use Rattle.threshold.specs.Threshold as threshold
use Rattle.state.specs.declared.KeyState.{KeyState}
use Rattle.state.specs.contracts.KeyState as state
use Rattle.shape.specs.Event.{own_shape, next_shape}
use Rattle.shape.specs.State.{state_head, state_tail, state_shape}
use Rattle.writer.specs.Writing.{be}
use Rattle.snapshot.specs.Bytes.{words_bytes, item_bytes, each, items_bytes, counted, config_bytes, threshold_bytes}
use Rattle.snapshot.specs.Saved.{point_bytes, group_bytes, head_bytes, tail_bytes, body_bytes}
use Rattle.snapshot.proofs.Shapes.{is_weighted, good_state}
use Rattle.snapshot.proofs.Real.{RealItems, RealThreshold, RealState, real_state}
use Rattle.snapshot.proofs.Size.{items_size, simple-size, weighted-size, group-size, body_size}

items_most : (k : Kind) (l : Items) → RealItems l → items.shape_of k l ≡ 0 → length (items_bytes l) ≤ 529
items_most k l r e =
    let few = (items-laws.good k l e).few in
    omega (arith, items_size l r few)

threshold_most : (t : Threshold) → RealThreshold t → threshold.shape_of t ≡ 0 → length (threshold_bytes t) ≤ 274
threshold_most t r e = by_tag (eqb t.tag 0) refl
  where
    by_tag : (b : Bool) → eqb t.tag 0 ≡ b → length (threshold_bytes t) ≤ 274
    by_tag true p = omega (arith, simple-size t (eqb-true t.tag 0 p))
    by_tag false p =
        let h = eqb-false t.tag 0 p in
        let g = is_weighted t e h in
        let few = g.few in
        let light = g.light in
        omega (arith, weighted-size t r (threshold.weights_in t) h refl few light)

group_most : (k : Kind) (l : Items) (t : Threshold) → RealItems l → RealThreshold t → items.shape_of k l ≡ 0 → threshold.shape_of t ≡ 0
    → length (group_bytes l t) ≤ 803
group_most k l t r q e f =
    let a = items_most k l r e in
    let b = threshold_most t q f in
    omega (arith, group-size l t (length (items_bytes l)) (length (threshold_bytes t)) refl refl)

pub longest_real : (s : KeyState) → RealState s → state_shape s ≡ 0 → length (body_bytes s) ≤ 2281
longest_real s r e =
    let g = good_state s e in
    let few = (config-laws.good s.config g.config).few in
    let own = group_most _ s.authority.keys s.authority.threshold r.keys r.own g.keys g.own in
    let next = group_most _ s.commitment.next s.commitment.threshold r.next r.committed g.next g.committed in
    let witnesses = items_most _ s.witnessing.witnesses r.witnesses g.witnesses in
    omega (arith, body_size s _ _ _ r few refl refl refl)

pub longest : (s : KeyState) (vs : List Val) → Is state.the_row s vs → state_shape s ≡ 0 → length (body_bytes s) ≤ 2281
longest s vs p e = longest_real s (real_state s vs p) e

-- ---- a state with every list full, and 16 clauses of one weight in either threshold
abbrev of_code : ℕ → Item
of_code c = record { code = c; raw = replicate 32 0 }

abbrev sixteen : ℕ → Items
sixteen c = record { count = 16; at = replicate 16 (of_code c) }

abbrev clauses : Threshold
clauses = record { tag = 1; simple = 0; clauses = 16; sizes = replicate 16 1; weights = replicate 16 (record { num = 1; den = 2 }) }

abbrev pub full : KeyState
full =
    record {
      prefix = of_code 69;
      sn = small 0;
      said = of_code 69;
      latest = 0;
      authority = record { keys = sixteen 68; threshold = clauses };
      commitment = record { next = sixteen 69; threshold = clauses };
      witnessing = record { witnesses = sixteen 66; toad = 11 };
      config = record { count = 8; traits = replicate 8 1 };
      transferable = true;
      last = record { sn = small 0; said = of_code 69 };
    }

pub full_is_good : state_shape full ≡ 0
unfolding state_shape state_head state_tail own_shape next_shape first_fault items.shape_of config.shape_of threshold.shape_of threshold.sum class_of all
full_is_good = refl

pub full_is_longest : length (body_bytes full) ≡ 2281
unfolding body_bytes head_bytes tail_bytes group_bytes point_bytes items_bytes item_bytes each config_bytes counted threshold_bytes threshold.sum words_bytes be
full_is_longest = refl
