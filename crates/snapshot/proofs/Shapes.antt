-- What a shape without a fault says: of thresholds, and of a state field by field. Assumes nothing.
use mathlib.Core.Path.{◌≡◌, refl}
use mathlib.Core.Bool.{Bool, true, false}
use Prim.Native.Nat.{ℕ, ◌≤◌}
use native.Mathlib.Omega.{arith}
use lib.Dec.{eqb, leb}
use borrow.Author.Tests.{eqb-true, leb-true, eq-eqb, ne_eqb}
use Rattle.lists.specs.Lists.{pick, both}
use Rattle.lists.proofs.Facts.{both_true}
use Rattle.item.specs.declared.Kind.TheVariants.{Prefix, Key, Said}
use Rattle.item.specs.Item.{item_fits}
use Rattle.items.specs.Items as items
use Rattle.config.specs.Config as config
use Rattle.threshold.specs.declared.Threshold.{Threshold}
use Rattle.threshold.specs.Threshold.{is_simple, weights_in, rest_zero, shape_of}
use Rattle.state.specs.declared.KeyState.{KeyState}
use Rattle.shape.specs.Event.{own_shape, next_shape}
use Rattle.shape.specs.State.{state_head, state_tail, state_shape}
use Rattle.shape.proofs.Laws.{picked, no_fault, item_fits_lem}

pick_in : (b : Bool) (x n : ℕ) → (n ≡ 0 → ⊥) → pick b x n ≡ 0 → (b ≡ true) × (x ≡ 0)
pick_in true x n ne e = (refl, e)
pick_in false x n ne e = absurd (ne e)

no-3 : ◌≡◌ {A = ℕ} 3 0 → ⊥
no-3 e = omega (arith, e)

no-4 : ◌≡◌ {A = ℕ} 4 0 → ⊥
no-4 e = omega (arith, e)

-- ---- a threshold: simple, or weighted
pub record Simple (t : Threshold) : Type 0 where
  pub none : t.clauses ≡ 0
  pub rest : rest_zero t 0 0 ≡ true

pub record Weighted (t : Threshold) : Type 0 where
  pub tag : t.tag ≡ 1
  pub few : t.clauses ≤ 16
  pub light : weights_in t ≤ 16
  pub zero : t.simple ≡ 0
  pub rest : rest_zero t t.clauses (weights_in t) ≡ true

module _ (t : Threshold) (e : shape_of t ≡ 0) where
  pub is_simple_lem : t.tag ≡ 0 → Simple t
  unfolding shape_of
  is_simple_lem h =
      let q : is_simple t ≡ true = eq-eqb t.tag 0 h in
      let p = picked (both (eqb t.clauses 0) (rest_zero t 0 0)) 3 no-3 (rw q at e) in
      let r = both_true (eqb t.clauses 0) (rest_zero t 0 0) p in
      record { none = eqb-true t.clauses 0 r.0; rest = r.1 }

  pub is_weighted : (t.tag ≡ 0 → ⊥) → Weighted t
  unfolding shape_of
  is_weighted h =
      let q : is_simple t ≡ false = ne_eqb t.tag 0 h in
      let a = pick_in (eqb t.tag 1) _ 3 no-3 (rw q at e) in
      let b = pick_in (both (leb t.clauses 16) (leb (weights_in t) 16)) _ 4 no-4 a.1 in
      let f = both_true (leb t.clauses 16) (leb (weights_in t) 16) b.0 in
      let p = picked (both (eqb t.simple 0) (rest_zero t t.clauses (weights_in t))) 3 no-3 b.1 in
      let r = both_true (eqb t.simple 0) (rest_zero t t.clauses (weights_in t)) p in
      record {
        tag = eqb-true t.tag 1 a.0;
        few = leb-true t.clauses 16 f.0;
        light = leb-true (weights_in t) 16 f.1;
        zero = eqb-true t.simple 0 r.0;
        rest = r.1;
      }

-- ---- a state
pub record GoodState (s : KeyState) : Type 0 where
  pub prefix : item_fits Prefix s.prefix ≡ true
  pub said : item_fits Said s.said ≡ true
  pub latest : s.latest ≤ 2
  pub keys : items.shape_of Key s.authority.keys ≡ 0
  pub own : shape_of s.authority.threshold ≡ 0
  pub next : items.shape_of Said s.commitment.next ≡ 0
  pub committed : shape_of s.commitment.threshold ≡ 0
  pub witnesses : items.shape_of Key s.witnessing.witnesses ≡ 0
  pub config : config.shape_of s.config ≡ 0
  pub established : item_fits Said s.last.said ≡ true

pub good_state : (s : KeyState) → state_shape s ≡ 0 → GoodState s
unfolding state_shape state_head state_tail own_shape next_shape
good_state s e =
    let a = no_fault _ _ e in
    let b = no_fault _ _ a.1 in
    let c = no_fault _ _ b.1 in
    let d = no_fault _ _ c.1 in
    let h1 = no_fault _ _ a.0 in
    let h2 = no_fault _ _ h1.1 in
    let h3 = no_fault _ _ h2.1 in
    let o1 = no_fault _ _ b.0 in
    let o2 = no_fault _ _ o1.1 in
    let n1 = no_fault _ _ c.0 in
    let n2 = no_fault _ _ n1.1 in
    let t1 = no_fault _ _ d.0 in
    let t2 = no_fault _ _ t1.1 in
    let t3 = no_fault _ _ t2.1 in
    record {
      prefix = item_fits_lem Prefix s.prefix h1.0;
      said = item_fits_lem Said s.said h2.0;
      latest = leb-true s.latest 2 (picked (leb s.latest 2) 3 no-3 h3.0);
      keys = o1.0;
      own = o2.0;
      next = n1.0;
      committed = n2.0;
      witnesses = t1.0;
      config = t2.0;
      established = item_fits_lem Said s.last.said t3.0;
    }
