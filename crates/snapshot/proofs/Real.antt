-- What holding a value says of its arrays and numbers: arrays have their full length, numbers fit their words. Assumes nothing.
use mathlib.Core.Path.{◌≡◌}
use mathlib.Core.List.{List, ◌∷◌, []}
use Prim.Native.Nat.{ℕ, ◌<◌, ◌^◌}
use lib.ListN.{length}
use mir.Val.{Val}
use denote.Laws.{Is}
use denote.Shadow.{shadow}
use denote.Array.{each}
use Rattle.number.specs.declared.Number.{Number}
use Rattle.item.specs.declared.Item.{Item}
use Rattle.items.specs.declared.Items.{Items}
use Rattle.weight.specs.declared.Weight.{Weight}
use Rattle.threshold.specs.declared.Threshold.{Threshold}
use Rattle.state.specs.declared.KeyState.{KeyState}
use Rattle.number.specs.contracts.Number as number
use Rattle.item.specs.contracts.Item as item
use Rattle.items.specs.contracts.Items as items
use Rattle.items.proofs.Laws.{places-16}
use Rattle.config.proofs.Laws.{places-8}
use Rattle.weight.specs.contracts.Weight as weight
use Rattle.threshold.specs.contracts.Threshold as threshold
use Rattle.threshold.proofs.Laws.{weights_16}
use Rattle.state.specs.contracts.KeyState as state
use Rattle.snapshot.proofs.Round.{Each}

abbrev pub Words : ℕ → ℕ → Type 0
Words a b = (a < 2 ^ 64) × (b < 2 ^ 64)

pub record RealItems (l : Items) : Type 0 where
  pub places : length l.at ≡ 16
  pub raws : Each (λ x. length x.raw ≡ 32) l.at

pub record RealThreshold (t : Threshold) : Type 0 where
  pub simple : t.simple < 2 ^ 64
  pub sizes : length t.sizes ≡ 16
  pub weights : length t.weights ≡ 16
  pub words : Each (λ w. Words w.num w.den) t.weights

pub record RealState (s : KeyState) : Type 0 where
  pub prefix : length s.prefix.raw ≡ 32
  pub sn : Words s.sn.high s.sn.low
  pub said : length s.said.raw ≡ 32
  pub keys : RealItems s.authority.keys
  pub own : RealThreshold s.authority.threshold
  pub next : RealItems s.commitment.next
  pub committed : RealThreshold s.commitment.threshold
  pub witnesses : RealItems s.witnessing.witnesses
  pub toad : s.witnessing.toad < 2 ^ 32
  pub traits : length s.config.traits ≡ 8
  pub since : Words s.last.sn.high s.last.sn.low
  pub established : length s.last.said.raw ≡ 32

real_number : (n : Number) (vs : List Val) → Is number.the_row n vs → Words n.high n.low
real_number n vs p = (p.1.1.0.1, p.1.1.1.0.1)

real_weight : (w : Weight) (vs : List Val) → Is weight.the_row w vs → Words w.num w.den
real_weight w vs p = (p.1.1.0.1, p.1.1.1.0.1)

pub raw-32 : (x : Item) (vs : List Val) → Is item.the_row x vs → length x.raw ≡ 32
raw-32 x vs p = p.1.1.1.0.1.0.1

raws_32 : (xs : List Item) (us : List Val) → shadow (each (item.the_row).Denot (item.the_row).own_val xs us) → Each (λ x. length x.raw ≡ 32) xs
raws_32 [] us s = tt
raws_32 (x ∷ xs) [] s = absurd s
raws_32 (x ∷ xs) (u ∷ us) s = (raw-32 x (u ∷ []) s.0, raws_32 xs us s.1)

words-64 : (ws : List Weight) (us : List Val) → shadow (each (weight.the_row).Denot (weight.the_row).own_val ws us)
    → Each (λ w. Words w.num w.den) ws
words-64 [] us s = tt
words-64 (w ∷ ws) [] s = absurd s
words-64 (w ∷ ws) (u ∷ us) s = (real_weight w (u ∷ []) s.0, words-64 ws us s.1)

pub real_items : (l : Items) (vs : List Val) → Is items.the_row l vs → RealItems l
real_items l vs p = record { places = places-16 l vs p; raws = raws_32 l.at p.1.1.1.0.0 p.1.1.1.0.1.1 }

pub real_threshold : (t : Threshold) (vs : List Val) → Is threshold.the_row t vs → RealThreshold t
real_threshold t vs p =
    record {
      simple = p.1.1.1.0.1;
      sizes = p.1.1.1.1.1.0.1.0.1;
      weights = weights_16 t vs p;
      words = words-64 t.weights p.1.1.1.1.1.1.0.0 p.1.1.1.1.1.1.0.1.1;
    }

pub real_state : (s : KeyState) (vs : List Val) → Is state.the_row s vs → RealState s
real_state s vs p =
    let f = p.1.1 in
    let own = f.1.1.1.1.0.1.1 in
    let committed = f.1.1.1.1.1.0.1.1 in
    let witnessing = f.1.1.1.1.1.1.0.1.1 in
    let last = f.1.1.1.1.1.1.1.1.1.0.1.1 in
    record {
      prefix = raw-32 s.prefix _ f.0;
      sn = real_number s.sn _ f.1.0;
      said = raw-32 s.said _ f.1.1.0;
      keys = real_items s.authority.keys _ own.0;
      own = real_threshold s.authority.threshold _ own.1.0;
      next = real_items s.commitment.next _ committed.0;
      committed = real_threshold s.commitment.threshold _ committed.1.0;
      witnesses = real_items s.witnessing.witnesses _ witnessing.0;
      toad = witnessing.1.0.1;
      traits = places-8 s.config _ f.1.1.1.1.1.1.1.0;
      since = real_number s.last.sn _ last.0;
      established = raw-32 s.last.said _ last.1.0;
    }
