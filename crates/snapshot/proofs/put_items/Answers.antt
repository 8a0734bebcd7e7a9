use mathlib.Core.Path.{◌≡◌}
use mathlib.Core.List.{List, ◌∷◌, []}
use Prim.Native.Nat.{ℕ, ◌≤◌}
use native.Mathlib.Omega.{arith}
use lib.ListN.{length, length-take}
use Rattle.items.specs.declared.Items.{Items}
use Rattle.items.specs.Items.{listed}
use Rattle.items.proofs.Laws.{places-16}
use Rattle.writer.specs.Writing.{Room}
use Rattle.snapshot.specs.Bytes.{each, item_bytes, items_bytes}
use Rattle.writer.proofs.Laws.{Put, Left, begin, last, put_more}
use Rattle.snapshot.proofs.Laws.{each_fits, each_more, each_done}
use Rattle.snapshot.proofs.put_items.Goals as goal

-- the count byte is there
behind_count : (l : Items) (at : ℕ) (b : List ℕ) (p : ℕ) (b' : List ℕ) → length l.at ≡ 16 → l.count ≤ 16 → Room (items_bytes l) at b
    → Put (l.count ∷ []) at b p b' → Left (items_bytes l) at b (each item_bytes (listed l)) p b'
unfolding items_bytes
behind_count l at b p b' h g r w =
    let n : length (listed l) ≡ l.count = simp length-take (omega arith) in
    put_more (length (listed l) ∷ []) (each item_bytes (listed l)) (begin (items_bytes l) at b r) (rw n w)

pub loop-x-init : goal.loop-x-init
loop-x-init c = let a = c.args in
    let h : length a.l.at ≡ 16 = places-16 a.l _ c.well_formed.1.1.0 in
    begin _ _ _ (behind_count a.l a.at a.buf.now _ _ h c.requires.count_bound c.requires.room (c.byte-p.ensures.value, c.byte-p.ensures.buf_after)).room

pub put_item-p-requires : goal.put_item-p-requires
put_item-p-requires c = let l = c.loop-x in each_fits item_bytes (listed c.args.l) l.x-index l.invariant _ (omega arith)

pub loop-x-preserved : goal.loop-x-preserved
loop-x-preserved c = let l = c.loop-x in
    each_more item_bytes (listed c.args.l) l.x-index l.invariant _ (omega arith) c.put_item-p.ensures.value c.put_item-p.ensures.buf_after

pub returns : goal.returns
returns c = let a = c.args in
    let l = c.loop-x in
    let h : length a.l.at ≡ 16 = places-16 a.l _ c.well_formed.1.1.0 in
    let f = behind_count a.l a.at a.buf.now _ _ h c.requires.count_bound c.requires.room (c.byte-p.ensures.value, c.byte-p.ensures.buf_after) in
    let w = last _ f (each_done item_bytes (listed a.l) l.x-index l.invariant (omega arith)) in
    record { value = w.behind; buf_after = w.bytes }
