use native.Mathlib.Omega.{arith}
use mathlib.Core.Path.{refl}
use Rattle.item.specs.Item.{zero_item}
use Rattle.cursor.proofs.Laws.{list_more}
use Rattle.field.specs.Field.{item_of}
use Rattle.field.proofs.Laws.{items_none, items_is}
use Rattle.field.proofs.fill_items.Goals as goal

pub loop-i-init : goal.loop-i-init
loop-i-init c = items_none _ _ _ c.zero-z.ensures

pub loop-i-preserved : goal.loop-i-preserved
loop-i-preserved c = let a = c.args in
    list_more (item_of a.s.now) 33 16 zero_item c.loop-i.i a.l.first _ _ _ (omega arith) refl c.copy_item.ensures c.loop-i.invariant

pub returns : goal.returns
returns c = items_is c.args.s.now c.args.l.count c.args.l.first _ _ (omega arith) c.loop-i.invariant
