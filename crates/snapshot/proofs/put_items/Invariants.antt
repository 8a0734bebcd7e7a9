use lib.ListN.{drop}
use Rattle.items.specs.Items.{listed}
use Rattle.snapshot.specs.Bytes.{each, item_bytes}
use Rattle.writer.proofs.Laws.{Left}
use Rattle.snapshot.proofs.put_items.Given as goal

-- the items from here on are to come, behind the count byte
abbrev pub invariant-loop-x : goal.invariant-loop-x
invariant-loop-x l =
    Left (each item_bytes (listed l.fn.l)) l.initial.p l.initial.buf (each item_bytes (drop l.x-index (listed l.fn.l))) l.p l.buf
