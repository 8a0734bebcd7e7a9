use lib.ListN.{drop}
use Rattle.snapshot.specs.Bytes.{each, weight_bytes}
use Rattle.writer.proofs.Laws.{Left}
use Rattle.snapshot.proofs.put_weights.Given as goal

-- the weights from here on are to come
abbrev pub invariant-loop-w : goal.invariant-loop-w
invariant-loop-w l = Left (each weight_bytes l.weights) l.at l.initial.buf (each weight_bytes (drop l.w-index l.weights)) l.p l.buf
