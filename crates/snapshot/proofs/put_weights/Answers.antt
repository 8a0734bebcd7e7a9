use native.Mathlib.Omega.{arith}
use Rattle.snapshot.specs.Bytes.{weight_bytes}
use Rattle.writer.proofs.Laws.{begin}
use Rattle.snapshot.proofs.Laws.{each_fits, each_more, each_done}
use Rattle.snapshot.proofs.put_weights.Goals as goal

pub loop-w-init : goal.loop-w-init
loop-w-init c = begin _ _ _ c.requires

pub put_words-p-requires : goal.put_words-p-requires
put_words-p-requires c = let l = c.loop-w in each_fits weight_bytes c.args.weights.now l.w-index l.invariant _ (omega arith)

pub loop-w-preserved : goal.loop-w-preserved
loop-w-preserved c = let l = c.loop-w in
    each_more weight_bytes c.args.weights.now l.w-index l.invariant _ (omega arith) c.put_words-p.ensures.value c.put_words-p.ensures.buf_after

pub returns : goal.returns
returns c = let l = c.loop-w in
    let w = each_done weight_bytes c.args.weights.now l.w-index l.invariant (omega arith) in
    record { value = w.behind; buf_after = w.bytes }
