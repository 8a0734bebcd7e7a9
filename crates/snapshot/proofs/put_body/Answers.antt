use mathlib.Core.List.{◌∷◌, []}
use Rattle.items.proofs.Laws as items
use Rattle.writer.proofs.Laws.{begin, more, last, put_more}
use Rattle.snapshot.specs.Saved.{body_bytes}
use Rattle.snapshot.proofs.Laws.{made}
use Rattle.snapshot.proofs.Shapes.{good_state}
use Rattle.snapshot.proofs.put_body.Goals as goal

pub put_group-r-requires-clause-count_bound : goal.put_group-r-requires-clause-count_bound
put_group-r-requires-clause-count_bound c = (items.good _ _ (good_state c.args.s c.requires.s_value).keys).few

pub put_group-r-requires-clause-t_value : goal.put_group-r-requires-clause-t_value
put_group-r-requires-clause-t_value c = (good_state c.args.s c.requires.s_value).own

pub put_group-e-requires-clause-count_bound : goal.put_group-e-requires-clause-count_bound
put_group-e-requires-clause-count_bound c = (items.good _ _ (good_state c.args.s c.requires.s_value).next).few

pub put_group-e-requires-clause-t_value : goal.put_group-e-requires-clause-t_value
put_group-e-requires-clause-t_value c = (good_state c.args.s c.requires.s_value).committed

pub returns : goal.returns
unfolding body_bytes
returns c = let a = c.args in
    let l0 = begin (body_bytes a.s) a.at a.buf.now c.requires.room in
    let l1 = more _ _ l0 (made c.put_head-p.ensures.value c.put_head-p.ensures.buf_after) in
    let l2 = put_more (a.s.latest ∷ []) _ l1 (c.byte-q.ensures.value, c.byte-q.ensures.buf_after) in
    let l3 = more _ _ l2 (made c.put_group-r.ensures.value c.put_group-r.ensures.buf_after) in
    let l4 = more _ _ l3 (made c.put_group-e.ensures.value c.put_group-e.ensures.buf_after) in
    let w = last _ l4 (made c.put_tail.ensures.value c.put_tail.ensures.buf_after) in
    record { value = w.behind; buf_after = w.bytes }
