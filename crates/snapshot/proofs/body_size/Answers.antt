use native.Mathlib.Omega.{arith}
use Rattle.items.proofs.Laws as items
use Rattle.config.proofs.Laws as config
use Rattle.snapshot.proofs.Shapes.{good_state}
use Rattle.snapshot.proofs.Real.{real_state}
use Rattle.snapshot.proofs.Size.{body_size}
use Rattle.snapshot.proofs.body_size.Goals as goal

pub group_size-own-requires : goal.group_size-own-requires
group_size-own-requires c = let g = good_state c.args.s c.requires in
    record { count_bound = (items.good _ _ g.keys).few; t_value = g.own }

pub group_size-next-requires : goal.group_size-next-requires
group_size-next-requires c = let g = good_state c.args.s c.requires in
    record { count_bound = (items.good _ _ g.next).few; t_value = g.committed }

pub items_size-requires : goal.items_size-requires
items_size-requires c = let g = good_state c.args.s c.requires in
    (items.good _ _ g.witnesses).few

pub overflow_add-result-4 : goal.overflow_add-result-4
overflow_add-result-4 c = let g = good_state c.args.s c.requires in
    let few = (config.good _ g.config).few in
    omega arith

pub returns : goal.returns
returns c = let g = good_state c.args.s c.requires in
    let few = (config.good _ g.config).few in
    let own = c.group_size-own.ensures in
    let next = c.group_size-next.ensures in
    let witnesses = c.items_size.ensures in
    let r = real_state c.args.s _ c.well_formed.0 in
    record { is = body_size c.args.s _ _ _ r few own.is next.is witnesses.is; few = omega arith }
