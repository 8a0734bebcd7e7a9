use Rattle.std.proofs.Common.{arith, rules, ◌≡◌, ◌∙◌, sym, ap, min, length, take, drop, get_or}
use Rattle.lists.proofs.Walks.{head_of}
use Rattle.places.specs.Places.{bit_at}
use Rattle.weight.specs.Weight.{reaches_one}
use Rattle.threshold.proofs.Laws.{reached, not_reached, all_reached}
use Rattle.threshold.proofs.judge_clauses.Goals as goal

pub loop-i-preserved : goal.loop-i-preserved
loop-i-preserved c =
    let a = c.args in
    let l = c.loop-i in
    let size = get_or a.sizes.now l.i 0 in
    let m : c.min.result ≡ min size (length l.rest.now) = search rules in
    let front : c.split_at.result.0.now ≡ take (min size (length l.rest.now)) l.rest.now = rw m at c.split_at.ensures.front in
    let back : c.split_at.result.1.now ≡ drop (min size (length l.rest.now)) l.rest.now = rw m at c.split_at.ensures.back in
    let r = ap reaches_one (sym c.clause_sum.ensures) ∙ sym c.reaches_one.ensures ∙ c.if-not-reaches_one.false in
    (omega arith, reached (bit_at a.set) a.sizes.now l.rest.now _ l.i l.base size (head_of 0 a.sizes.now l.i c.loop-i-test.true) front _ back r ∙ l.invariant.1)

pub returns-then-not-reaches_one : goal.returns-then-not-reaches_one
returns-then-not-reaches_one c =
    let a = c.args in
    let l = c.loop-i in
    let size = get_or a.sizes.now l.i 0 in
    let m : c.min.result ≡ min size (length l.rest.now) = search rules in
    let front : c.split_at.result.0.now ≡ take (min size (length l.rest.now)) l.rest.now = rw m at c.split_at.ensures.front in
    let r = ap reaches_one (sym c.clause_sum.ensures) ∙ sym c.reaches_one.ensures ∙ c.if-not-reaches_one.true in
    not_reached (bit_at a.set) a.sizes.now l.rest.now _ l.i l.base size (head_of 0 a.sizes.now l.i c.loop-i-test.true) front r ∙ l.invariant.1

pub returns : goal.returns
returns c = all_reached (bit_at c.args.set) c.args.sizes.now c.loop-i.rest.now c.loop-i.i c.loop-i.base (omega arith) ∙ c.loop-i.invariant.1
