use Rattle.std.proofs.Common.{arith, ◌≡◌, ◌∙◌, sym, ap, ◌+◌, get_or, Bool, false}
use borrow.Author.Tests.{lt-ltb}
use Rattle.lists.specs.Lists.{pick}
use Rattle.lists.proofs.Walks.{head_of}
use Rattle.places.specs.Places.{bit_at}
use Rattle.weight.specs.Weight.{weigh}
use Rattle.threshold.proofs.Laws.{no_weight, sum_next, sum_end}
use Rattle.threshold.proofs.clause_sum.Goals as goal

pub loop-k-preserved : goal.loop-k-preserved
loop-k-preserved c =
    let a = c.args in
    let k = c.loop-k.k in
    let signed = bit_at a.set in
    let w = get_or a.clause.now k no_weight in
    let h : c.has-signed.result ≡ signed (a.base + k) = c.has-signed.ensures ∙ ap (λ (b : Bool). pick b (signed (a.base + k)) false) (lt-ltb (a.base + k) 16 (omega arith)) in
    let e : c.weigh-sum.result ≡ weigh (signed (a.base + k)) c.loop-k.sum w = c.weigh-sum.ensures ∙ ap (λ (b : Bool). weigh b c.loop-k.sum w) h in
    rw e (sum_next signed c.loop-k.sum a.clause.now a.base k w (head_of no_weight a.clause.now k c.loop-k-test.true) ∙ c.loop-k.invariant)

pub returns : goal.returns
returns c = sym (sum_end (bit_at c.args.set) c.loop-k.sum c.args.clause.now c.args.base c.loop-k.k (omega arith)) ∙ c.loop-k.invariant
