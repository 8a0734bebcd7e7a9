use Rattle.std.proofs.Common.{◌≡◌, ◌∙◌, sym, ◌+◌, get_or, drop, eqb}
use Rattle.std.specs.List.{list_any}
use Rattle.satisfied.proofs.Laws.{asked, count_again, count_new, count_end}
use Rattle.satisfied.proofs.names_at_least.Goals as goal
use Rattle.satisfied.proofs.names_at_least.Goals.{then-not-contains, else-not-contains}

pub loop-i-preserved : goal.loop-i-preserved
loop-i-preserved c =
    let ps = c.args.ps.now in
    let l = c.loop-i in
    let named_again : c.contains.result ≡ list_any (λ y. eqb y (get_or ps l.i 0)) (drop (l.i + 1) ps) = c.contains.ensures.value ∙ asked (λ y. eqb y (get_or ps l.i 0)) ps (l.i + 1) in
    elim c.if-not-contains.branch [
      | then-not-contains w ↦ rw w.left-is (count_new ps l.left l.i c.loop-i-test.true c.if-left-eq0.false (sym named_again ∙ w.if-not-contains.true) ∙ l.invariant)
      | else-not-contains w ↦ rw w.left-is (count_again ps l.left l.i c.loop-i-test.true (sym named_again ∙ w.if-not-contains.false) ∙ l.invariant)
    ]

pub returns : goal.returns
returns c = count_end c.args.ps.now c.loop-i.left c.loop-i.i c.loop-i-test.false ∙ c.loop-i.invariant
