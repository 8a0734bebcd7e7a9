use Rattle.std.proofs.Common.{rules, ltb}
use Rattle.std.proofs.lemmas.List.Sorted.{answers_always}
use Rattle.satisfied.proofs.Laws.{rising_answer}
use Rattle.satisfied.proofs.is_rising.Goals as goal

pub returns : goal.returns
returns c = rising_answer c.args.ps.now c.is_sorted_by.result (c.is_sorted_by.ensures.cases ltb (answers_always _ _ _ (λ f a r f' k. search rules)))
