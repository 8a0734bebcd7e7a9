-- Before the receipt at i the tally is that of the first i; the search at j has passed no copy of the receipt at i.
use Rattle.std.proofs.Common.{◌≡◌}
use Rattle.lent_receipts.proofs.Laws.{tally_at, Unlike}
use Rattle.lent_receipts.proofs.receipted_by.Given as goal

abbrev pub invariant-loop-j : goal.invariant-loop-j
invariant-loop-j l = (l.place ≡ l.i) × Unlike l.witnesses l.receipts l.i l.j

abbrev pub invariant-loop-i : goal.invariant-loop-i
invariant-loop-i l = l.t ≡ tally_at l.witnesses l.receipts l.i
