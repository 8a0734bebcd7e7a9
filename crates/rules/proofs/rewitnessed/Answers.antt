use Rattle.std.proofs.lemmas.Result.{err_from_is_err_and}
use Rattle.evidence.specs.Evidence.{receipted_on}
use Rattle.rules.proofs.Laws.{toad_stops, receipts_stop, rewitnesses}
use Rattle.rules.proofs.rewitnessed.Goals as goal

pub returns-in_err-check_witness_threshold : goal.returns-in_err-check_witness_threshold
returns-in_err-check_witness_threshold c =
    let r = c.from_residual-in_err-check_witness_threshold in
    let p = err_from_is_err_and r.result r.ensures.1 in
    rw (p.1, p.2) (toad_stops _ _ c.args.toad (receipted_on c.args.toad c.args.v) _ c.in_ok-check_change.ensures c.in_ok-list.ensures _ c.in_err-check_witness_threshold.ensures)

pub returns-in_err-receipted : goal.returns-in_err-receipted
returns-in_err-receipted c =
    let r = c.from_residual-in_err-receipted in
    let p = err_from_is_err_and r.result r.ensures.1 in
    rw (p.1, p.2) (receipts_stop _ _ c.args.toad (receipted_on c.args.toad c.args.v) _ c.in_ok-check_change.ensures c.in_ok-list.ensures c.in_ok-check_witness_threshold.ensures _ c.in_err-receipted.ensures)

pub returns : goal.returns
returns c = rewitnesses _ _ c.args.toad (receipted_on c.args.toad c.args.v) _ c.in_ok-check_change.ensures c.in_ok-list.ensures c.in_ok-check_witness_threshold.ensures c.in_ok-receipted.ensures
