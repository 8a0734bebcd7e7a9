use mathlib.Core.Path.{◌∙◌, ap}
use Rattle.ingest.specs.declared.Offered.{Offered}
use Rattle.state.specs.declared.Holder.{Holder}
use Rattle.ingest.specs.Judgement.{offered}
use Rattle.lent_state.specs.declared.Ingested.{Ingested}
use Rattle.lent_state.specs.Ingested.{ingested}
use Rattle.lent_state.proofs.ingest.Goals as goal

pub returns : goal.returns
unfolding ingested
returns c = let out : Offered → Ingested = λ o. record { answer = o.answer; state = o.holder.state } in
    ap out (c.offer-offered.ensures ∙ ap (λ (h : Holder). offered h c.args.e) c.hold.ensures)
