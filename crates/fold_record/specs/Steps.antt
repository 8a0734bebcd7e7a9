-- Steps on the way to a folded body, for a holder and a content of good shape. proofs/Laws has that they lead to `fold_taken`.
use Rattle.std.specs.Prelude.{ℕ, List, eqb}
use Rattle.lists.specs.Lists.{pick}
use Rattle.event.specs.declared.Ilk.{Ilk}
use Rattle.event.specs.declared.Event.{Event}
use Rattle.state.specs.declared.Holder.{Holder}
use Rattle.state.specs.State.{holding}
use Rattle.ingest.specs.declared.Offered.{Offered}
use Rattle.ingest.specs.Judgement.{settled}
use Rattle.layout.specs.Records.{Content, event, snapshot, refusal, content_of}
use Rattle.ingest.specs.Judgement.{turned_away}
use Rattle.fold.specs.Fold.{foldable, folded_as}

-- an event's fold by its ilk, with no shape looked at
abbrev pub fold_of : Ilk → Holder → Event → Offered
fold_of k h e = settled h (foldable k h e) (holding (folded_as k h.state e))

abbrev pub content_folded : Holder → Content → Offered
content_folded h (event e) = fold_of e.ilk h e
content_folded h (snapshot s) = turned_away h 2
content_folded h (refusal n) = turned_away h n

unfoldable pub folded_by : Holder → ℕ → List ℕ → Offered
folded_by h mark body = pick (eqb mark 0x4B53) (turned_away h 2) (content_folded h (content_of mark body))
