-- The unchecked fold of one record's body, for every holder, mark and byte string.
use Rattle.std.specs.Prelude.{ℕ, List, eqb}
use Rattle.lists.specs.Lists.{pick}
use Rattle.state.specs.declared.Holder.{Holder}
use Rattle.ingest.specs.declared.Offered.{Offered}
use Rattle.layout.specs.Records.{Content, event, snapshot, refusal, content_of}
use Rattle.ingest.specs.Judgement.{turned_away}
use Rattle.receive.specs.Received.{unless_bad}
use Rattle.fold.specs.Fold.{folded}

-- an event is folded; a body that cannot be read gets 2, 3 or 4
abbrev pub fold_taken : Holder → Content → Offered
fold_taken h (event e) = folded h e
fold_taken h (snapshot s) = turned_away h 2
fold_taken h (refusal n) = turned_away h n

-- "Events are IC, RO, IX, DI and DR; a KS is none": the fold knows no such mark, and does not read its body.
unfoldable pub body_folded : Holder → ℕ → List ℕ → Offered
body_folded h mark body = unless_bad h (pick (eqb mark 0x4B53) (turned_away h 2) (fold_taken h (content_of mark body)))
