-- The shape of an event struct: "Struct entries apply the same classes and limits .. in field order", 3 and 4.
use Rattle.std.specs.Prelude.{ℕ, [], ◌∷◌}
use Rattle.answer.specs.Answer.{first_fault}
use Rattle.item.specs.declared.Kind.TheVariants.{Prefix, Key, Said}
use Rattle.item.specs.Item.{item_shape}
use Rattle.items.specs.Items as items
use Rattle.threshold.specs.Threshold as threshold
use Rattle.config.specs.Config as config
use Rattle.verification.specs.Verification as verification
use Rattle.authority.specs.declared.Authority.{Authority}
use Rattle.authority.specs.declared.Commitment.{Commitment}
use Rattle.event.specs.declared.Ilk.{Ilk}
use Rattle.event.specs.declared.Ilk.TheVariants.{Inception, Rotation, Interaction, DelegatedInception, DelegatedRotation}
use Rattle.event.specs.declared.Head.{Head}
use Rattle.event.specs.declared.Body.{Body}
use Rattle.event.specs.declared.Event.{Event}

-- "prefix, sn, said", and "prior" behind them where there is one
unfoldable pub first_head : Head → ℕ
first_head h = first_fault (item_shape Prefix h.prefix ∷ item_shape Said h.said ∷ [])

unfoldable pub later_head : Head → ℕ
later_head h = first_fault (first_head h ∷ item_shape Said h.prior ∷ [])

-- "keys, threshold", and "next, next threshold": of an event and of a state alike
unfoldable pub own_shape : Authority → ℕ
own_shape a = first_fault (items.shape_of Key a.keys ∷ threshold.shape_of a.threshold ∷ [])

unfoldable pub next_shape : Commitment → ℕ
next_shape c = first_fault (items.shape_of Said c.next ∷ threshold.shape_of c.threshold ∷ [])

-- "keys, threshold, next, next threshold, witnesses" or "additions"
unfoldable pub body_shape : Body → ℕ
body_shape b = first_fault (own_shape b.authority ∷ next_shape b.commitment ∷ items.shape_of Key b.additions ∷ [])

-- "signatures, receipts"
unfoldable pub signed_shape : Event → ℕ
signed_shape e = first_fault (verification.shape_of e.sigs ∷ verification.shape_of e.receipts ∷ [])

abbrev pub shape_as : Ilk → Event → ℕ
shape_as Inception e = first_fault (first_head e.head ∷ body_shape e.body ∷ config.shape_of e.body.config ∷ signed_shape e ∷ [])
shape_as Rotation e = first_fault (later_head e.head ∷ body_shape e.body ∷ items.shape_of Key e.body.removals ∷ signed_shape e ∷ [])
shape_as Interaction e = first_fault (later_head e.head ∷ signed_shape e ∷ [])
shape_as DelegatedInception e = 0
shape_as DelegatedRotation e = 0

-- DI and DR have no shape
unfoldable pub event_shape : Event → ℕ
event_shape e = shape_as e.ilk e
