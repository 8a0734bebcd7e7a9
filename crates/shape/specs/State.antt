-- The shape of a state struct, in KS's field order.
use Rattle.std.specs.Prelude.{ℕ, [], ◌∷◌, leb}
use Rattle.lists.specs.Lists.{pick}
use Rattle.answer.specs.Answer.{first_fault}
use Rattle.item.specs.declared.Kind.TheVariants.{Prefix, Key, Said}
use Rattle.item.specs.Item.{item_shape}
use Rattle.items.specs.Items as items
use Rattle.config.specs.Config as config
use Rattle.state.specs.declared.KeyState.{KeyState}
use Rattle.state.specs.declared.Holder.{Holder}
use Rattle.state.specs.State.{is_held}
use Rattle.shape.specs.Event.{own_shape, next_shape}

-- "prefix, sn, latest said, latest type (0 IC, 1 RO, 2 IX), keys, threshold, next, next threshold, witnesses, toad, config,
-- transferable 0 or 1, last establishment sn and said"
abbrev pub latest_shape : ℕ → ℕ
latest_shape latest = pick (leb latest 2) 0 3

unfoldable pub state_head : KeyState → ℕ
state_head s = first_fault (item_shape Prefix s.prefix ∷ item_shape Said s.said ∷ latest_shape s.latest ∷ [])

unfoldable pub state_tail : KeyState → ℕ
state_tail s = first_fault (items.shape_of Key s.witnessing.witnesses ∷ config.shape_of s.config ∷ item_shape Said s.last.said ∷ [])

unfoldable pub state_shape : KeyState → ℕ
state_shape s = first_fault (state_head s ∷ own_shape s.authority ∷ next_shape s.commitment ∷ state_tail s ∷ [])

-- an empty holder has no shape to look at
unfoldable pub holder_shape : Holder → ℕ
holder_shape h = pick (is_held h) (state_shape h.state) 0
