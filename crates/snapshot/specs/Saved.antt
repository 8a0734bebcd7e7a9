-- "KS: prefix, sn, latest said, latest type (0 IC, 1 RO, 2 IX), keys, threshold, next, next threshold, witnesses, toad, config,
-- transferable 0 or 1, last establishment sn and said. Saving writes a KS, answers 0 with the whole record's length (mark and
-- length included, as in 41) as a, and touches no byte after it; saving an empty holder answers 8."
use Rattle.std.specs.Prelude.{ℕ, List, [], ◌∷◌, ◌++◌, leb, eqb, length, Result, Ok, Err}
use Rattle.lists.specs.Lists.{pick}
use Rattle.number.specs.declared.Number.{Number}
use Rattle.item.specs.declared.Item.{Item}
use Rattle.items.specs.declared.Items.{Items}
use Rattle.threshold.specs.declared.Threshold.{Threshold}
use Rattle.answer.specs.declared.Answer.{Answer}
use Rattle.answer.specs.declared.Refusal.{Refusal}
use Rattle.answer.specs.Answer.{refused}
use Rattle.answer.specs.Refusal.{answer_of}
use Rattle.state.specs.declared.KeyState.{KeyState}
use Rattle.state.specs.declared.Holder.{Holder}
use Rattle.state.specs.State.{is_held}
use Rattle.shape.specs.State.{holder_shape}
use Rattle.writer.specs.Writing.{be, over}
use Rattle.snapshot.specs.Bytes.{words_bytes, item_bytes, items_bytes, config_bytes, threshold_bytes, flag_byte}

-- ---- The groups of fields that a snapshot has twice
-- "sn, said": of the latest event, of the last establishment
unfoldable pub point_bytes : Number → Item → List ℕ
point_bytes sn said = words_bytes sn.high sn.low ++ item_bytes said

-- "keys, threshold", "next, next threshold"
unfoldable pub group_bytes : Items → Threshold → List ℕ
group_bytes l t = items_bytes l ++ threshold_bytes t

-- ---- A snapshot, field by field
-- "prefix, sn, latest said"
unfoldable pub head_bytes : KeyState → List ℕ
head_bytes s = item_bytes s.prefix ++ point_bytes s.sn s.said

-- "witnesses, toad, config, transferable 0 or 1, last establishment sn and said"
unfoldable pub tail_bytes : KeyState → List ℕ
tail_bytes s =
    items_bytes s.witnessing.witnesses
    ++ (be 4 s.witnessing.toad
    ++ (config_bytes s.config
    ++ ((flag_byte s.transferable ∷ [])
    ++ point_bytes s.last.sn s.last.said)))

unfoldable pub body_bytes : KeyState → List ℕ
body_bytes s =
    head_bytes s
    ++ ((s.latest ∷ [])
    ++ (group_bytes s.authority.keys s.authority.threshold
    ++ (group_bytes s.commitment.next s.commitment.threshold
    ++ tail_bytes s)))

-- ---- "A record is a two-byte ASCII mark, a u16 body length, the body": KS is 0x4B, 0x53
unfoldable pub encoded : KeyState → List ℕ
encoded s = (0x4B ∷ 0x53 ∷ []) ++ (be 2 (length (body_bytes s)) ++ body_bytes s)

-- what saving answers, and the buffer after it: "Every refusal leaves state and buffers untouched."
unfoldable pub saved : Holder → List ℕ → Answer × List ℕ
saved h buf =
    pick (eqb (holder_shape h) 0)
    (pick (is_held h)
    (pick (leb (length (encoded h.state)) (length buf))
    (refused 0 (length (encoded h.state)) 0, over 0 (encoded h.state) buf)
    (refused 41 (length (encoded h.state)) 0, buf))
    (refused 8 0 0, buf))
    (refused (holder_shape h) 0 0, buf)

-- what saving gives, as an answer: the record's whole length, or a refusal
abbrev pub saved_as : Result ℕ Refusal → Answer
saved_as (Ok n) = refused 0 n 0
saved_as (Err r) = answer_of r
