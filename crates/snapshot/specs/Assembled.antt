-- A KS record put together from runs of bytes that are at hand, and a record whose latest event is put in place.
use Rattle.std.specs.Prelude.{ℕ, List, [], ◌∷◌, ◌++◌, Bool, leb, eqb, length}
use Rattle.lists.specs.Lists.{pick, both}
use Rattle.item.specs.declared.Item.{Item}
use Rattle.config.specs.declared.Config.{Config}
use Rattle.authority.specs.declared.Witnessing.{Witnessing}
use Rattle.answer.specs.declared.Answer.{Answer}
use Rattle.answer.specs.Answer.{refused}
use Rattle.state.specs.declared.KeyState.{KeyState}
use Rattle.snapshot.specs.declared.Loose.{Loose}
use Rattle.writer.specs.Writing.{be, over}
use Rattle.snapshot.specs.Bytes.{item_bytes, items_bytes, config_bytes, flag_byte}

-- "A record is a two-byte ASCII mark, a u16 body length, the body": KS is 0x4B, 0x53. `encoded s` is `framed (body_bytes s)`.
abbrev pub framed : List ℕ → List ℕ
framed body = (0x4B ∷ 0x53 ∷ []) ++ (be 2 (length body) ++ body)

-- a snapshot's body, where "sn, said", "keys, threshold, next, next threshold" and "last establishment sn and said" are at
-- hand as bytes
unfoldable pub joined : Loose → List ℕ → List ℕ → List ℕ → List ℕ
joined x point signers last =
    item_bytes x.prefix
    ++ (point
    ++ ((x.latest ∷ [])
    ++ (signers
    ++ (items_bytes x.witnessing.witnesses
    ++ (be 4 x.witnessing.toad
    ++ (config_bytes x.config
    ++ ((flag_byte x.transferable ∷ []) ++ last)))))))

-- the same in two parts: up to the signers, and behind them
unfoldable pub front_bytes : Item → List ℕ → ℕ → List ℕ → List ℕ
front_bytes prefix point latest signers = item_bytes prefix ++ (point ++ ((latest ∷ []) ++ signers))

unfoldable pub back_bytes : Witnessing → Config → Bool → List ℕ → List ℕ
back_bytes w c transferable last =
    items_bytes w.witnesses ++ (be 4 w.toad ++ (config_bytes c ++ ((flag_byte transferable ∷ []) ++ last)))

-- the fields of a state that are not taken over as bytes
abbrev pub loose_of : KeyState → Loose
loose_of s =
    record {
      prefix = s.prefix;
      latest = s.latest;
      witnessing = s.witnessing;
      config = s.config;
      transferable = s.transferable;
    }

-- "answers 0 with the whole record's length .. as a", 41 with the bytes needed where there is no room
unfoldable pub placed : List ℕ → List ℕ → Answer × List ℕ
placed xs buf =
    pick (leb (length xs) (length buf)) (refused 0 (length xs) 0, over 0 xs buf) (refused 41 (length xs) 0, buf)

-- counts and runs that no snapshot has: 4
unfoldable pub fitting : Loose → List ℕ → List ℕ → List ℕ → Bool
fitting x point signers last =
    both (leb x.witnessing.witnesses.count 16)
    (both (leb x.config.count 8)
    (both (leb (length point) 49) (both (leb (length last) 49) (leb (length signers) 65535))))

unfoldable pub assembled : Loose → List ℕ → List ℕ → List ℕ → List ℕ → Answer × List ℕ
assembled x point signers last buf =
    pick (fitting x point signers last) (placed (framed (joined x point signers last)) buf) (refused 4 0 0, buf)

-- an interaction moves only "sn, latest said" and the latest type, which stand behind mark, length and prefix: bytes 37 to 86
unfoldable pub pointed : List ℕ → List ℕ → List ℕ
pointed point buf = pick (both (eqb (length point) 49) (leb 87 (length buf))) (over 37 (point ++ (2 ∷ [])) buf) buf
