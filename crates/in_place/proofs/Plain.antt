-- What bytes hold: a refusal by their shape has no details ("Numbers 1 to 4"), and a state that is kept has a good shape. Assumes nothing.
--     content_plain, state_plain, kept_plain    a refusal of a body, of a state's bytes, of a buffer's
--     kept_shape                                what is kept
use mathlib.Core.Path.{◌≡◌, refl, sym, ap}
use mathlib.Core.Bool.{Bool, true, false}
use mathlib.Core.List.{List}
use Prim.Native.Nat.{ℕ, ◌+◌, ◌≤◌}
use native.Mathlib.Omega.{arith}
use lib.Dec.{eqb, leb}
use lib.ListN.{length, take, drop}
use Rattle.lists.specs.Lists.{pick, both}
use Rattle.answer.specs.declared.Refusal.{Refusal}
use Rattle.answer.specs.declared.Refusal.TheVariants.{Truncated, UnknownMark, BadField, TooMany, StateHeld, EvidenceRequired, DelegatorUnknown, NotInception, DuplicateInception, NonTransferableState, NonZeroGenesisSn, BasicKeyCount, BasicThreshold, BasicKeyMismatch, NonTransferableNextKeys, NonTransferableWitnesses, NonTransferableAnchors, Duplicate, TransferableWitness, CutAddOverlap, RemovalNotCurrent, AdditionAlreadyPresent, BelowMinimum, ExceedsKeyCount, EmptyClauseList, EmptyClause, MissingSignatures, PriorNextThresholdUnsatisfied, NonTransferableCommitsNextKeys, WitnessThresholdZeroWithWitnesses, WitnessThresholdExceeded, InsufficientWitnessReceipts, IdentifierMismatch, SequenceNumberOverflow, OutOfOrder, PriorDigestMismatch, InteractionOnEstablishmentOnly, TooManyWitnesses, Overflow, OutOfRange, NoRoom}
use Rattle.answer.specs.Answer.{refused}
use Rattle.answer.specs.Refusal.{answer_of}
use Rattle.state.specs.declared.KeyState.{KeyState}
use Rattle.state.specs.State.{is_held, holding}
use Rattle.shape.specs.State.{state_shape, holder_shape}
use Rattle.layout.specs.Records.{Content, event, snapshot, refusal, content_of, First, record_of, truncated, first_of, mark_of, body_length}
use Rattle.decoded.specs.Decoded.{Shaped}
use Rattle.decoded.proofs.Shapes.{decoded_shape}
use Rattle.found.specs.Kept.{Kept, none, one, alone, snapshot_first, state_in, kept_in}

-- a refusal below 5 names no details
no_details : (r : Refusal) → (answer_of r).number ≤ 4 → answer_of r ≡ refused (answer_of r).number 0 0
no_details Truncated h = refl
no_details UnknownMark h = refl
no_details BadField h = refl
no_details TooMany h = refl
no_details StateHeld h = refl
no_details EvidenceRequired h = refl
no_details DelegatorUnknown h = refl
no_details NotInception h = refl
no_details DuplicateInception h = refl
no_details NonTransferableState h = refl
no_details (NonZeroGenesisSn sn) h = absurd (omega (arith, h))
no_details (BasicKeyCount keys) h = absurd (omega (arith, h))
no_details BasicThreshold h = refl
no_details BasicKeyMismatch h = refl
no_details NonTransferableNextKeys h = refl
no_details NonTransferableWitnesses h = refl
no_details NonTransferableAnchors h = refl
no_details (Duplicate list) h = absurd (omega (arith, h))
no_details (TransferableWitness list) h = absurd (omega (arith, h))
no_details CutAddOverlap h = refl
no_details RemovalNotCurrent h = refl
no_details AdditionAlreadyPresent h = refl
no_details BelowMinimum h = refl
no_details (ExceedsKeyCount required keys) h = absurd (omega (arith, h))
no_details EmptyClauseList h = refl
no_details EmptyClause h = refl
no_details (MissingSignatures few) h = absurd (omega (arith, h))
no_details (PriorNextThresholdUnsatisfied few) h = absurd (omega (arith, h))
no_details NonTransferableCommitsNextKeys h = refl
no_details (WitnessThresholdZeroWithWitnesses witnesses) h = absurd (omega (arith, h))
no_details (WitnessThresholdExceeded toad witnesses) h = absurd (omega (arith, h))
no_details (InsufficientWitnessReceipts valid required) h = absurd (omega (arith, h))
no_details IdentifierMismatch h = refl
no_details SequenceNumberOverflow h = refl
no_details (OutOfOrder expected actual) h = absurd (omega (arith, h))
no_details PriorDigestMismatch h = refl
no_details InteractionOnEstablishmentOnly h = refl
no_details (TooManyWitnesses count) h = absurd (omega (arith, h))
no_details (Overflow witnesses) h = absurd (omega (arith, h))
no_details (OutOfRange toad witnesses) h = absurd (omega (arith, h))
no_details (NoRoom needed) h = absurd (omega (arith, h))

-- a body's refusal
pub content_plain : (mark : ℕ) (s : List ℕ) (r : Refusal) → refusal (answer_of r).number ≡ content_of mark s → answer_of r ≡ refused (answer_of r).number 0 0
content_plain mark s r e =
    let h : Shaped (content_of mark s) = decoded_shape mark s in
    let g : Shaped (refusal (answer_of r).number) = rw (sym e) at h in
    let four : (answer_of r).number ≤ 4 = g.1 in
    no_details r (omega arith)

-- a state's refusal
few_alone : (whole : Bool) (c : Content) → Shaped c → (alone whole c).number ≤ 4
few_alone true (snapshot s) h = omega arith
few_alone false (snapshot s) h = omega arith
few_alone whole (refusal n) h = h.1
few_alone whole (event e) h = omega arith

few_marked : (ks : Bool) (whole : Bool) (c : Content) → Shaped c → (pick ks (alone whole c) (none 2)).number ≤ 4
few_marked true whole c h = few_alone whole c h
few_marked false whole c h = omega arith

few_first : (end : ℕ) (b : Bool) (mark next : ℕ) (body : List ℕ) → (snapshot_first end (pick b (record_of mark (content_of mark body) next) truncated)).number ≤ 4
few_first end true mark next body = few_marked (eqb mark 0x4B53) (eqb next end) (content_of mark body) (decoded_shape mark body)
few_first end false mark next body = omega arith

few_state : (s : List ℕ) → (state_in s).number ≤ 4
unfolding state_in first_of
few_state s = go (eqb (length s) 0)
  where
    go : (b : Bool) → (pick b (none 0) (snapshot_first (length s) (pick (both (leb 4 (length s)) (leb (4 + body_length s) (length s))) (record_of (mark_of s) (content_of (mark_of s) (take (body_length s) (drop 4 s))) (4 + body_length s)) truncated))).number ≤ 4
    go true = omega arith
    go false = few_first (length s) (both (leb 4 (length s)) (leb (4 + body_length s) (length s))) (mark_of s) (4 + body_length s) (take (body_length s) (drop 4 s))

few_kept : (buf : List ℕ) (used : ℕ) → (kept_in buf used).number ≤ 4
unfolding kept_in
few_kept buf used = go (leb used (length buf))
  where
    go : (b : Bool) → (pick b (state_in (take used buf)) (none 1)).number ≤ 4
    go true = few_state (take used buf)
    go false = omega arith

pub state_plain : (s : List ℕ) (r : Refusal) → none (answer_of r).number ≡ state_in s → answer_of r ≡ refused (answer_of r).number 0 0
state_plain s r e =
    let n : (answer_of r).number ≡ (state_in s).number = ap (λ (k : Kept). k.number) e in
    let few = few_state s in
    no_details r (omega arith)

pub kept_plain : (buf : List ℕ) (used : ℕ) (r : Refusal) → none (answer_of r).number ≡ kept_in buf used → answer_of r ≡ refused (answer_of r).number 0 0
kept_plain buf used r e =
    let n : (answer_of r).number ≡ (kept_in buf used).number = ap (λ (k : Kept). k.number) e in
    let few = few_kept buf used in
    no_details r (omega arith)

-- ---- what is kept has a good shape
held_shape : (s : KeyState) → state_shape s ≡ 0 → holder_shape (holding s) ≡ 0
unfolding holder_shape is_held
held_shape s e = e

none_shape : (n : ℕ) → holder_shape (none n).holder ≡ 0
unfolding holder_shape is_held
none_shape n = refl

shape_alone : (whole : Bool) (c : Content) → Shaped c → holder_shape (alone whole c).holder ≡ 0
shape_alone true (snapshot s) h = held_shape s h
shape_alone false (snapshot s) h = none_shape 3
shape_alone whole (refusal n) h = none_shape n
shape_alone whole (event e) h = none_shape 2

shape_marked : (ks whole : Bool) (c : Content) → Shaped c → holder_shape (pick ks (alone whole c) (none 2)).holder ≡ 0
shape_marked true whole c h = shape_alone whole c h
shape_marked false whole c h = none_shape 2

shape_first : (end : ℕ) (b : Bool) (mark next : ℕ) (body : List ℕ) → holder_shape (snapshot_first end (pick b (record_of mark (content_of mark body) next) truncated)).holder ≡ 0
shape_first end true mark next body = shape_marked (eqb mark 0x4B53) (eqb next end) (content_of mark body) (decoded_shape mark body)
shape_first end false mark next body = none_shape 1

shape_state : (s : List ℕ) → holder_shape (state_in s).holder ≡ 0
unfolding state_in first_of
shape_state s = go (eqb (length s) 0)
  where
    go : (b : Bool) → holder_shape (pick b (none 0) (snapshot_first (length s) (pick (both (leb 4 (length s)) (leb (4 + body_length s) (length s))) (record_of (mark_of s) (content_of (mark_of s) (take (body_length s) (drop 4 s))) (4 + body_length s)) truncated))).holder ≡ 0
    go true = none_shape 0
    go false = shape_first (length s) (both (leb 4 (length s)) (leb (4 + body_length s) (length s))) (mark_of s) (4 + body_length s) (take (body_length s) (drop 4 s))

pub kept_shape : (buf : List ℕ) (used : ℕ) → holder_shape (kept_in buf used).holder ≡ 0
unfolding kept_in
kept_shape buf used = go (leb used (length buf))
  where
    go : (b : Bool) → holder_shape (pick b (state_in (take used buf)) (none 1)).holder ≡ 0
    go true = shape_state (take used buf)
    go false = none_shape 1
