-- "Where an answer is an enum, a definition gives this paper's number and values for each of the enum's cases, and the promises
-- use this definition."
use Rattle.std.specs.Prelude.{Result, Ok, Err, ℕ}
use Rattle.number.specs.Number.{small}
use Rattle.answer.specs.declared.Answer.{Answer}
use Rattle.answer.specs.declared.TooFew.{TooFew}
use Rattle.answer.specs.declared.Refusal.{Refusal}
use Rattle.answer.specs.declared.Refusal.TheVariants.{Truncated, UnknownMark, BadField, TooMany, StateHeld, EvidenceRequired, DelegatorUnknown, NotInception, DuplicateInception, NonTransferableState, NonZeroGenesisSn, BasicKeyCount, BasicThreshold, BasicKeyMismatch, NonTransferableNextKeys, NonTransferableWitnesses, NonTransferableAnchors, Duplicate, TransferableWitness, CutAddOverlap, RemovalNotCurrent, AdditionAlreadyPresent, BelowMinimum, ExceedsKeyCount, EmptyClauseList, EmptyClause, MissingSignatures, PriorNextThresholdUnsatisfied, NonTransferableCommitsNextKeys, WitnessThresholdZeroWithWitnesses, WitnessThresholdExceeded, InsufficientWitnessReceipts, IdentifierMismatch, SequenceNumberOverflow, OutOfOrder, PriorDigestMismatch, InteractionOnEstablishmentOnly, TooManyWitnesses, Overflow, OutOfRange, NoRoom}
use Rattle.answer.specs.Answer.{refused, accepted}

abbrev pub too_few : ℕ → TooFew → Answer
too_few which few = refused which few.counted few.clause

-- "Details a and b are 0 unless named; the first named is a."
abbrev pub answer_of : Refusal → Answer
answer_of Truncated = refused 1 0 0
answer_of UnknownMark = refused 2 0 0
answer_of BadField = refused 3 0 0
answer_of TooMany = refused 4 0 0
answer_of StateHeld = refused 5 0 0
answer_of EvidenceRequired = refused 6 0 0
answer_of DelegatorUnknown = refused 7 0 0
answer_of NotInception = refused 8 0 0
answer_of DuplicateInception = refused 9 0 0
answer_of NonTransferableState = refused 10 0 0
answer_of (NonZeroGenesisSn sn) = record { number = 11; a = sn; b = small 0 }
answer_of (BasicKeyCount keys) = refused 12 keys 0
answer_of BasicThreshold = refused 13 0 0
answer_of BasicKeyMismatch = refused 14 0 0
answer_of NonTransferableNextKeys = refused 15 0 0
answer_of NonTransferableWitnesses = refused 16 0 0
answer_of NonTransferableAnchors = refused 17 0 0
answer_of (Duplicate list) = refused 18 list 0
answer_of (TransferableWitness list) = refused 19 list 0
answer_of CutAddOverlap = refused 20 0 0
answer_of RemovalNotCurrent = refused 21 0 0
answer_of AdditionAlreadyPresent = refused 22 0 0
answer_of BelowMinimum = refused 23 0 0
answer_of (ExceedsKeyCount required keys) = refused 24 required keys
answer_of EmptyClauseList = refused 25 0 0
answer_of EmptyClause = refused 26 0 0
answer_of (MissingSignatures few) = too_few 27 few
answer_of (PriorNextThresholdUnsatisfied few) = too_few 28 few
answer_of NonTransferableCommitsNextKeys = refused 29 0 0
answer_of (WitnessThresholdZeroWithWitnesses witnesses) = refused 30 witnesses 0
answer_of (WitnessThresholdExceeded toad witnesses) = refused 31 toad witnesses
answer_of (InsufficientWitnessReceipts valid required) = refused 32 valid required
answer_of IdentifierMismatch = refused 33 0 0
answer_of SequenceNumberOverflow = refused 34 0 0
answer_of (OutOfOrder expected actual) = record { number = 35; a = expected; b = actual }
answer_of PriorDigestMismatch = refused 36 0 0
answer_of InteractionOnEstablishmentOnly = refused 37 0 0
answer_of (TooManyWitnesses count) = refused 38 count 0
answer_of (Overflow witnesses) = refused 39 witnesses 0
answer_of (OutOfRange toad witnesses) = refused 40 toad witnesses
answer_of (NoRoom needed) = refused 41 needed 0

-- a count against a threshold, as the answer with this number
abbrev pub counted_as : ℕ → Result (Unit {0}) TooFew → Answer
counted_as which (Ok done) = accepted
counted_as which (Err few) = too_few which few

-- what a check answers: accepted, or its refusal
abbrev pub answered : Result (Unit {0}) Refusal → Answer
answered (Ok done) = accepted
answered (Err r) = answer_of r
