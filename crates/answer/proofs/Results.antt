-- No refusal passes, so that behind a `?` the checks before it have passed. Assumes nothing.
use mathlib.Core.Path.{◌≡◌, refl}
use mathlib.Core.List.{List, ◌∷◌}
use mathlib.Core.Bool.{false}
use Rattle.answer.specs.declared.Answer.{Answer}
use Rattle.answer.specs.declared.Refusal.{Refusal}
use Rattle.answer.specs.declared.Refusal.TheVariants.{Truncated, UnknownMark, BadField, TooMany, StateHeld, EvidenceRequired, DelegatorUnknown, NotInception, DuplicateInception, NonTransferableState, NonZeroGenesisSn, BasicKeyCount, BasicThreshold, BasicKeyMismatch, NonTransferableNextKeys, NonTransferableWitnesses, NonTransferableAnchors, Duplicate, TransferableWitness, CutAddOverlap, RemovalNotCurrent, AdditionAlreadyPresent, BelowMinimum, ExceedsKeyCount, EmptyClauseList, EmptyClause, MissingSignatures, PriorNextThresholdUnsatisfied, NonTransferableCommitsNextKeys, WitnessThresholdZeroWithWitnesses, WitnessThresholdExceeded, InsufficientWitnessReceipts, IdentifierMismatch, SequenceNumberOverflow, OutOfOrder, PriorDigestMismatch, InteractionOnEstablishmentOnly, TooManyWitnesses, Overflow, OutOfRange, NoRoom}
use Rattle.answer.specs.Answer.{accepted, passes, first_refusal}
use Rattle.answer.specs.Refusal.{answer_of}

-- no refusal passes
pub refuses : (r : Refusal) → passes (answer_of r) ≡ false
refuses Truncated = refl
refuses UnknownMark = refl
refuses BadField = refl
refuses TooMany = refl
refuses StateHeld = refl
refuses EvidenceRequired = refl
refuses DelegatorUnknown = refl
refuses NotInception = refl
refuses DuplicateInception = refl
refuses NonTransferableState = refl
refuses (NonZeroGenesisSn sn) = refl
refuses (BasicKeyCount keys) = refl
refuses BasicThreshold = refl
refuses BasicKeyMismatch = refl
refuses NonTransferableNextKeys = refl
refuses NonTransferableWitnesses = refl
refuses NonTransferableAnchors = refl
refuses (Duplicate list) = refl
refuses (TransferableWitness list) = refl
refuses CutAddOverlap = refl
refuses RemovalNotCurrent = refl
refuses AdditionAlreadyPresent = refl
refuses BelowMinimum = refl
refuses (ExceedsKeyCount required keys) = refl
refuses EmptyClauseList = refl
refuses EmptyClause = refl
refuses (MissingSignatures few) = refl
refuses (PriorNextThresholdUnsatisfied few) = refl
refuses NonTransferableCommitsNextKeys = refl
refuses (WitnessThresholdZeroWithWitnesses witnesses) = refl
refuses (WitnessThresholdExceeded toad witnesses) = refl
refuses (InsufficientWitnessReceipts valid required) = refl
refuses IdentifierMismatch = refl
refuses SequenceNumberOverflow = refl
refuses (OutOfOrder expected actual) = refl
refuses PriorDigestMismatch = refl
refuses InteractionOnEstablishmentOnly = refl
refuses (TooManyWitnesses count) = refl
refuses (Overflow witnesses) = refl
refuses (OutOfRange toad witnesses) = refl
refuses (NoRoom needed) = refl

-- checks in a row: the first refusal is theirs, and behind one that passed the others are
pub stops : (r : Refusal) (x : Answer) (xs : List Answer) → answer_of r ≡ x → answer_of r ≡ first_refusal (x ∷ xs)
unfolding first_refusal
stops r x xs e = rw (← e, refuses r)

pub goes_on : (x : Answer) (xs : List Answer) → accepted ≡ x → first_refusal (x ∷ xs) ≡ first_refusal xs
unfolding first_refusal
goes_on x xs e = rw (← e)
