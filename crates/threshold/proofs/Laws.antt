-- Thresholds: the laws that the loops cite, and what a judgement depends on. Assumes nothing.
--     weights_16           who owns a threshold knows that it has 16 weights
--     clean_form           well formed is accepted without details
--     judged-same          only the places below 16 matter to a judgement
--     sum_next, sum_end    the sum of a clause, place by place
--     reached, not_reached, all_reached   clause after clause
--     met_is, .._is, .._zero   the library's words for a test of a result, a sum, and a test along a list
use mathlib.Core.Path.{◌≡◌, refl, sym}
use mathlib.Core.List.{List, ◌∷◌, []}
use mathlib.Core.Bool.{Bool, true, false}
use Prim.Native.Nat.{ℕ, ◌<◌, ◌≤◌, ◌+◌}
use native.Mathlib.Omega.{arith}
use lib.Dec.{eqb, leb}
use lib.ListN.{length, drop, take, length-take, length-drop, drop_of_length-le}
use mir.Val.{Val}
use denote.Laws.{Is}
use borrow.Author.Tests.{eqb-false}
use Rattle.lists.specs.Lists.{pick, both, either, any, all, first_from}
use Rattle.answer.specs.declared.Answer.{Answer}
use Rattle.answer.specs.Answer.{refused}
use Rattle.answer.specs.Refusal.{answer_of}
use Rattle.answer.specs.declared.Refusal.{Refusal}
use Rattle.answer.specs.declared.Refusal.TheVariants.{Truncated, UnknownMark, BadField, TooMany, StateHeld, EvidenceRequired, DelegatorUnknown, NotInception, DuplicateInception, NonTransferableState, NonZeroGenesisSn, BasicKeyCount, BasicThreshold, BasicKeyMismatch, NonTransferableNextKeys, NonTransferableWitnesses, NonTransferableAnchors, Duplicate, TransferableWitness, CutAddOverlap, RemovalNotCurrent, AdditionAlreadyPresent, BelowMinimum, ExceedsKeyCount, EmptyClauseList, EmptyClause, MissingSignatures, PriorNextThresholdUnsatisfied, NonTransferableCommitsNextKeys, WitnessThresholdZeroWithWitnesses, WitnessThresholdExceeded, InsufficientWitnessReceipts, IdentifierMismatch, SequenceNumberOverflow, OutOfOrder, PriorDigestMismatch, InteractionOnEstablishmentOnly, TooManyWitnesses, Overflow, OutOfRange, NoRoom}
use Rattle.answer.proofs.Results.{refuses}
use Rattle.answer.proofs.Laws.{stopped, Clean, clean_unless, clean_if}
use Rattle.places.proofs.Laws.{eqb_sym}
use Rattle.weight.specs.declared.Weight.{Weight}
use Rattle.std.specs.Result.{is_ok}
use Rattle.std.specs.Prelude.{Option, Ok, Err, ◌&&◌, ◌||◌, min}
use Rattle.std.specs.List.{sum as list_sum, list_all, list_any}
use Rattle.std.proofs.lemmas.List.{take_min, drop_min}
use Rattle.std.proofs.lemmas.List.Recursion.{is_sum_by}
use Rattle.weight.specs.Weight.{weigh, no_sum, reaches_one, zero_weight}
use Rattle.threshold.specs.declared.Threshold.{Threshold}
use Rattle.threshold.specs.Threshold.{Judgement, is_met, is_simple, sizes_of, weights_in, rest_zero, sum, runs, shape_of, at_most, well_formed, check_well_formed, sum_from, clauses_met, first_short, short, judged}
use Rattle.threshold.specs.contracts.Threshold.{the_row}

-- the element that an array of weights has past its end, as Rattle has it
abbrev pub no_weight : Weight
no_weight = record { num = 0; den = 0 }

-- from `good` for a parameter, from `ok` for a call's result
pub weights_16 : (t : Threshold) (vs : List Val) → Is the_row t vs → length t.weights ≡ 16
weights_16 t vs p = p.1.1.1.1.1.1.0.1.0.1

-- ---- well formed is accepted without details
clean_pick : (b : Bool) (x y : Answer) → Clean x → Clean y → Clean (pick b x y)
clean_pick true x y p q = p
clean_pick false x y p q = q

clean_most : (required keys : ℕ) → Clean (at_most required keys)
clean_most required keys = clean_unless (leb required keys) (refused 24 required keys) refl

pub clean_form : (t : Threshold) (keys : ℕ) → Clean (well_formed t keys)
unfolding well_formed
clean_form t keys =
    clean_pick (is_simple t) _ _
    (clean_pick (eqb t.simple 0) _ _ (clean_if true (refused 23 0 0) refl) (clean_most t.simple keys))
    (clean_pick (eqb t.clauses 0) _ _ (clean_if true (refused 25 0 0) refl)
    (clean_pick (any (eqb 0) (sizes_of t)) _ _ (clean_if true (refused 26 0 0) refl) (clean_most (weights_in t) keys)))

-- ---- only the places below 16 matter
module _ (f g : ℕ → Bool) (same : (k : ℕ) → k < 16 → f k ≡ g k) where
  sum_same : (ws : List Weight) (k : ℕ) (s : Option Weight) → k + length ws ≤ 16 → sum_from f k s ws ≡ sum_from g k s ws
  unfolding sum_from
  sum_same [] k s h = refl
  sum_same (w ∷ ws) k s h = rw (same k (omega arith)) (sum_same ws (k + 1) (weigh (g k) s w) (omega arith))

  clauses_same : (ns : List ℕ) (ws : List Weight) (base : ℕ) → base + length ws ≤ 16 → clauses_met f base (runs ns ws) ≡ clauses_met g base (runs ns ws)
  unfolding clauses_met runs
  clauses_same [] ws base h = refl
  clauses_same (n ∷ ns) ws base h =
      let a : base + length (take n ws) ≤ 16 = simp length-take (omega arith) in
      let b : base + length (take n ws) + length (drop n ws) ≤ 16 = simp (length-take, length-drop) (omega arith) in
      rw (sum_same (take n ws) base no_sum a, clauses_same ns (drop n ws) (base + length (take n ws)) b)

  pub judged-same : (t : Threshold) (n : ℕ) → length t.weights ≤ 16 → judged t n f ≡ judged t n g
  unfolding judged
  judged-same t n h = rw (clauses_same (take t.clauses t.sizes) t.weights 0 (omega arith))

-- ---- the sum of a clause, place by place
module _ (signed : ℕ → Bool) (sum : Option Weight) (ws : List Weight) (base k : ℕ) where
  pub sum_next : (w : Weight) → drop k ws ≡ w ∷ drop (k + 1) ws → sum_from signed (base + (k + 1)) (weigh (signed (base + k)) sum w) (drop (k + 1) ws) ≡ sum_from signed (base + k) sum (drop k ws)
  unfolding sum_from
  sum_next w e = let n : base + (k + 1) ≡ base + k + 1 = omega arith in rw (e, n)

  pub sum_end : length ws ≤ k → sum_from signed (base + k) sum (drop k ws) ≡ sum
  unfolding sum_from
  sum_end h = rw (drop_of_length-le ws h)

-- ---- clause after clause: a run ends at the last weight at the latest
module _ (signed : ℕ → Bool) (ns : List ℕ) (rest clause : List Weight) (i base size : ℕ) (e : drop i ns ≡ size ∷ drop (i + 1) ns)
    (f : clause ≡ take (min size (length rest)) rest) where
  pub reached : (behind : List Weight) → behind ≡ drop (min size (length rest)) rest → reaches_one (sum_from signed base no_sum clause) ≡ true
      → first_short (i + 1 + 1) (clauses_met signed (base + length clause) (runs (drop (i + 1) ns) behind)) ≡ first_short (i + 1) (clauses_met signed base (runs (drop i ns) rest))
  unfolding first_from clauses_met runs
  reached behind b r = rw (e, b, drop_min size rest, ← take_min size rest, ← f, r)

  pub not_reached : reaches_one (sum_from signed base no_sum clause) ≡ false → short (i + 1) ≡ first_short (i + 1) (clauses_met signed base (runs (drop i ns) rest))
  unfolding first_from clauses_met runs
  not_reached r = rw (e, ← take_min size rest, ← f, r)

pub all_reached : (signed : ℕ → Bool) (ns : List ℕ) (rest : List Weight) (i base : ℕ) → length ns ≤ i → Ok tt ≡ first_short (i + 1) (clauses_met signed base (runs (drop i ns) rest))
unfolding first_from clauses_met runs
all_reached signed ns rest i base h = rw (drop_of_length-le ns h)

-- ---- the library's words are ours
pub met_is : (j : Judgement) → is_ok j ≡ is_met j
met_is (Ok done) = refl
met_is (Err s) = refl

pub sum_is : (xs : List ℕ) → list_sum xs ≡ sum xs
unfolding sum
sum_is xs = sym (is_sum_by sum (λ x. x) refl (λ _ _. refl) xs)

pub all_is : {A : Type 0} (f g : A → Bool) → ((x : A) → f x ≡ g x) → (xs : List A) → list_all f xs ≡ all g xs
unfolding all
all_is f g same [] = refl
all_is f g same (x ∷ xs) = rw (same x, all_is f g same xs) (both_is (g x) (all g xs))
  where
    both_is : (a b : Bool) → (a && b) ≡ both a b
    both_is true b = refl
    both_is false b = refl

pub any_is : {A : Type 0} (f g : A → Bool) → ((x : A) → f x ≡ g x) → (xs : List A) → list_any f xs ≡ any g xs
unfolding any
any_is f g same [] = refl
any_is f g same (x ∷ xs) = rw (same x, any_is f g same xs) (either_is (g x) (any g xs))
  where
    either_is : (a b : Bool) → (a || b) ≡ either a b
    either_is true b = refl
    either_is false b = refl

zero_is : (x : ℕ) → eqb x 0 ≡ eqb 0 x
zero_is x = eqb_sym x 0

pub all_zero : (xs : List ℕ) → list_all (λ x. eqb x 0) xs ≡ all (eqb 0) xs
all_zero xs = all_is (λ x. eqb x 0) (eqb 0) zero_is xs

pub any_zero : (xs : List ℕ) → list_any (λ x. eqb x 0) xs ≡ any (eqb 0) xs
any_zero xs = any_is (λ x. eqb x 0) (eqb 0) zero_is xs

pub all_weights : (ws : List Weight) → list_all zero_weight ws ≡ all zero_weight ws
all_weights ws = all_is zero_weight zero_weight (λ w. refl) ws
