-- One step of a run: a refusal leaves the holder, an acceptance steps it as the unchecked fold does, by the next number. Assumes nothing.
use mathlib.Core.Path.{◌≡◌, refl, sym, ◌∙◌, ap}
use mathlib.Core.List.{List, ◌∷◌, []}
use mathlib.Core.Bool.{Bool, true, false}
use Prim.Native.Nat.{ℕ, ◌+◌}
use Rattle.lists.specs.Lists.{pick}
use Rattle.lists.proofs.Facts.{clash}
use Rattle.number.specs.declared.Number.{Number}
use Rattle.std.specs.Prelude.{Option, Some, None}
use Rattle.number.specs.Number.{small, value, same_number, next_of}
use Rattle.number.proofs.Laws.{same_number_lem, next-value}
use Rattle.answer.specs.declared.Answer.{Answer}
use Rattle.answer.specs.Answer.{refused, accepted, passes, first_refusal}
use Rattle.answer.proofs.Laws.{clean_first}
use Rattle.event.specs.declared.Ilk.{Ilk}
use Rattle.event.specs.declared.Ilk.TheVariants.{Inception, Rotation, Interaction, DelegatedInception, DelegatedRotation}
use Rattle.event.specs.declared.Head.{Head}
use Rattle.event.specs.declared.Event.{Event}
use Rattle.shape.specs.Event.{event_shape}
use Rattle.state.specs.declared.KeyState.{KeyState}
use Rattle.state.specs.declared.Holder.{Holder}
use Rattle.state.specs.State.{may_move, is_held, holding, begun, seeded, genesis}
use Rattle.shape.specs.State.{holder_shape}
use Rattle.rules.specs.Rules.{inception, rotation, interaction, chains, chains_onto, rewitness, genesis_sn, follows, new_witnesses}
use Rattle.member_set.specs.Members.{change_of}
use Rattle.ingest.specs.Judgement.{offered, answer_to, judgement, on_state, on_nothing, where_live, next_state, next_as, incepted, rotates, interacts}
use Rattle.fold.specs.Fold.{folded, fold_answer, fold_state, folded_as, foldable}
use Rattle.history.specs.History.{after, takes}

-- ---- the checks in order: where the whole passes, each check passed
pub first_passes : (x : Answer) (xs : List Answer) → passes (first_refusal (x ∷ xs)) ≡ true → (passes x ≡ true) × (passes (first_refusal xs) ≡ true)
unfolding first_refusal
first_passes x xs e = by_test (passes x) refl e
  where
    by_test : (t : Bool) → passes x ≡ t → passes (pick t (first_refusal xs) x) ≡ true → (passes x ≡ true) × (passes (first_refusal xs) ≡ true)
    by_test true p q = (p, q)
    by_test false p q = clash (sym q ∙ p)

-- ---- an accepted event, by its ilk: the fold takes it too, and makes the same state of it
-- of an inception: its number is 0
at_zero : (h : Head) → passes (genesis_sn h.sn) ≡ true → h.sn ≡ small 0
at_zero h p = by_test (same_number h.sn (small 0)) refl p
  where
    by_test : (t : Bool) → same_number h.sn (small 0) ≡ t → passes (pick t accepted (record { number = 11; a = h.sn; b = small 0 })) ≡ true → h.sn ≡ small 0
    by_test true e q = same_number_lem h.sn (small 0) e
    by_test false e q = clash (sym q)

pub seed_is_genesis : (e : Event) → passes (incepted e) ≡ true → seeded e.head e.body ≡ genesis e.head e.body
unfolding inception
seed_is_genesis e p = ap (λ (n : Number). begun n e.head e.body) (sym (at_zero e.head (first_passes _ _ p).0))

-- of a rotation: its new list fits
pub list-fits : (s : KeyState) (e : Event) → passes (rotates s e) ≡ true → passes (change_of (new_witnesses s e.body)).answer ≡ true
unfolding rotation rewitness
list-fits s e p =
    let q = (first_passes _ _ (first_passes _ _ (first_passes _ _ (first_passes _ _ (first_passes _ _ p).1).1).1).1).1 in
    let r = (first_passes _ _ q).0 in
    (first_passes _ _ (first_passes _ _ r).1).0

-- what a held state's answer rests on
pub live : (s : KeyState) (x : Answer) → passes (pick (may_move s) x (refused 10 0 0)) ≡ true → passes x ≡ true
live s x p = by_test (may_move s) p
  where
    by_test : (t : Bool) → passes (pick t x (refused 10 0 0)) ≡ true → passes x ≡ true
    by_test true q = q
    by_test false q = clash (sym q)

pub record SameStep (k : Ilk) (h : Holder) (e : Event) : Type 0 where
  pub folds : passes (foldable k h e) ≡ true
  pub same : next_as k h.state e ≡ folded_as k h.state e

abbrev judged_as : Ilk → Holder → Event → Bool → Answer
judged_as k h e t = pick t (pick (may_move h.state) (where_live k h.state e) (refused 10 0 0)) (on_nothing k e)

same_step : (k : Ilk) (h : Holder) (e : Event) (t : Bool) → is_held h ≡ t → passes (judged_as k h e t) ≡ true → SameStep k h e
same_step Inception h e true p q = clash (sym (live h.state (refused 9 0 0) q))
same_step Inception h e false p q = record { folds = refl; same = seed_is_genesis e q }
same_step Rotation h e true p q = record { folds = rw p (list-fits h.state e (live h.state (rotates h.state e) q)); same = refl }
same_step Rotation h e false p q = clash (sym q)
same_step Interaction h e true p q = record { folds = rw p; same = refl }
same_step Interaction h e false p q = clash (sym q)
same_step DelegatedInception h e true p q = clash (sym (live h.state (refused 6 0 0) q))
same_step DelegatedInception h e false p q = clash (sym q)
same_step DelegatedRotation h e true p q = clash (sym (live h.state (refused 7 0 0) q))
same_step DelegatedRotation h e false p q = clash (sym q)

-- ---- one event
-- a refusal leaves the holder as it came
pub stays : (h : Holder) (e : Event) → takes h e ≡ false → after h e ≡ h
unfolding offered
stays h e p = rw p

-- an acceptance makes the next state
pub moves : (h : Holder) (e : Event) → takes h e ≡ true → after h e ≡ holding (next_state h.state e)
unfolding offered
moves h e p = rw p

-- all of them pass together, or the first that does not answers
all_pass : (x y z : Answer) → passes x ≡ true → passes y ≡ true → passes z ≡ true → passes (first_refusal (x ∷ y ∷ z ∷ [])) ≡ true
unfolding first_refusal
all_pass x y z p q r = rw (p, q, r)

-- an accepted event: the unchecked fold takes it, to the same holder
pub fold_same : (h : Holder) (e : Event) → takes h e ≡ true → after h e ≡ (folded h e).holder
unfolding offered answer_to judgement on_state next_state folded fold_answer fold_state
fold_same h e p =
    let shape = first_passes (refused (holder_shape h) 0 0) _ p in
    let record-shape = first_passes (refused (event_shape e) 0 0) _ shape.1 in
    let judged = (first_passes _ _ record-shape.1).0 in
    let s = same_step e.ilk h e (is_held h) refl judged in
    let f = all_pass (refused (holder_shape h) 0 0) (refused (event_shape e) 0 0) (foldable e.ilk h e) shape.0 record-shape.0 s.folds in
    rw (p, f) (ap holding s.same)

-- ---- the numbers
-- the number that a holder waits for
abbrev pub expects : Holder → ℕ
expects h = pick (is_held h) (value h.state.sn + 1) 0

follows_next : (n : Option Number) (m : Number) → passes (follows n m) ≡ true → n ≡ Some m
follows_next (Some k) m p = by_test (same_number k m) refl p
  where
    by_test : (t : Bool) → same_number k m ≡ t → passes (pick t accepted (record { number = 35; a = k; b = m })) ≡ true → Some k ≡ Some m
    by_test true e q = ap Some (same_number_lem k m e)
    by_test false e q = clash (sym q)
follows_next None m p = clash (sym p)

chains-next : (s : KeyState) (h : Head) → passes (chains s h) ≡ true → value h.sn ≡ value s.sn + 1
unfolding chains_onto
chains-next s h p = next-value s.sn h.sn (follows_next (next_of s.sn) h.sn (first_passes _ _ (first_passes _ _ p).1).0)

pub record NextNumber (k : Ilk) (h : Holder) (e : Event) : Type 0 where
  pub waited : value e.head.sn ≡ expects h
  pub written : (next_as k h.state e).sn ≡ e.head.sn

next-number : (k : Ilk) (h : Holder) (e : Event) (t : Bool) → is_held h ≡ t → passes (judged_as k h e t) ≡ true → NextNumber k h e
unfolding inception rotation interaction
next-number Inception h e true p q = clash (sym (live h.state (refused 9 0 0) q))
next-number Inception h e false p q =
    let z = at_zero e.head (first_passes _ _ q).0 in
    record { waited = rw p (ap value z); written = sym z }
next-number Rotation h e true p q =
    record { waited = rw p (chains-next h.state e.head (first_passes _ _ (live h.state (rotates h.state e) q)).0); written = refl }
next-number Rotation h e false p q = clash (sym q)
next-number Interaction h e true p q =
    record {
      waited = rw p (chains-next h.state e.head (first_passes _ _ (first_passes _ _ (live h.state (interacts h.state e) q)).1).0);
      written = refl;
    }
next-number Interaction h e false p q = clash (sym q)
next-number DelegatedInception h e true p q = clash (sym (live h.state (refused 6 0 0) q))
next-number DelegatedInception h e false p q = clash (sym q)
next-number DelegatedRotation h e true p q = clash (sym (live h.state (refused 7 0 0) q))
next-number DelegatedRotation h e false p q = clash (sym q)

module _ (h : Holder) (e : Event) (p : takes h e ≡ true) where
  judged : passes (judged_as e.ilk h e (is_held h)) ≡ true
  unfolding offered answer_to judgement on_state
  judged = (first_passes _ _ (first_passes _ _ (first_passes _ _ p).1).1).0

  -- an accepted event has the number that the holder waits for, and the holder then waits for the next one
  pub takes-next : value e.head.sn ≡ expects h
  takes-next = (next-number e.ilk h e (is_held h) refl judged).waited

  pub waits_next : expects (after h e) ≡ expects h + 1
  unfolding next_state is_held
  waits_next =
      let n = next-number e.ilk h e (is_held h) refl judged in
      rw (moves h e p) (ap (λ (x : Number). value x + 1) n.written ∙ ap (λ (x : ℕ). x + 1) n.waited)

-- "a and b are 0 for every accepted record"
pub takes-zero : (h : Holder) (e : Event) → takes h e ≡ true → (offered h e).answer ≡ accepted
unfolding offered answer_to
takes-zero h e p = clean_first _ p
