-- What the checked path leaves: a refusal touches nothing, an acceptance saves the next state. Assumes nothing.
--     closed, live_.., away_left, nothing_..   an event, by where the holder stands
--     prefix_stands, begins         an inception
--     new_list, new_few             the list of a rotation that passed
--     offer_body, offer_first, offer_short    from the body's answer to the call's
use mathlib.Core.Path.{◌≡◌, refl, sym, ◌∙◌, ap}
use mathlib.Core.Bool.{Bool, true, false}
use mathlib.Core.List.{List, []}
use Prim.Native.Nat.{ℕ, ◌-◌, ◌≤◌}
use native.Mathlib.Omega.{arith}
use lib.Dec.{eqb}
use lib.ListN.{length, take, drop}
use Rattle.std.specs.Prelude.{Ok}
use Rattle.lists.specs.Lists.{pick}
use Rattle.answer.specs.declared.Answer.{Answer}
use Rattle.answer.specs.declared.Refusal.{Refusal}
use Rattle.answer.specs.Answer.{refused, accepted, passes}
use Rattle.answer.specs.Refusal.{answer_of}
use Rattle.items.specs.declared.Items.{Items}
use Rattle.items.specs.Items.{packed}
use Rattle.member_set.specs.Members.{Change}
use Rattle.event.specs.declared.Ilk.TheVariants.{Inception, Rotation, Interaction, DelegatedInception, DelegatedRotation}
use Rattle.event.specs.declared.Event.{Event}
use Rattle.state.specs.declared.KeyState.{KeyState}
use Rattle.state.specs.declared.Holder.{Holder}
use Rattle.state.specs.State.{is_held, may_move, holding, seeded, genesis, rotated, stepped}
use Rattle.empty.specs.Empty.{nothing}
use Rattle.shape.specs.State.{holder_shape}
use Rattle.rules.specs.Rules.{of_prefix, new_witnesses, changed}
use Rattle.ingest.specs.Judgement.{turned_away, judgement, on_state as on_live, on_nothing, where_live, next_as, next_state, incepted, rotates, interacts}
use Rattle.history.proofs.Steps.{seed_is_genesis}
use Rattle.layout.specs.Records.{Content, event, snapshot, delegated, content_of, First, record_of, truncated, first_of}
use Rattle.decoded.proofs.Shapes.{decoded_shape}
use Rattle.field.specs.Field.{item_of}
use Rattle.parts.specs.Parts.{head_of, body_of}
use Rattle.record.specs.declared.EventMarks.{EventMarks}
use Rattle.record.specs.Marks.{inception_places, event_of}
use Rattle.receive.specs.Judged.{judged, content_judged}
use Rattle.receive.specs.Received.{taken, unless_bad, body_taken, first_taken, received}
use Rattle.receive.proofs.Laws.{good_holder, judged-taken}
use Rattle.resume.proofs.Stays.{few_witnesses}
use Rattle.found.specs.Kept.{kept_in}
use Rattle.found.specs.Found.{Got}
use Rattle.in_place.specs.Calls.{Left, settled_in, on_state, body_offered_in, offered_in}
use Rattle.in_place.specs.Steps.{left, took, instead_of, deciding}
use Rattle.in_place.proofs.Written.{prefix_read}
use Rattle.in_place.proofs.Held.{turned, stands, accepts, on_state_as, instead_left, enough_decides}

module _ (buf : List ℕ) (used : ℕ) where
  -- ---- an event on a held state
  module _ (s : KeyState) (e : Event) where
    pub closed : s.transferable ≡ false → left (refused 10 0 0) buf used ≡ settled_in buf used (judged (holding s) e)
    unfolding judgement on_live may_move is_held
    closed z = turned buf used (holding s) (holding (next_state s e)) (judgement (holding s) e) 10 refl (rw z)

    live : s.transferable ≡ true → judgement (holding s) e ≡ where_live e.ilk s e
    unfolding judgement on_live may_move is_held
    live z = rw z

    pub live_stands : s.transferable ≡ true → (r : Refusal) → answer_of r ≡ where_live e.ilk s e → left (answer_of r) buf used ≡ settled_in buf used (judged (holding s) e)
    live_stands z r p = stands buf used (holding s) (holding (next_state s e)) (judgement (holding s) e) r (p ∙ sym (live z))

    pub live_took : s.transferable ≡ true → accepted ≡ where_live e.ilk s e → settled_in buf used (took (next_as e.ilk s e)) ≡ settled_in buf used (judged (holding s) e)
    unfolding next_state
    live_took z p = accepts buf used (holding s) (next_as e.ilk s e) (judgement (holding s) e) (p ∙ sym (live z))

    -- "10 before the rest"
    pub away_left : (r : Refusal) → answer_of r ≡ pick s.transferable (where_live e.ilk s e) (refused 10 0 0) → left (answer_of r) buf used ≡ settled_in buf used (judged (holding s) e)
    unfolding judgement on_live may_move is_held
    away_left r p = stands buf used (holding s) (holding (next_state s e)) (judgement (holding s) e) r p

  -- "Held state: KS 5"
  pub held_snapshot : (s k : KeyState) (mark : ℕ) (body : List ℕ) → snapshot k ≡ content_of mark body → left (refused 5 0 0) buf used ≡ settled_in buf used (content_judged (holding s) (content_of mark body))
  unfolding is_held
  held_snapshot s k mark body p =
      turned buf used (holding s) (holding k) (refused 5 0 0) 5 refl refl ∙ ap (λ (c : Content). settled_in buf used (content_judged (holding s) c)) p

  -- ---- an event on nothing
  nothing_turned : (e : Event) (n : ℕ) → eqb n 0 ≡ false → on_nothing e.ilk e ≡ refused n 0 0 → left (refused n 0 0) buf used ≡ settled_in buf used (judged nothing e)
  unfolding judgement is_held
  nothing_turned e n z q = turned buf used nothing (holding (next_state nothing.state e)) (judgement nothing e) n z q

  module _ (mark : ℕ) (s : List ℕ) where
    abbrev turns : ℕ → Type 0
    turns n = left (refused n 0 0) buf used ≡ settled_in buf used (content_judged nothing (content_of mark s))

    as_read : (c : Content) (n : ℕ) → c ≡ content_of mark s → left (refused n 0 0) buf used ≡ settled_in buf used (content_judged nothing c) → turns n
    as_read c n p e = e ∙ ap (λ (d : Content). settled_in buf used (content_judged nothing d)) p

    pub no_rotation : (m : EventMarks) → event (event_of Rotation s m) ≡ content_of mark s → turns 8
    no_rotation m p = as_read _ 8 p (nothing_turned (event_of Rotation s m) 8 refl refl)

    pub no_interaction : (m : EventMarks) → event (event_of Interaction s m) ≡ content_of mark s → turns 8
    no_interaction m p = as_read _ 8 p (nothing_turned (event_of Interaction s m) 8 refl refl)

    pub no_delegated_inception : event (delegated DelegatedInception) ≡ content_of mark s → turns 6
    no_delegated_inception p = as_read _ 6 p (nothing_turned (delegated DelegatedInception) 6 refl refl)

    pub no_delegated_rotation : event (delegated DelegatedRotation) ≡ content_of mark s → turns 8
    no_delegated_rotation p = as_read _ 8 p (nothing_turned (delegated DelegatedRotation) 8 refl refl)

    -- "Empty holder: KS is taken"
    pub nothing_snapshot : (k : KeyState) → snapshot k ≡ content_of mark s → settled_in buf used (took k) ≡ settled_in buf used (content_judged nothing (content_of mark s))
    unfolding is_held
    nothing_snapshot k p = ap (λ (d : Content). settled_in buf used (content_judged nothing d)) p

  -- ---- an inception on nothing: what it begins is what the checked path seeds
  module _ (s : List ℕ) (m : EventMarks) (g : Got (inception_places s 0) m) where
    pub prefix_stands : (r : Refusal) → answer_of r ≡ of_prefix (item_of s m.head.prefix) (incepted (event_of Inception s m))
        → left (answer_of r) buf used ≡ settled_in buf used (judged nothing (event_of Inception s m))
    unfolding judgement next_state is_held
    prefix_stands r p = stands buf used nothing (holding (seeded (head_of s m.head) (body_of s m.body))) (incepted (event_of Inception s m)) r (p ∙ prefix_read s m g)

    pub begins : accepted ≡ of_prefix (item_of s m.head.prefix) (incepted (event_of Inception s m))
        → settled_in buf used (took (genesis (head_of s m.head) (body_of s m.body))) ≡ settled_in buf used (judged nothing (event_of Inception s m))
    unfolding judgement next_state is_held
    begins p =
        let q : accepted ≡ incepted (event_of Inception s m) = p ∙ prefix_read s m g in
        let z : passes (incepted (event_of Inception s m)) ≡ true = rw (← q) in
        ap (λ (k : KeyState). settled_in buf used (took k)) (sym (seed_is_genesis (event_of Inception s m) z))
        ∙ accepts buf used nothing (seeded (head_of s m.head) (body_of s m.body)) (incepted (event_of Inception s m)) q

-- the list of a change that passed, and that it fits
module _ (s : KeyState) (e : Event) (l : Items) (p : record { answer = accepted; list = l } ≡ changed (rotates s e) (new_witnesses s e.body)) where
  passed : accepted ≡ rotates s e
  passed = ap (λ (c : Change). c.answer) p

  pub new_list : l ≡ packed (new_witnesses s e.body)
  new_list =
      let z : passes (rotates s e) ≡ true = rw (← passed) in
      let f : pick (passes (rotates s e)) (packed (new_witnesses s e.body)) (packed []) ≡ packed (new_witnesses s e.body) = rw z in
      ap (λ (c : Change). c.list) p ∙ f

  pub new_few : l.count ≤ 16
  new_few =
      let z : passes (rotates s e) ≡ true = rw (← passed) in
      let f = few_witnesses s e z in
      rw new_list f

-- ---- a rotation and an interaction on a live state
module _ (buf : List ℕ) (used : ℕ) (st : KeyState) (live : st.transferable ≡ true) (s : List ℕ) (m : EventMarks) where
  pub rotation_stands : (r : Refusal) → record { answer = answer_of r; list = packed [] } ≡ changed (rotates st (event_of Rotation s m)) (new_witnesses st (body_of s m.body))
      → left (answer_of r) buf used ≡ settled_in buf used (judged (holding st) (event_of Rotation s m))
  rotation_stands r p = live_stands buf used st (event_of Rotation s m) live r (ap (λ (c : Change). c.answer) p)

  pub rotation_took : (l : Items) → record { answer = accepted; list = l } ≡ changed (rotates st (event_of Rotation s m)) (new_witnesses st (body_of s m.body))
      → settled_in buf used (took (rotated st (head_of s m.head) (body_of s m.body) l)) ≡ settled_in buf used (judged (holding st) (event_of Rotation s m))
  rotation_took l p =
      ap (λ (k : Items). settled_in buf used (took (rotated st (head_of s m.head) (body_of s m.body) k))) (new_list st (event_of Rotation s m) l p)
      ∙ live_took buf used st (event_of Rotation s m) live (ap (λ (c : Change). c.answer) p)

  pub interaction_took : accepted ≡ interacts st (event_of Interaction s m)
      → settled_in buf used (took (stepped st (head_of s m.head))) ≡ settled_in buf used (judged (holding st) (event_of Interaction s m))
  interaction_took p = live_took buf used st (event_of Interaction s m) live p

-- ---- from what the body gets to what the call leaves
module _ (buf : List ℕ) (used : ℕ) (s : List ℕ) where
  pub offer_body : (mark n : ℕ) → n ≡ deciding (length s) → on_state buf used (λ h. content_judged h (content_of mark (take n s))) (kept_in buf used) ≡ body_offered_in buf used mark s
  unfolding body_offered_in body_taken
  offer_body mark n en =
      on_state_as buf used (λ h. unless_bad h (taken h (content_of mark s))) (λ h. content_judged h (content_of mark (take n s))) same
    where
      same : (h : Holder) → holder_shape h ≡ 0 → content_judged h (content_of mark (take n s)) ≡ unless_bad h (taken h (content_of mark s))
      same h z =
          ap (λ (c : Content). content_judged h c) (enough_decides s n en mark)
          ∙ judged-taken h 0 (sym z) refl (content_of mark s) (decoded_shape mark s)
          ∙ good_holder h 0 (sym z) (taken h (content_of mark s)) refl

  pub offer_short : truncated ≡ first_of s → left (instead_of (kept_in buf used) (refused 1 0 0)) buf used ≡ offered_in buf used s
  unfolding offered_in received
  offer_short first =
      instead_left buf used 1 (λ z. absurd (omega arith))
      ∙ on_state_as buf used (λ h. (received h s).offered) (λ h. turned_away h 1) same
    where
      same : (h : Holder) → holder_shape h ≡ 0 → turned_away h 1 ≡ (received h s).offered
      same h z = good_holder h 0 (sym z) (turned_away h 1) refl ∙ ap (λ (y : First). (first_taken h (length s) y).offered) first

-- the first record gets what its body gets
pub offer_first : (buf : List ℕ) (used : ℕ) (s : List ℕ) (mark next : ℕ) → record_of mark (content_of mark (take (next - 4) (drop 4 s))) next ≡ first_of s
    → body_offered_in buf used mark (take (next - 4) (drop 4 s)) ≡ offered_in buf used s
unfolding offered_in body_offered_in body_taken received
offer_first buf used s mark next first = ap (λ (y : First). on_state buf used (λ h. (first_taken h (length s) y).offered) (kept_in buf used)) first
