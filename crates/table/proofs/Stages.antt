-- The answers that come from each stage of the judgement and of the fold. What holds of every answer with a number to 26 or from 30
-- to 38, and of what the signatures and the commitments get (27, 28), holds of every answer to an event: 29 never comes
-- (reserved/proofs/Laws). Assumes nothing.
--     answers      of an answer and its details
--     numbers      of a number alone: P of all to 28, and from 30 to 38
use mathlib.Core.Path.{◌≡◌}
use mathlib.Core.List.{List, ◌∷◌, []}
use mathlib.Core.Bool.{Bool, true}
use Prim.Native.Nat.{ℕ, ◌≤◌}
use native.Mathlib.Omega.{arith}
use lib.Dec.{eqb, leb}
use lib.ListN.{length, drop}
use borrow.Author.Tests.{eqb-true}
use Rattle.std.specs.Prelude.{Option, Some, None}
use Rattle.lists.specs.Lists.{pick, both, any, all, is_at}
use Rattle.number.specs.declared.Number.{Number}
use Rattle.number.specs.Number.{small, same_number, next_of}
use Rattle.answer.specs.declared.Answer.{Answer}
use Rattle.answer.specs.Answer.{refused, accepted, refuse_if, refuse_unless, first_refusal, first_fault}
use Rattle.item.specs.declared.Item.{Item}
use Rattle.item.specs.declared.Kind.{Kind}
use Rattle.item.specs.declared.Kind.TheVariants.{Prefix, Key, Said}
use Rattle.item.specs.Item.{basic_of, transferable_of, is_transferable, item_fits, item_shape, is_zero, same_item}
use Rattle.items.specs.declared.Items.{Items}
use Rattle.items.specs.Items as items
use Rattle.items.specs.Items.{listed}
use Rattle.config.specs.declared.Config.{Config}
use Rattle.config.specs.Config as config
use Rattle.threshold.specs.declared.Threshold.{Threshold}
use Rattle.threshold.specs.Threshold as threshold
use Rattle.threshold.specs.Threshold.{well_formed, at_most, satisfied}
use Rattle.toad.specs.Toad.{witness_threshold, in_range}
use Rattle.member_set.specs.Members.{Change, duplicate, transferable, repeat_from, witness_faults, change_faults, change_of, updated, absent}
use Rattle.verification.specs.declared.Sigers.{Sigers}
use Rattle.verification.specs.Verification as verification
use Rattle.authority.specs.declared.Authority.{Authority}
use Rattle.authority.specs.declared.Commitment.{Commitment}
use Rattle.authority.specs.Authority.{too_few, quorum, receipts}
use Rattle.inception.specs.Identity.{identity, first_key, sole_key, commits_nothing}
use Rattle.event.specs.declared.Ilk.{Ilk}
use Rattle.event.specs.declared.Ilk.TheVariants.{Inception, Rotation, Interaction, DelegatedInception, DelegatedRotation}
use Rattle.event.specs.declared.Head.{Head}
use Rattle.event.specs.declared.Body.{Body}
use Rattle.event.specs.declared.Event.{Event}
use Rattle.state.specs.declared.KeyState.{KeyState}
use Rattle.state.specs.declared.Holder.{Holder}
use Rattle.state.specs.State.{is_held, may_move}
use Rattle.shape.specs.Event.{first_head, later_head, own_shape, next_shape, body_shape, signed_shape, shape_as, event_shape}
use Rattle.shape.specs.State.{state_head, state_tail, state_shape, holder_shape}
use Rattle.shape.proofs.Laws.{good_prefix}
use Rattle.rules.specs.Rules.{follows, chains_onto, own_form, next_form, inception, new_witnesses, rewitness, rotation, interaction}
use Rattle.reserved.specs.Reserved.{inception_without29}
use Rattle.reserved.proofs.Laws.{without_29}
use Rattle.ingest.specs.Judgement.{on_nothing, where_live, on_state, judgement, shaped, answer_to}
use Rattle.fold.specs.Fold.{foldable, fold_answer}
use Rattle.decoded.proofs.Gives.{Each}
use Rattle.table.specs.Counted.{signed27, shown28}
use Rattle.table.proofs.Laws.{pick_in, then_in, first_in, fault_in}

module _ (Good : Answer → Type 0) (low : (n : ℕ) (a b : Number) → n ≤ 26 → Good (record { number = n; a = a; b = b })) (high : (n : ℕ) (a b : Number) → 30 ≤ n → n ≤ 38 → Good (record { number = n; a = a; b = b })) where
  -- without details
  abbrev P : ℕ → Type 0
  P n = Good (refused n 0 0)

  zero_in : P 0
  zero_in = low 0 _ _ (omega arith)

  all_in : (xs : List Answer) → Each Good xs → Good (first_refusal xs)
  unfolding first_refusal
  all_in xs e = first_in Good xs zero_in e

  unless_in : (good : Bool) (x : Answer) → Good x → Good (refuse_unless good x)
  unless_in good x p = pick_in Good good accepted x zero_in p

  if_in : (fault : Bool) (x : Answer) → Good x → Good (refuse_if fault x)
  if_in fault x p = pick_in Good fault x accepted p zero_in

  -- ---- shapes: 3 and 4
  three : P 3
  three = low 3 _ _ (omega arith)

  four : P 4
  four = low 4 _ _ (omega arith)

  -- a count, the used places, the unused ones
  list_in : (few used unused : Bool) → P (pick few (pick used (pick unused 0 3) 3) 4)
  list_in few used unused = pick_in P few _ 4 (pick_in P used _ 3 (pick_in P unused 0 3 zero_in three) three) four

  item_in : (k : Kind) (x : Item) → P (item_shape k x)
  item_in k x = pick_in P (item_fits k x) 0 3 zero_in three

  items_in : (k : Kind) (l : Items) → P (items.shape_of k l)
  unfolding items.shape_of
  items_in k l = list_in (leb l.count 16) (all (item_fits k) (listed l)) (all is_zero (drop l.count l.at))

  config_in : (c : Config) → P (config.shape_of c)
  unfolding config.shape_of
  config_in c = list_in (leb c.count 8) (all config.is_trait (config.traits_of c)) (all (eqb 0) (drop c.count c.traits))

  sigers_in : (l : Sigers) → P (verification.shape_of l)
  unfolding verification.shape_of
  sigers_in l = list_in (leb l.count 48) (all verification.ondex_fits (verification.signatures l)) (all verification.zero_siger (drop l.count l.at))

  threshold_in : (t : Threshold) → P (threshold.shape_of t)
  unfolding threshold.shape_of
  threshold_in t =
      pick_in P (threshold.is_simple t) _ _ (pick_in P (both (eqb t.clauses 0) (threshold.rest_zero t 0 0)) 0 3 zero_in three)
      (pick_in P (eqb t.tag 1) _ 3
      (pick_in P (both (leb t.clauses 16) (leb (threshold.weights_in t) 16)) _ 4
      (pick_in P (both (eqb t.simple 0) (threshold.rest_zero t t.clauses (threshold.weights_in t))) 0 3 zero_in three) four)
      three)

  fields_in : (ns : List ℕ) → Each P ns → P (first_fault ns)
  fields_in ns e = fault_in P ns zero_in e

  first_head_in : (h : Head) → P (first_head h)
  unfolding first_head
  first_head_in h = fields_in _ (item_in Prefix h.prefix, (item_in Said h.said, tt))

  later_head_in : (h : Head) → P (later_head h)
  unfolding later_head
  later_head_in h = fields_in _ (first_head_in h, (item_in Said h.prior, tt))

  own_in : (a : Authority) → P (own_shape a)
  unfolding own_shape
  own_in a = fields_in _ (items_in Key a.keys, (threshold_in a.threshold, tt))

  next_in_lem : (c : Commitment) → P (next_shape c)
  unfolding next_shape
  next_in_lem c = fields_in _ (items_in Said c.next, (threshold_in c.threshold, tt))

  body_in : (b : Body) → P (body_shape b)
  unfolding body_shape
  body_in b = fields_in _ (own_in b.authority, (next_in_lem b.commitment, (items_in Key b.additions, tt)))

  signed_in : (e : Event) → P (signed_shape e)
  unfolding signed_shape
  signed_in e = fields_in _ (sigers_in e.sigs, (sigers_in e.receipts, tt))

  shape_as_in : (k : Ilk) (e : Event) → P (shape_as k e)
  shape_as_in Inception e = fields_in _ (first_head_in e.head, (body_in e.body, (config_in e.body.config, (signed_in e, tt))))
  shape_as_in Rotation e = fields_in _ (later_head_in e.head, (body_in e.body, (items_in Key e.body.removals, (signed_in e, tt))))
  shape_as_in Interaction e = fields_in _ (later_head_in e.head, (signed_in e, tt))
  shape_as_in DelegatedInception e = zero_in
  shape_as_in DelegatedRotation e = zero_in

  event_shape_in : (e : Event) → P (event_shape e)
  unfolding event_shape
  event_shape_in e = shape_as_in e.ilk e

  state_shape_in : (s : KeyState) → P (state_shape s)
  unfolding state_shape state_head state_tail
  state_shape_in s =
      let latest = pick_in P (leb s.latest 2) 0 3 zero_in three in
      let head : P (state_head s) = fields_in _ (item_in Prefix s.prefix, (item_in Said s.said, (latest, tt))) in
      let tail : P (state_tail s) = fields_in _ (items_in Key s.witnessing.witnesses, (config_in s.config, (item_in Said s.last.said, tt))) in
      fields_in _ (head, (own_in s.authority, (next_in_lem s.commitment, (tail, tt))))

  pub holder_shapes : (h : Holder) → P (holder_shape h)
  unfolding holder_shape
  holder_shapes h = pick_in P (is_held h) (state_shape h.state) 0 (state_shape_in h.state) zero_in

  -- ---- 23 to 26
  form_in : (t : Threshold) (keys : ℕ) → Good (well_formed t keys)
  unfolding well_formed
  form_in t keys =
      let most : (n : ℕ) → Good (at_most n keys) = λ n. unless_in (leb n keys) (refused 24 n keys) (low 24 _ _ (omega arith)) in
      pick_in Good (threshold.is_simple t) _ _
      (pick_in Good (eqb t.simple 0) (refused 23 0 0) (at_most t.simple keys) (low 23 _ _ (omega arith)) (most t.simple))
      (pick_in Good (eqb t.clauses 0) (refused 25 0 0) _ (low 25 _ _ (omega arith))
      (pick_in Good (any (eqb 0) (threshold.sizes_of t)) (refused 26 0 0) (at_most (threshold.weights_in t) keys) (low 26 _ _ (omega arith)) (most (threshold.weights_in t))))

  own_form_in : (a : Authority) → Good (own_form a)
  own_form_in a = form_in a.threshold a.keys.count

  next_form_in : (c : Commitment) → Good (next_form c)
  next_form_in c = pick_in Good (eqb c.next.count 0) accepted _ zero_in (form_in c.threshold c.next.count)

  -- ---- 32
  receipts_in : (toad : ℕ) (places : List ℕ) → Good (receipts toad places)
  unfolding receipts
  receipts_in toad places =
      pick_in Good (eqb toad 0) accepted _ zero_in (unless_in (leb toad (length places)) (refused 32 (length places) toad) (high 32 _ _ (omega arith) (omega arith)))

  -- ---- 30, 31
  toad_in : (toad witnesses : ℕ) → Good (witness_threshold toad witnesses)
  unfolding witness_threshold
  toad_in toad witnesses =
      unless_in (in_range toad witnesses) _
      (pick_in Good (eqb toad 0) (refused 30 witnesses 0) (refused 31 toad witnesses) (high 30 _ _ (omega arith) (omega arith)) (high 31 _ _ (omega arith) (omega arith)))

  -- ---- 18 to 22, 38
  duplicate_in : (list : ℕ) (xs : List Item) → Good (duplicate list xs)
  duplicate_in list xs = if_in (is_at (repeat_from [] 0 xs)) (refused 18 list 0) (low 18 _ _ (omega arith))

  transferable_in : (list : ℕ) (xs : List Item) → Good (transferable list xs)
  transferable_in list xs = if_in (any is_transferable xs) (refused 19 list 0) (low 19 _ _ (omega arith))

  faults_in : (list : ℕ) (xs : List Item) → Good (witness_faults list xs)
  unfolding witness_faults
  faults_in list xs = all_in _ (duplicate_in list xs, (transferable_in list xs, tt))

  refusal_in : (n : ℕ) (fault : Bool) → P n → Good (refuse_if fault (refused n 0 0))
  refusal_in n fault p = if_in fault (refused n 0 0) p

  change_faults_in : (current cuts adds : List Item) → Good (change_faults current cuts adds)
  unfolding change_faults
  change_faults_in current cuts adds =
      all_in _ (
        duplicate_in 2 cuts,
        (
          duplicate_in 3 adds,
          (
            refusal_in 20 (any (items.member adds) cuts) (low 20 _ _ (omega arith)),
            (
              transferable_in 2 cuts,
              (
                transferable_in 3 adds,
                (refusal_in 21 (any (absent current) cuts) (low 21 _ _ (omega arith)), (refusal_in 22 (any (items.member current) adds) (low 22 _ _ (omega arith)), tt)),
              ),
            ),
          ),
        ),
      )

  change_in : (xs : List Item) → Good (change_of xs).answer
  unfolding change_of
  change_in xs = pick_in (λ (c : Change). Good c.answer) (leb (length xs) 16) _ _ zero_in (high 38 _ _ (omega arith) (omega arith))

  -- ---- 33 to 36
  follows_in : (next : Option Number) (actual : Number) → Good (follows next actual)
  follows_in (Some expected) actual = unless_in (same_number expected actual) (record { number = 35; a = expected; b = actual }) (high 35 _ _ (omega arith) (omega arith))
  follows_in None actual = high 34 _ _ (omega arith) (omega arith)

  chains_in : (prefix : Item) (sn : Number) (said : Item) (h : Head) → Good (chains_onto prefix sn said h)
  unfolding chains_onto
  chains_in prefix sn said h =
      all_in _ (
        unless_in (same_item prefix h.prefix) (refused 33 0 0) (high 33 _ _ (omega arith) (omega arith)),
        (follows_in (next_of sn) h.sn, (unless_in (same_item said h.prior) (refused 36 0 0) (high 36 _ _ (omega arith) (omega arith)), tt)),
      )

  -- ---- 12 to 17
  needed_in : (n a : ℕ) (good : Bool) → n ≤ 26 → Good (refuse_unless good (refused n a 0))
  needed_in n a good p = unless_in good (refused n a 0) (low n _ _ p)

  sole_in : (prefix : Item) (keys : Items) (t : Threshold) → Good (first_refusal (sole_key prefix keys t))
  sole_in prefix keys t =
      all_in _ (
        needed_in 12 keys.count (eqb keys.count 1) (omega arith),
        (needed_in 13 0 (both (threshold.is_simple t) (eqb t.simple 1)) (omega arith), (needed_in 14 0 (same_item prefix (first_key keys)) (omega arith), tt)),
      )

  nothing_in : (next witnesses anchors : ℕ) → Good (first_refusal (commits_nothing next witnesses anchors))
  nothing_in next witnesses anchors =
      all_in _ (needed_in 15 0 (eqb next 0) (omega arith), (needed_in 16 0 (eqb witnesses 0) (omega arith), (needed_in 17 0 (eqb anchors 0) (omega arith), tt)))

  identity_in : (prefix : Item) (keys : Items) (t : Threshold) (next witnesses anchors : ℕ) → Good (identity prefix keys t next witnesses anchors)
  unfolding identity
  identity_in prefix keys t next witnesses anchors =
      pick_in Good (basic_of prefix.code) _ accepted
      (all_in _ (sole_in prefix keys t, (pick_in Good (transferable_of prefix.code) accepted _ zero_in (nothing_in next witnesses anchors), tt)))
      zero_in

  -- ---- the rules, whatever the signatures and receipts come to
  module _ (signed exposed : Answer) (receipted : ℕ → Answer) (is_signed : Good signed) (isExposed : Good exposed) (isReceipted : (n : ℕ) → Good (receipted n)) where
    -- 29 is not among the checks: where the prefix is one, document 01's list gives the same answer without it
    without_in : (h : Head) (b : Body) (anchors : ℕ) → Good (inception_without29 h b anchors signed receipted)
    unfolding inception_without29
    without_in h b anchors =
        all_in _ (
          unless_in (same_number h.sn (small 0)) (record { number = 11; a = h.sn; b = small 0 }) (low 11 _ _ (omega arith)),
          (
            identity_in h.prefix b.authority.keys b.authority.threshold b.commitment.next.count b.additions.count anchors,
            (
              faults_in 1 (listed b.additions),
              (own_form_in b.authority, (is_signed, (next_form_in b.commitment, (toad_in b.toad b.additions.count, (isReceipted b.additions.count, tt))))),
            ),
          ),
        )

    inception_in : (h : Head) (b : Body) (anchors : ℕ) → item_fits Prefix h.prefix ≡ true → Good (inception h b anchors signed receipted)
    inception_in h b anchors fits = rw (without_29 h b anchors signed receipted fits) (without_in h b anchors)

    rewitness_in_lem : (current : List Item) (b : Body) → Good (rewitness current b receipted)
    unfolding rewitness
    rewitness_in_lem current b =
        let new = updated current (listed b.removals) (listed b.additions) in
        all_in _ (change_faults_in current (listed b.removals) (listed b.additions), (change_in new, (toad_in b.toad (length new), (isReceipted (length new), tt))))

    rotation_in : (s : KeyState) (h : Head) (b : Body) → Good (rotation s h b signed exposed receipted)
    unfolding rotation
    rotation_in s h b =
        all_in _ (
          chains_in s.prefix s.sn s.said h,
          (own_form_in b.authority, (next_form_in b.commitment, (is_signed, (isExposed, (rewitness_in_lem (listed s.witnessing.witnesses) b, tt))))),
        )

    interaction_in : (s : KeyState) (h : Head) → Good (interaction s h signed receipted)
    unfolding interaction
    interaction_in s h =
        all_in _ (
          if_in (config.establishment_only s.config) (refused 37 0 0) (high 37 _ _ (omega arith) (omega arith)),
          (chains_in s.prefix s.sn s.said h, (is_signed, (isReceipted s.witnessing.witnesses.count, tt))),
        )

  -- ---- by the ilk, where what 27 and 28 are asked of is good
  on_nothing_in : (k : Ilk) (s : KeyState) (e : Event) → shape_as k e ≡ 0 → Good (signed27 k s e) → Good (on_nothing k e)
  on_nothing_in Inception s e z own = inception_in _ accepted _ own zero_in (λ n. receipts_in _ _) e.head e.body e.anchors (good_prefix e z)
  on_nothing_in Rotation s e z own = low 8 _ _ (omega arith)
  on_nothing_in Interaction s e z own = low 8 _ _ (omega arith)
  on_nothing_in DelegatedInception s e z own = low 6 _ _ (omega arith)
  on_nothing_in DelegatedRotation s e z own = low 8 _ _ (omega arith)

  where_live_in : (k : Ilk) (s : KeyState) (e : Event) → Good (signed27 k s e) → Good (shown28 s e) → Good (where_live k s e)
  where_live_in Inception s e own shown = low 9 _ _ (omega arith)
  where_live_in Rotation s e own shown = rotation_in _ _ _ own shown (λ n. receipts_in _ _) s e.head e.body
  where_live_in Interaction s e own shown = interaction_in _ accepted _ own zero_in (λ n. receipts_in _ _) s e.head
  where_live_in DelegatedInception s e own shown = low 6 _ _ (omega arith)
  where_live_in DelegatedRotation s e own shown = low 7 _ _ (omega arith)

  judgement_in : (h : Holder) (e : Event) → Good (signed27 e.ilk h.state e) → Good (shown28 h.state e) → event_shape e ≡ 0 → Good (judgement h e)
  unfolding judgement on_state event_shape
  judgement_in h e own shown z =
      pick_in Good (is_held h) _ _
      (pick_in Good (may_move h.state) _ (refused 10 0 0) (where_live_in e.ilk h.state e own shown) (low 10 _ _ (omega arith)))
      (on_nothing_in e.ilk h.state e z own)

  -- ---- behind the shapes
  shaped_in : (h : Holder) (e : Event) (x : Answer) → (event_shape e ≡ 0 → Good x) → Good (shaped h e x)
  shaped_in h e x p =
      then_in Good (refused (holder_shape h) 0 0) _ (holder_shapes h)
      (λ _. then_in Good (refused (event_shape e) 0 0) _ (event_shape_in e) (λ q. all_in (x ∷ []) (p (eqb-true (event_shape e) 0 q), tt)))

  pub answers : (h : Holder) (e : Event) → Good (signed27 e.ilk h.state e) → Good (shown28 h.state e) → Good (answer_to h e)
  unfolding answer_to
  answers h e own shown = shaped_in h e (judgement h e) (judgement_in h e own shown)

  foldable_in : (k : Ilk) (h : Holder) (e : Event) → Good (foldable k h e)
  foldable_in Inception h e = zero_in
  foldable_in Rotation h e = pick_in Good (is_held h) _ (refused 8 0 0) (change_in (new_witnesses h.state e.body)) (low 8 _ _ (omega arith))
  foldable_in Interaction h e = pick_in Good (is_held h) accepted (refused 8 0 0) zero_in (low 8 _ _ (omega arith))
  foldable_in DelegatedInception h e = low 6 _ _ (omega arith)
  foldable_in DelegatedRotation h e = low 6 _ _ (omega arith)

  pub folds : (h : Holder) (e : Event) → Good (fold_answer h e)
  unfolding fold_answer
  folds h e = shaped_in h e (foldable e.ilk h e) (λ _. foldable_in e.ilk h e)

-- ---- a property of numbers
module _ (P : ℕ → Type 0) (low : (n : ℕ) → n ≤ 28 → P n) (high : (n : ℕ) → 30 ≤ n → n ≤ 38 → P n) where
  abbrev Numbered : Answer → Type 0
  Numbered x = P x.number

  less : (n : ℕ) (a b : Number) → n ≤ 26 → P n
  less n a b p = low n (omega arith)

  more : (n : ℕ) (a b : Number) → 30 ≤ n → n ≤ 38 → P n
  more n a b p q = high n p q

  quorum_in : (which : ℕ) (t : Threshold) (places : List ℕ) → which ≤ 28 → Numbered (quorum which t places)
  unfolding quorum
  quorum_in which t places p = pick_in Numbered (satisfied t places) accepted (too_few which t places) (low 0 (omega arith)) (low which p)

  pub holder_shape_in : (h : Holder) → P (holder_shape h)
  holder_shape_in = holder_shapes Numbered less more

  pub answer_in : (h : Holder) (e : Event) → Numbered (answer_to h e)
  answer_in h e = answers Numbered less more h e (quorum_in 27 _ _ (omega arith)) (quorum_in 28 _ _ (omega arith))

  pub fold_answer_in : (h : Holder) (e : Event) → Numbered (fold_answer h e)
  fold_answer_in = folds Numbered less more
