-- The numbers that are read from bytes fit their words, and the arrays have their full length. Assumes nothing.
--     gives-..         one line a field, then the groups and the records
--     decoded_real     of every mark and every body
use mathlib.Core.Path.{◌≡◌, refl}
use mathlib.Core.Bool.{Bool, true, false}
use mathlib.Core.List.{List, ◌∷◌, []}
use Prim.Native.Nat.{ℕ, zero, suc, ◌+◌, ◌*◌, ◌^◌, ◌≤◌, ◌<◌}
use native.Mathlib.Nat.{mul_assoc, mul_comm, one-mul, pow-suc, mul-le-mul_right, lt_of_lt_of_le}
use native.Mathlib.Omega.{arith}
use lib.Dec.{leb, eqb}
use lib.ListN.{length, take, drop, length-take, length-drop}
use borrow.Author.Tests.{leb-true}
use Rattle.lists.specs.Lists.{pick}
use Rattle.lists.proofs.Padding.{padded-length}
use Rattle.number.specs.declared.Number.{Number}
use Rattle.item.specs.declared.Kind.{Kind}
use Rattle.item.specs.declared.Kind.TheVariants.{Prefix, Key, Said}
use Rattle.item.specs.Item.{fits_of}
use Rattle.items.specs.Items.{packed}
use Rattle.config.specs.declared.Config.{Config}
use Rattle.config.specs.Config.{packed_traits}
use Rattle.authority.specs.declared.Authority.{Authority}
use Rattle.authority.specs.declared.Commitment.{Commitment}
use Rattle.event.specs.declared.Ilk.{Ilk}
use Rattle.event.specs.declared.Ilk.TheVariants.{Inception, Rotation, Interaction, DelegatedInception, DelegatedRotation}
use Rattle.event.specs.declared.Head.{Head}
use Rattle.event.specs.declared.Body.{Body}
use Rattle.event.specs.declared.Event.{Event}
use Rattle.state.specs.declared.KeyState.{KeyState}
use Rattle.format.specs.Parse.{Parse, got, bad, byte_at, be_from, num_at, raw_at, many_at, list_at}
use Rattle.format.specs.Fields.{sn_at, item_at, items_at, trait_at, config_at, flag_at, simple, weighted, total, weight_at, clauses_at, threshold_as, threshold_at, sigers_at}
use Rattle.layout.specs.Records.{first_head_at, later_head_at, authority_at, commitment_at, tail_at, inception_body_at, inception_at, rotation_body_at, rotation_at, interaction_at, no_body, delegated, latest_at, snapshot_at}
use Rattle.layout.specs.Records.{Content, event, refusal, as_event, as_snapshot, content_of}
use Rattle.snapshot.proofs.Real.{Words, RealItems, RealThreshold, RealState}
use Rattle.decoded.proofs.Gives.{Outcome, Gives, Some, Many, Few, outcome_pick, gives_then, gives_got, gives_bad, gives_classed, gives_ended, gives_byte, gives_many, gives_list}
use Rattle.decoded.proofs.Shapes.{Trait, Latest, GoodSigers, Clauses, gives_trait, gives_flag, gives_latest, gives_clauses, gives_sigers}
use Rattle.canonical.specs.Bytes.{Bytes}
use Rattle.resume.proofs.Real.{RealHead, RealBody, RealEvent, Real, Raw, RealWeight, real_packed, real_simple, real_weighted, real_no_head, real_no_body}

-- ---- parts of byte strings
pub bytes_take : (n : ℕ) (s : List ℕ) → Bytes s → Bytes (take n s)
bytes_take zero s b = tt
bytes_take (suc n) [] b = tt
bytes_take (suc n) (x ∷ s) b = (b.0, bytes_take n s b.1)

pub bytes_drop : (n : ℕ) (s : List ℕ) → Bytes s → Bytes (drop n s)
bytes_drop zero s b = b
bytes_drop (suc n) [] b = tt
bytes_drop (suc n) (x ∷ s) b = bytes_drop n s b.1

-- ---- a number of w bytes is below 256^w
be-below : (a : ℕ) (xs : List ℕ) → Bytes xs → be_from a xs < (a + 1) * 256 ^ length xs
unfolding be_from
be-below a [] b = omega arith
be-below a (x ∷ xs) b =
    let small = b.0 in
    let rest : be_from (a * 256 + x) xs < (a * 256 + x + 1) * 256 ^ length xs = be-below (a * 256 + x) xs b.1 in
    let most : (a * 256 + x + 1) * 256 ^ length xs ≤ (a + 1) * 256 * 256 ^ length xs = mul-le-mul_right (256 ^ length xs) (omega arith) in
    let power : (a + 1) * 256 * 256 ^ length xs ≡ (a + 1) * 256 ^ suc (length xs) = rw (pow-suc, mul_comm (256 ^ length xs) 256) (mul_assoc (a + 1) 256 (256 ^ length xs)) in
    rw (← power) (lt_of_lt_of_le rest most)

part_length : (w at : ℕ) (s : List ℕ) → at + w ≤ length s → length (take w (drop at s)) ≡ w
part_length w at s h = simp (length-take, length-drop) (omega arith)

abbrev Below : ℕ → ℕ → Type 0
Below w n = n < 256 ^ w

gives_number : (w : ℕ) (s : List ℕ) → Bytes s → Gives (Below w) (num_at w s)
unfolding Gives num_at
gives_number w s b at = outcome_pick (Below w) (leb (at + w) (length s)) _ (bad 3) below (omega arith, omega arith)
  where
    below : leb (at + w) (length s) ≡ true → Below w (be_from 0 (take w (drop at s)))
    below e =
        let l = part_length w at s (leb-true (at + w) (length s) e) in
        let h = be-below 0 (take w (drop at s)) (bytes_take w (drop at s) (bytes_drop at s b)) in
        rw (l, one-mul) at h

abbrev Long : ℕ → List ℕ → Type 0
Long w xs = length xs ≡ w

gives_raw : (w : ℕ) (s : List ℕ) → Gives (Long w) (raw_at w s)
unfolding Gives raw_at
gives_raw w s at =
    outcome_pick (Long w) (leb (at + w) (length s)) _ (bad 3) (λ e. part_length w at s (leb-true (at + w) (length s) e)) (omega arith, omega arith)

-- ---- fields
abbrev RealNumber : Number → Type 0
RealNumber n = Words n.high n.low

gives_item : (k : Kind) (s : List ℕ) → Gives Raw (item_at k s)
unfolding item_at
gives_item k s =
    gives_then Some Raw (byte_at s) _ (gives_byte s)
    (λ code u. gives_then (Long 32) Raw (raw_at 32 s) _ (gives_raw 32 s)
    (λ raw l. gives_classed Raw (fits_of k code) _ (λ e. l)))

gives_items : (k : Kind) (s : List ℕ) → Gives RealItems (items_at k s)
unfolding items_at
gives_items k s =
    gives_then (Few Raw 16) RealItems (list_at (item_at k s) 16 s) _ (gives_list Raw (item_at k s) (gives_item k s) 16 s)
    (λ xs p. gives_got RealItems (packed xs) (real_packed xs p.0 p.1))

abbrev RealConfig : Config → Type 0
RealConfig c = length c.traits ≡ 8

gives_config : (s : List ℕ) → Gives RealConfig (config_at s)
unfolding config_at
gives_config s =
    gives_then (Few Trait 8) RealConfig (list_at (trait_at s) 8 s) _ (gives_list Trait (trait_at s) (gives_trait s) 8 s)
    (λ ts p. gives_got RealConfig (packed_traits ts) (padded-length 0 8 ts p.1))

module _ (s : List ℕ) (bytes : Bytes s) where
  gives_sn : Gives RealNumber (sn_at s)
  unfolding sn_at
  gives_sn =
      gives_then (Below 8) RealNumber (num_at 8 s) _ (gives_number 8 s bytes)
      (λ high h. gives_then (Below 8) RealNumber (num_at 8 s) _ (gives_number 8 s bytes)
      (λ low l. gives_got RealNumber _ (h, l)))

  gives_weight : Gives RealWeight (weight_at s)
  unfolding weight_at
  gives_weight =
      gives_then (Below 8) RealWeight (num_at 8 s) _ (gives_number 8 s bytes)
      (λ num h. gives_then (Below 8) RealWeight (num_at 8 s) _ (gives_number 8 s bytes)
      (λ den l. gives_got RealWeight _ (h, l)))

  gives_as : (tag : ℕ) → Gives RealThreshold (threshold_as tag s)
  unfolding threshold_as
  gives_as zero = gives_then (Below 8) RealThreshold (num_at 8 s) _ (gives_number 8 s bytes) (λ n h. gives_got RealThreshold (simple n) (real_simple n h))
  gives_as (suc zero) =
      gives_then Clauses RealThreshold (clauses_at s) _ (gives_clauses s)
      (λ zs c. gives_then (Many RealWeight (total zs)) RealThreshold (many_at (weight_at s) (total zs)) _ (gives_many RealWeight (weight_at s) gives_weight (total zs))
      (λ ws p. gives_got RealThreshold (weighted zs ws) (real_weighted zs ws c.0 (let l = p.1 in let h = c.1 in omega arith) p.0)))
  gives_as (suc (suc n)) = gives_bad RealThreshold 3 (omega arith) (omega arith)

  gives_threshold : Gives RealThreshold (threshold_at s)
  unfolding threshold_at
  gives_threshold = gives_then Some RealThreshold (byte_at s) _ (gives_byte s) (λ tag u. gives_as tag)

  -- ---- the groups
  gives_first : Gives RealHead (first_head_at s)
  unfolding first_head_at
  gives_first =
      gives_then Raw RealHead (item_at Prefix s) _ (gives_item Prefix s)
      (λ prefix p. gives_then RealNumber RealHead (sn_at s) _ gives_sn
      (λ sn n. gives_then Raw RealHead (item_at Said s) _ (gives_item Said s)
      (λ said q. gives_got RealHead _ (record { prefix = p; sn = n; said = q }))))

  gives_later : Gives RealHead (later_head_at s)
  unfolding later_head_at
  gives_later =
      gives_then RealHead RealHead (first_head_at s) _ gives_first
      (λ h r. gives_then Raw RealHead (item_at Said s) _ (gives_item Said s)
      (λ prior q. gives_got RealHead _ (record { prefix = r.prefix; sn = r.sn; said = r.said })))

  abbrev RealOwn : Authority → Type 0
  RealOwn a = RealItems a.keys × RealThreshold a.threshold

  abbrev RealNext : Commitment → Type 0
  RealNext c = RealItems c.next × RealThreshold c.threshold

  gives_own : Gives RealOwn (authority_at s)
  unfolding authority_at
  gives_own =
      gives_then RealItems RealOwn (items_at Key s) _ (gives_items Key s)
      (λ keys p. gives_then RealThreshold RealOwn (threshold_at s) _ gives_threshold
      (λ t q. gives_got RealOwn _ (p, q)))

  gives_next : Gives RealNext (commitment_at s)
  unfolding commitment_at
  gives_next =
      gives_then RealItems RealNext (items_at Said s) _ (gives_items Said s)
      (λ next p. gives_then RealThreshold RealNext (threshold_at s) _ gives_threshold
      (λ t q. gives_got RealNext _ (p, q)))

  gives_inception_body : Gives RealBody (inception_body_at s)
  unfolding inception_body_at
  gives_inception_body =
      gives_then RealOwn RealBody (authority_at s) _ gives_own
      (λ a p. gives_then RealNext RealBody (commitment_at s) _ gives_next
      (λ c q. gives_then RealItems RealBody (items_at Key s) _ (gives_items Key s)
      (λ witnesses w. gives_then (Below 4) RealBody (num_at 4 s) _ (gives_number 4 s bytes)
      (λ toad n. gives_then RealConfig RealBody (config_at s) _ (gives_config s)
      (λ traits t. gives_got RealBody _
      (record { keys = p.0; own = p.1; next = q.0; committed = q.1; additions = w; toad = n; traits = t }))))))

  gives_rotation_body : Gives RealBody (rotation_body_at s)
  unfolding rotation_body_at
  gives_rotation_body =
      gives_then RealOwn RealBody (authority_at s) _ gives_own
      (λ a p. gives_then RealNext RealBody (commitment_at s) _ gives_next
      (λ c q. gives_then RealItems RealBody (items_at Key s) _ (gives_items Key s)
      (λ additions w. gives_then RealItems RealBody (items_at Key s) _ (gives_items Key s)
      (λ removals v. gives_then (Below 4) RealBody (num_at 4 s) _ (gives_number 4 s bytes)
      (λ toad n. gives_got RealBody _
      (record { keys = p.0; own = p.1; next = q.0; committed = q.1; additions = w; toad = n; traits = refl }))))))

  -- ---- the records
  gives_tail : (ilk : Ilk) (h : Head) (b : Body) → RealHead h → RealBody b → Gives RealEvent (tail_at ilk h b s)
  unfolding tail_at
  gives_tail ilk h b p q =
      gives_then (Below 4) RealEvent (num_at 4 s) _ (gives_number 4 s bytes)
      (λ anchors u. gives_then GoodSigers RealEvent (sigers_at s) _ (gives_sigers s)
      (λ sigs v. gives_then GoodSigers RealEvent (sigers_at s) _ (gives_sigers s)
      (λ receipts w. gives_ended RealEvent s _ (record { head = p; body = q }))))

  gives_inception : Gives RealEvent (inception_at s)
  unfolding inception_at
  gives_inception =
      gives_then RealHead RealEvent (first_head_at s) _ gives_first
      (λ h p. gives_then RealBody RealEvent (inception_body_at s) _ gives_inception_body
      (λ b q. gives_tail Inception h b p q))

  gives_rotation : Gives RealEvent (rotation_at s)
  unfolding rotation_at
  gives_rotation =
      gives_then RealHead RealEvent (later_head_at s) _ gives_later
      (λ h p. gives_then RealBody RealEvent (rotation_body_at s) _ gives_rotation_body
      (λ b q. gives_tail Rotation h b p q))

  gives_interaction : Gives RealEvent (interaction_at s)
  unfolding interaction_at
  gives_interaction = gives_then RealHead RealEvent (later_head_at s) _ gives_later (λ h p. gives_tail Interaction h no_body p real_no_body)

  gives_snapshot : Gives RealState (snapshot_at s)
  unfolding snapshot_at
  gives_snapshot =
      gives_then RealHead RealState (first_head_at s) _ gives_first
      (λ h p. gives_then Latest RealState (latest_at s) _ (gives_latest s)
      (λ latest l. gives_then RealOwn RealState (authority_at s) _ gives_own
      (λ own a. gives_then RealNext RealState (commitment_at s) _ gives_next
      (λ next c. gives_then RealItems RealState (items_at Key s) _ (gives_items Key s)
      (λ witnesses w. gives_then (Below 4) RealState (num_at 4 s) _ (gives_number 4 s bytes)
      (λ toad n. gives_then RealConfig RealState (config_at s) _ (gives_config s)
      (λ traits t. gives_then Some RealState (flag_at s) _ (gives_flag s)
      (λ transferable u. gives_then RealNumber RealState (sn_at s) _ gives_sn
      (λ sn m. gives_then Raw RealState (item_at Said s) _ (gives_item Said s)
      (λ said d. gives_ended RealState s _
      (record {
        prefix = p.prefix;
        sn = p.sn;
        said = p.said;
        keys = a.0;
        own = a.1;
        next = c.0;
        committed = c.1;
        witnesses = w;
        toad = n;
        traits = t;
        since = m;
        established = d;
      })))))))))))

-- ---- whatever the mark
as_event_lem : (x : Parse Event) → Outcome RealEvent x → Real (as_event x)
as_event_lem (got e n) p = p
as_event_lem (bad r) p = tt

as_snapshot_lem : (x : Parse KeyState) → Outcome RealState x → Real (as_snapshot x)
as_snapshot_lem (got s n) p = p
as_snapshot_lem (bad r) p = tt

by_mark : (b : Bool) (x y : Content) → Real x → Real y → Real (pick b x y)
by_mark true x y p q = p
by_mark false x y p q = q

pub decoded_real : (mark : ℕ) (body : List ℕ) → Bytes body → Real (content_of mark body)
unfolding content_of Gives
decoded_real mark body b =
    let none : (ilk : Ilk) → RealEvent (delegated ilk) = λ ilk. record { head = real_no_head; body = real_no_body } in
    by_mark (eqb mark 0x4943) (as_event (inception_at body 0)) _ (as_event_lem (inception_at body 0) (gives_inception body b 0))
    (by_mark (eqb mark 0x524F) (as_event (rotation_at body 0)) _ (as_event_lem (rotation_at body 0) (gives_rotation body b 0))
    (by_mark (eqb mark 0x4958) (as_event (interaction_at body 0)) _ (as_event_lem (interaction_at body 0) (gives_interaction body b 0))
    (by_mark (eqb mark 0x4449) (event (delegated DelegatedInception)) _ (none DelegatedInception)
    (by_mark (eqb mark 0x4452) (event (delegated DelegatedRotation)) _ (none DelegatedRotation)
    (by_mark (eqb mark 0x4B53) (as_snapshot (snapshot_at body 0)) (refusal 2) (as_snapshot_lem (snapshot_at body 0) (gives_snapshot body b 0)) tt)))))
