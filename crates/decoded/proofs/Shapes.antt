-- What is read has no fault of shape, and what is refused is refused with 2, 3 or 4. Assumes nothing.
--     gives-..         one line a field, then the groups and the records
--     decoded_shape    of every mark and every body
use mathlib.Core.Path.{◌≡◌, refl, sym, ap, ◌∙◌}
use mathlib.Core.Bool.{Bool, true, false}
use mathlib.Core.List.{List, ◌∷◌, []}
use Prim.Native.Nat.{ℕ, zero, suc, ◌+◌, ◌-◌, ◌≤◌}
use native.Mathlib.Omega.{arith}
use lib.Dec.{leb, eqb}
use lib.ListN.{length, take, drop, replicate}
use borrow.Author.Tests.{le-leb, leb-true}
use Rattle.lists.specs.Lists.{pick, either, all, padded, same_numbers}
use Rattle.lists.proofs.Padding.{padded-used, padded-unused}
use Rattle.answer.specs.Answer.{first_fault}
use Rattle.item.specs.declared.Item.{Item}
use Rattle.item.specs.declared.Kind.{Kind}
use Rattle.item.specs.declared.Kind.TheVariants.{Prefix, Key, Said}
use Rattle.item.specs.Item.{fits_of, item_fits, item_shape, zero_item, is_zero, same_item}
use Rattle.items.specs.declared.Items.{Items}
use Rattle.items.specs.Items as items
use Rattle.config.specs.declared.Config.{Config}
use Rattle.config.specs.Config as config
use Rattle.weight.specs.declared.Weight.{Weight}
use Rattle.weight.specs.Weight.{zero_weight}
use Rattle.threshold.specs.declared.Threshold.{Threshold}
use Rattle.threshold.specs.Threshold as threshold
use Rattle.verification.specs.declared.Siger.{Siger}
use Rattle.verification.specs.declared.Sigers.{Sigers}
use Rattle.verification.specs.Verification as verification
use Rattle.verification.specs.Verification.{no_siger, ondex_fits, zero_siger, same_wire}
use Rattle.authority.specs.declared.Authority.{Authority}
use Rattle.authority.specs.declared.Commitment.{Commitment}
use Rattle.event.specs.declared.Ilk.{Ilk}
use Rattle.event.specs.declared.Ilk.TheVariants.{Inception, Rotation, Interaction, DelegatedInception, DelegatedRotation}
use Rattle.event.specs.declared.Head.{Head}
use Rattle.event.specs.declared.Body.{Body}
use Rattle.event.specs.declared.Event.{Event}
use Rattle.state.specs.declared.KeyState.{KeyState}
use Rattle.shape.specs.Event.{first_head, later_head, own_shape, next_shape, body_shape, signed_shape, event_shape}
use Rattle.shape.specs.State.{latest_shape, state_head, state_tail, state_shape}
use Rattle.format.specs.Parse.{Parse, got, bad, byte_at, num_at, raw_at, many_at, list_at}
use Rattle.format.specs.Fields.{sn_at, item_at, items_at, trait_at, config_at, flag_at, simple, weighted, sizes_at, total, weight_at, clauses_at, threshold_as, threshold_at, ondex_at, siger_at, sigers_at}
use Rattle.layout.specs.Records.{first_head_at, later_head_at, authority_at, commitment_at, tail_at, inception_body_at, inception_at, rotation_body_at, rotation_at, interaction_at, no_body, delegated, latest_at, snapshot_at}
use Rattle.layout.specs.Records.{Content, event, refusal, as_event, as_snapshot, content_of}
use Rattle.decoded.specs.Decoded.{Shaped}
use Rattle.decoded.proofs.Gives.{Outcome, Gives, Some, Each, Many, Few, each_all, gives_then, gives_weaker, gives_got, gives_bad, gives_pick, gives_classed, gives_ended, gives_byte, gives_number, gives_raw, gives_many, gives_list}

-- ---- a list in an array has no fault where its elements have none
all_replicate : {A : Type 0} (f : A → Bool) (n : ℕ) (z : A) → f z ≡ true → all f (replicate n z) ≡ true
unfolding all
all_replicate f zero z e = refl
all_replicate f (suc n) z e = rw e (all_replicate f n z e)

module _ {A : Type 0} (fits is_none : A → Bool) (z : A) (none : is_none z ≡ true) (n : ℕ) (xs : List A) where
  padded_rest : all is_none (drop (length xs) (padded n z xs)) ≡ true
  padded_rest = rw (padded-unused z n xs) (all_replicate is_none (n - length xs) z none)

  padded-shape : all fits xs ≡ true → length xs ≤ n
      → ◌≡◌ {A = ℕ} (pick (leb (length xs) n) (pick (all fits (take (length xs) (padded n z xs))) (pick (all is_none (drop (length xs) (padded n z xs))) 0 3) 3) 4) 0
  padded-shape e h = rw (le-leb (length xs) n h, padded-used z n xs, e, padded_rest)

zero_item_lem : is_zero zero_item ≡ true
unfolding same_item same_numbers
zero_item_lem = refl

zero-siger : zero_siger no_siger ≡ true
unfolding same_wire same_numbers
zero-siger = refl

-- ---- fields
gives_sn : (s : List ℕ) → Gives Some (sn_at s)
unfolding sn_at
gives_sn s = gives_then Some Some (num_at 8 s) _ (gives_number 8 s) (λ a u. gives_then Some Some (num_at 8 s) _ (gives_number 8 s) (λ b v. gives_got Some _ tt))

abbrev pub Fits : Kind → Item → Type 0
Fits k x = item_fits k x ≡ true

pub gives_item : (k : Kind) (s : List ℕ) → Gives (Fits k) (item_at k s)
unfolding item_at
gives_item k s =
    gives_then Some (Fits k) (byte_at s) _ (gives_byte s)
    (λ code u. gives_then Some (Fits k) (raw_at 32 s) _ (gives_raw 32 s)
    (λ raw v. gives_classed (Fits k) (fits_of k code) _ (λ e. e)))

abbrev GoodItems : Kind → Items → Type 0
GoodItems k l = items.shape_of k l ≡ 0

pub items_shape : (k : Kind) (xs : List Item) → Few (Fits k) 16 xs → GoodItems k (items.packed xs)
unfolding items.shape_of
items_shape k xs p = padded-shape (item_fits k) is_zero zero_item zero_item_lem 16 xs (each_all (item_fits k) xs p.0) p.1

pub gives_items : (k : Kind) (s : List ℕ) → Gives (GoodItems k) (items_at k s)
unfolding items_at
gives_items k s =
    gives_then (Few (Fits k) 16) (GoodItems k) (list_at (item_at k s) 16 s) _ (gives_list (Fits k) (item_at k s) (gives_item k s) 16 s)
    (λ xs p. gives_got (GoodItems k) (items.packed xs) (items_shape k xs p))

abbrev pub Trait : ℕ → Type 0
Trait t = config.is_trait t ≡ true

pub gives_trait : (s : List ℕ) → Gives Trait (trait_at s)
unfolding trait_at
gives_trait s = gives_then Some Trait (byte_at s) _ (gives_byte s) (λ t u. gives_classed Trait (config.is_trait t) t (λ e. e))

abbrev GoodConfig : Config → Type 0
GoodConfig c = config.shape_of c ≡ 0

config_shape : (ts : List ℕ) → Few Trait 8 ts → GoodConfig (config.packed_traits ts)
unfolding config.shape_of
config_shape ts p = padded-shape config.is_trait (eqb 0) 0 refl 8 ts (each_all config.is_trait ts p.0) p.1

pub gives_config : (s : List ℕ) → Gives GoodConfig (config_at s)
unfolding config_at
gives_config s =
    gives_then (Few Trait 8) GoodConfig (list_at (trait_at s) 8 s) _ (gives_list Trait (trait_at s) (gives_trait s) 8 s)
    (λ ts p. gives_got GoodConfig (config.packed_traits ts) (config_shape ts p))

pub gives_flag : (s : List ℕ) → Gives Some (flag_at s)
unfolding flag_at
gives_flag s = gives_then Some Some (byte_at s) _ (gives_byte s) (λ b u. gives_classed Some (leb b 1) (eqb b 1) (λ e. tt))

-- ---- thresholds
abbrev GoodThreshold : Threshold → Type 0
GoodThreshold t = threshold.shape_of t ≡ 0

simple-shape : (n : ℕ) → GoodThreshold (simple n)
unfolding threshold.shape_of all
simple-shape n = refl

-- so many sizes, behind others that come to `sum`
abbrev Sizes : ℕ → ℕ → List ℕ → Type 0
Sizes n sum zs = (length zs ≡ n) × (sum + total zs ≤ 16)

gives_sizes : (s : List ℕ) (n sum : ℕ) → sum ≤ 16 → Gives (Sizes n sum) (sizes_at s n sum)
unfolding sizes_at total
gives_sizes s zero sum h = gives_got (Sizes 0 sum) [] (refl, omega arith)
gives_sizes s (suc n) sum h =
    gives_then Some (Sizes (suc n) sum) (byte_at s) _ (gives_byte s)
    (λ z u. gives_pick (Sizes (suc n) sum) (leb (sum + z) 16) _ (λ at. bad 4)
    (λ e. gives_then (Sizes n (sum + z)) (Sizes (suc n) sum) (sizes_at s n (sum + z)) _ (gives_sizes s n (sum + z) (leb-true (sum + z) 16 e))
    (λ zs p. gives_got (Sizes (suc n) sum) (z ∷ zs) (ap suc p.0, let q = p.1 in omega arith)))
    (gives_bad (Sizes (suc n) sum) 4 (omega arith) (omega arith)))

abbrev pub Clauses : List ℕ → Type 0
Clauses zs = (length zs ≤ 16) × (total zs ≤ 16)

pub gives_clauses : (s : List ℕ) → Gives Clauses (clauses_at s)
unfolding clauses_at
gives_clauses s =
    gives_then Some Clauses (byte_at s) _ (gives_byte s)
    (λ n u. gives_pick Clauses (leb n 16) (sizes_at s n 0) (λ at. bad 4)
    (λ e. let h = leb-true n 16 e in gives_weaker (Sizes n 0) Clauses (λ zs p. let l = p.0 in let q = p.1 in (omega arith, omega arith)) (sizes_at s n 0) (gives_sizes s n 0 (omega arith)))
    (gives_bad Clauses 4 (omega arith) (omega arith)))

gives_weight : (s : List ℕ) → Gives Some (weight_at s)
unfolding weight_at
gives_weight s = gives_then Some Some (num_at 8 s) _ (gives_number 8 s) (λ a u. gives_then Some Some (num_at 8 s) _ (gives_number 8 s) (λ b v. gives_got Some _ tt))

total-sum : (zs : List ℕ) → threshold.sum zs ≡ total zs
unfolding total threshold.sum
total-sum [] = refl
total-sum (z ∷ zs) = ap (λ (n : ℕ). z + n) (total-sum zs)

abbrev no_weight : Weight
no_weight = record { num = 0; den = 0 }

weighted-shape : (zs : List ℕ) (ws : List Weight) → Clauses zs → length ws ≡ total zs → GoodThreshold (weighted zs ws)
unfolding threshold.shape_of
weighted-shape zs ws c l =
    let n : threshold.sum zs ≡ length ws = total-sum zs ∙ sym l in
    let light : length ws ≤ 16 = let q = c.1 in omega arith in
    rw (padded-used 0 16 zs, n, le-leb (length zs) 16 c.0, le-leb (length ws) 16 light, padded_rest (eqb 0) (eqb 0) 0 refl 16 zs, padded_rest zero_weight zero_weight no_weight refl 16 ws)

gives_as : (tag : ℕ) (s : List ℕ) → Gives GoodThreshold (threshold_as tag s)
unfolding threshold_as
gives_as zero s = gives_then Some GoodThreshold (num_at 8 s) _ (gives_number 8 s) (λ n u. gives_got GoodThreshold (simple n) (simple-shape n))
gives_as (suc zero) s =
    gives_then Clauses GoodThreshold (clauses_at s) _ (gives_clauses s)
    (λ zs c. gives_then (Many Some (total zs)) GoodThreshold (many_at (weight_at s) (total zs)) _ (gives_many Some (weight_at s) (gives_weight s) (total zs))
    (λ ws p. gives_got GoodThreshold (weighted zs ws) (weighted-shape zs ws c p.1)))
gives_as (suc (suc n)) s = gives_bad GoodThreshold 3 (omega arith) (omega arith)

pub gives_threshold : (s : List ℕ) → Gives GoodThreshold (threshold_at s)
unfolding threshold_at
gives_threshold s = gives_then Some GoodThreshold (byte_at s) _ (gives_byte s) (λ tag u. gives_as tag s)

-- ---- signatures
abbrev OndexFits : Siger → Type 0
OndexFits x = ondex_fits x ≡ true

abbrev Ondex : Bool → ℕ → Type 0
Ondex dual n = either dual (eqb n 0) ≡ true

gives_ondex : (dual : Bool) (s : List ℕ) → Gives (Ondex dual) (ondex_at dual s)
unfolding ondex_at
gives_ondex dual s = gives_then Some (Ondex dual) (num_at 4 s) _ (gives_number 4 s) (λ n u. gives_classed (Ondex dual) (either dual (eqb n 0)) n (λ e. e))

gives_siger : (s : List ℕ) → Gives OndexFits (siger_at s)
unfolding siger_at
gives_siger s =
    gives_then Some OndexFits (byte_at s) _ (gives_byte s)
    (λ code u. gives_then Some OndexFits (num_at 4 s) _ (gives_number 4 s)
    (λ index v. gives_then Some OndexFits (flag_at s) _ (gives_flag s)
    (λ dual w. gives_then (Ondex dual) OndexFits (ondex_at dual s) _ (gives_ondex dual s)
    (λ ondex o. gives_then Some OndexFits (raw_at 64 s) _ (gives_raw 64 s)
    (λ raw x. gives_then Some OndexFits (flag_at s) _ (gives_flag s)
    (λ verified y. gives_then Some OndexFits (flag_at s) _ (gives_flag s)
    (λ matches z. gives_got OndexFits _ o)))))))

abbrev pub GoodSigers : Sigers → Type 0
GoodSigers l = verification.shape_of l ≡ 0

sigers-shape : (xs : List Siger) → Few OndexFits 48 xs → GoodSigers (verification.packed_sigers xs)
unfolding verification.shape_of
sigers-shape xs p = padded-shape ondex_fits zero_siger no_siger zero-siger 48 xs (each_all ondex_fits xs p.0) p.1

pub gives_sigers : (s : List ℕ) → Gives GoodSigers (sigers_at s)
unfolding sigers_at
gives_sigers s =
    gives_then (Few OndexFits 48) GoodSigers (list_at (siger_at s) 48 s) _ (gives_list OndexFits (siger_at s) (gives_siger s) 48 s)
    (λ xs p. gives_got GoodSigers (verification.packed_sigers xs) (sigers-shape xs p))

-- ---- the groups: no fault in any of their fields
pub clear : (ns : List ℕ) → Each (λ n. n ≡ 0) ns → first_fault ns ≡ 0
unfolding first_fault
clear [] e = refl
clear (n ∷ ns) e = let h : n ≡ 0 = e.0 in rw h (clear ns e.1)

pub item_shape_lem : (k : Kind) (x : Item) → Fits k x → item_shape k x ≡ 0
item_shape_lem k x e = rw e

abbrev GoodFirst : Head → Type 0
GoodFirst h = Fits Prefix h.prefix × Fits Said h.said

abbrev GoodLater : Head → Type 0
GoodLater h = later_head h ≡ 0

abbrev GoodOwn : Authority → Type 0
GoodOwn a = own_shape a ≡ 0

abbrev GoodNext : Commitment → Type 0
GoodNext c = next_shape c ≡ 0

first-shape : (h : Head) → GoodFirst h → first_head h ≡ 0
unfolding first_head
first-shape h p = clear _ (item_shape_lem Prefix h.prefix p.0, (item_shape_lem Said h.said p.1, tt))

gives_first : (s : List ℕ) → Gives GoodFirst (first_head_at s)
unfolding first_head_at
gives_first s =
    gives_then (Fits Prefix) GoodFirst (item_at Prefix s) _ (gives_item Prefix s)
    (λ prefix p. gives_then Some GoodFirst (sn_at s) _ (gives_sn s)
    (λ sn u. gives_then (Fits Said) GoodFirst (item_at Said s) _ (gives_item Said s)
    (λ said q. gives_got GoodFirst _ (p, q))))

gives_later : (s : List ℕ) → Gives GoodLater (later_head_at s)
unfolding later_head_at later_head
gives_later s =
    gives_then GoodFirst GoodLater (first_head_at s) _ (gives_first s)
    (λ h p. gives_then (Fits Said) GoodLater (item_at Said s) _ (gives_item Said s)
    (λ prior q. gives_got GoodLater _ (clear _ (first-shape _ p, (item_shape_lem Said prior q, tt)))))

gives_own : (s : List ℕ) → Gives GoodOwn (authority_at s)
unfolding authority_at own_shape
gives_own s =
    gives_then (GoodItems Key) GoodOwn (items_at Key s) _ (gives_items Key s)
    (λ keys p. gives_then GoodThreshold GoodOwn (threshold_at s) _ (gives_threshold s)
    (λ t q. gives_got GoodOwn _ (clear _ (p, (q, tt)))))

gives_next : (s : List ℕ) → Gives GoodNext (commitment_at s)
unfolding commitment_at next_shape
gives_next s =
    gives_then (GoodItems Said) GoodNext (items_at Said s) _ (gives_items Said s)
    (λ next p. gives_then GoodThreshold GoodNext (threshold_at s) _ (gives_threshold s)
    (λ t q. gives_got GoodNext _ (clear _ (p, (q, tt)))))

-- ---- the bodies
abbrev InceptionBody : Body → Type 0
InceptionBody b = (body_shape b ≡ 0) × (config.shape_of b.config ≡ 0)

abbrev RotationBody : Body → Type 0
RotationBody b = (body_shape b ≡ 0) × (items.shape_of Key b.removals ≡ 0)

gives_inception_body : (s : List ℕ) → Gives InceptionBody (inception_body_at s)
unfolding inception_body_at body_shape
gives_inception_body s =
    gives_then GoodOwn InceptionBody (authority_at s) _ (gives_own s)
    (λ a p. gives_then GoodNext InceptionBody (commitment_at s) _ (gives_next s)
    (λ c q. gives_then (GoodItems Key) InceptionBody (items_at Key s) _ (gives_items Key s)
    (λ witnesses r. gives_then Some InceptionBody (num_at 4 s) _ (gives_number 4 s)
    (λ toad u. gives_then GoodConfig InceptionBody (config_at s) _ (gives_config s)
    (λ traits t. gives_got InceptionBody _ (clear _ (p, (q, (r, tt))), t))))))

gives_rotation_body : (s : List ℕ) → Gives RotationBody (rotation_body_at s)
unfolding rotation_body_at body_shape
gives_rotation_body s =
    gives_then GoodOwn RotationBody (authority_at s) _ (gives_own s)
    (λ a p. gives_then GoodNext RotationBody (commitment_at s) _ (gives_next s)
    (λ c q. gives_then (GoodItems Key) RotationBody (items_at Key s) _ (gives_items Key s)
    (λ additions r. gives_then (GoodItems Key) RotationBody (items_at Key s) _ (gives_items Key s)
    (λ removals t. gives_then Some RotationBody (num_at 4 s) _ (gives_number 4 s)
    (λ toad u. gives_got RotationBody _ (clear _ (p, (q, (r, tt))), t))))))

-- ---- the records
abbrev GoodEvent : Event → Type 0
GoodEvent e = event_shape e ≡ 0

abbrev event_of_lem : Ilk → Head → Body → ℕ → Sigers → Sigers → Event
event_of_lem ilk h b anchors sigs receipts = record { ilk = ilk; head = h; body = b; anchors = anchors; sigs = sigs; receipts = receipts }

-- an event is well shaped where it is so with any well shaped signatures
gives_tail : (ilk : Ilk) (h : Head) (b : Body) (s : List ℕ)
    → ((anchors : ℕ) (sigs receipts : Sigers) → signed_shape (event_of_lem ilk h b anchors sigs receipts) ≡ 0 → GoodEvent (event_of_lem ilk h b anchors sigs receipts))
    → Gives GoodEvent (tail_at ilk h b s)
unfolding tail_at signed_shape
gives_tail ilk h b s good =
    gives_then Some GoodEvent (num_at 4 s) _ (gives_number 4 s)
    (λ anchors u. gives_then GoodSigers GoodEvent (sigers_at s) _ (gives_sigers s)
    (λ sigs p. gives_then GoodSigers GoodEvent (sigers_at s) _ (gives_sigers s)
    (λ receipts q. gives_ended GoodEvent s (event_of_lem ilk h b anchors sigs receipts) (good anchors sigs receipts (clear _ (p, (q, tt)))))))

gives_inception : (s : List ℕ) → Gives GoodEvent (inception_at s)
unfolding inception_at event_shape
gives_inception s =
    gives_then GoodFirst GoodEvent (first_head_at s) _ (gives_first s)
    (λ h p. gives_then InceptionBody GoodEvent (inception_body_at s) _ (gives_inception_body s)
    (λ b q. gives_tail Inception h b s (λ anchors sigs receipts r. clear _ (first-shape h p, (q.0, (q.1, (r, tt)))))))

gives_rotation : (s : List ℕ) → Gives GoodEvent (rotation_at s)
unfolding rotation_at event_shape
gives_rotation s =
    gives_then GoodLater GoodEvent (later_head_at s) _ (gives_later s)
    (λ h p. gives_then RotationBody GoodEvent (rotation_body_at s) _ (gives_rotation_body s)
    (λ b q. gives_tail Rotation h b s (λ anchors sigs receipts r. clear _ (p, (q.0, (q.1, (r, tt)))))))

gives_interaction : (s : List ℕ) → Gives GoodEvent (interaction_at s)
unfolding interaction_at event_shape
gives_interaction s =
    gives_then GoodLater GoodEvent (later_head_at s) _ (gives_later s)
    (λ h p. gives_tail Interaction h no_body s (λ anchors sigs receipts r. clear _ (p, (r, tt))))

-- ---- a snapshot
abbrev GoodState : KeyState → Type 0
GoodState s = state_shape s ≡ 0

abbrev pub Latest : ℕ → Type 0
Latest n = latest_shape n ≡ 0

pub gives_latest : (s : List ℕ) → Gives Latest (latest_at s)
unfolding latest_at
gives_latest s = gives_then Some Latest (byte_at s) _ (gives_byte s) (λ n u. gives_classed Latest (leb n 2) n (λ e. rw e))

gives_snapshot : (s : List ℕ) → Gives GoodState (snapshot_at s)
unfolding snapshot_at state_shape state_head state_tail
gives_snapshot s =
    gives_then GoodFirst GoodState (first_head_at s) _ (gives_first s)
    (λ h p. gives_then Latest GoodState (latest_at s) _ (gives_latest s)
    (λ latest l. gives_then GoodOwn GoodState (authority_at s) _ (gives_own s)
    (λ own a. gives_then GoodNext GoodState (commitment_at s) _ (gives_next s)
    (λ next c. gives_then (GoodItems Key) GoodState (items_at Key s) _ (gives_items Key s)
    (λ witnesses w. gives_then Some GoodState (num_at 4 s) _ (gives_number 4 s)
    (λ toad u. gives_then GoodConfig GoodState (config_at s) _ (gives_config s)
    (λ traits t. gives_then Some GoodState (flag_at s) _ (gives_flag s)
    (λ transferable v. gives_then Some GoodState (sn_at s) _ (gives_sn s)
    (λ sn x. gives_then (Fits Said) GoodState (item_at Said s) _ (gives_item Said s)
    (λ said d. gives_ended GoodState s _
    (let head = clear _ (item_shape_lem Prefix h.prefix p.0, (item_shape_lem Said h.said p.1, (l, tt))) in
    let tail = clear _ (w, (t, (item_shape_lem Said said d, tt))) in
    clear _ (head, (a, (c, (tail, tt)))))))))))))))

-- ---- whatever the mark
as_event_lem : (x : Parse Event) → Outcome GoodEvent x → Shaped (as_event x)
as_event_lem (got e n) p = p
as_event_lem (bad r) p = let h = p.0 in (omega arith, p.1)

as_snapshot_lem : (x : Parse KeyState) → Outcome GoodState x → Shaped (as_snapshot x)
as_snapshot_lem (got s n) p = p
as_snapshot_lem (bad r) p = let h = p.0 in (omega arith, p.1)

by_mark : (b : Bool) (x y : Content) → Shaped x → Shaped y → Shaped (pick b x y)
by_mark true x y p q = p
by_mark false x y p q = q

pub decoded_shape : (mark : ℕ) (body : List ℕ) → Shaped (content_of mark body)
unfolding content_of Gives event_shape
decoded_shape mark body =
    by_mark (eqb mark 0x4943) (as_event (inception_at body 0)) _ (as_event_lem (inception_at body 0) (gives_inception body 0))
    (by_mark (eqb mark 0x524F) (as_event (rotation_at body 0)) _ (as_event_lem (rotation_at body 0) (gives_rotation body 0))
    (by_mark (eqb mark 0x4958) (as_event (interaction_at body 0)) _ (as_event_lem (interaction_at body 0) (gives_interaction body 0))
    (by_mark (eqb mark 0x4449) (event (delegated DelegatedInception)) _ refl
    (by_mark (eqb mark 0x4452) (event (delegated DelegatedRotation)) _ refl
    (by_mark (eqb mark 0x4B53) (as_snapshot (snapshot_at body 0)) (refusal 2) (as_snapshot_lem (snapshot_at body 0) (gives_snapshot body 0)) (omega arith, omega arith))))))
