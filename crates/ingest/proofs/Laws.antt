-- A settled answer, step by step: what is held after a refusal and after an acceptance, by the event's ilk, and from sets of places
-- to lists of signatures. Assumes nothing.
use mathlib.Core.Path.{◌≡◌, refl, sym, ◌∙◌, ap, ap₂}
use mathlib.Core.Bool.{Bool, true, false}
use mathlib.Core.List.{List, ◌∷◌, []}
use Prim.Native.Nat.{ℕ}
use Rattle.lists.specs.Lists.{pick}
use Rattle.lists.proofs.Facts.{clash}
use Rattle.answer.specs.declared.Answer.{Answer}
use Rattle.answer.specs.declared.Refusal.{Refusal}
use Rattle.answer.specs.Answer.{accepted, refused}
use Rattle.answer.specs.Refusal.{answer_of}
use Rattle.answer.proofs.Laws.{Clean, clean_first, past, last}
use Rattle.answer.proofs.Results.{refuses, stops, goes_on}
use Rattle.item.specs.declared.Item.{Item}
use Rattle.item.specs.declared.Kind.TheVariants.{Prefix}
use Rattle.item.specs.Item.{item_fits}
use Rattle.items.specs.declared.Items.{Items}
use Rattle.items.specs.Items.{packed}
use Rattle.member_set.specs.Members.{Change}
use Rattle.verification.specs.Verification.{signatures}
use Rattle.evidence.specs.declared.Evidence.{Evidence}
use Rattle.evidence.specs.Evidence.{evidence_of, signed_on, exposed_on, receipted_on}
use Rattle.evidence.proofs.Laws.{signed_is, exposed_is, receipted_is}
use Rattle.event.specs.declared.Ilk.{Ilk}
use Rattle.event.specs.declared.Ilk.TheVariants.{Inception, Rotation, Interaction, DelegatedInception, DelegatedRotation}
use Rattle.event.specs.declared.Head.{Head}
use Rattle.event.specs.declared.Body.{Body}
use Rattle.event.specs.declared.Event.{Event}
use Rattle.state.specs.declared.KeyState.{KeyState}
use Rattle.state.specs.declared.Holder.{Holder}
use Rattle.state.specs.State.{may_move, is_held, holding}
use Rattle.shape.specs.Event.{event_shape}
use Rattle.shape.specs.State.{holder_shape}
use Rattle.rules.specs.Rules.{prefix_shape, of_prefix, inception, rotation, interaction, changed}
use Rattle.ingest.specs.Judgement.{incepted, rotates, interacts, on_nothing, where_live, on_state, judgement, next_as, next_state, shaped, settled}

-- ---- a refusal leaves the holder, an acceptance holds the next state
pub refuses_as : (h : Holder) (r : Refusal) (whole : Answer) (after : Holder) → answer_of r ≡ whole → record { answer = answer_of r; holder = h } ≡ settled h whole after
refuses_as h r whole after e = rw (← e, refuses r)

pub goes_as : (h : Holder) (s t : KeyState) (whole : Answer) → accepted ≡ whole → s ≡ t → record { answer = accepted; holder = holding s } ≡ settled h whole (holding t)
goes_as h s t whole e f = rw (← e, f)

-- the list of a change that passes
pub new_list : (l : Items) (whole : Answer) (new : List Item) → record { answer = accepted; list = l } ≡ changed whole new → (accepted ≡ whole) × (l ≡ packed new)
new_list l whole new e =
    let w : accepted ≡ whole = ap (λ (d : Change). d.answer) e in
    (w, ap (λ (d : Change). d.list) e ∙ rw (← w))

-- ---- from sets of places to lists of signatures
module _ (e : Event) (keys next : ℕ) (v : Evidence) (is : v ≡ evidence_of keys next (signatures e.sigs) (signatures e.receipts)) where
  signed_by_lem : (t : _) → signed_on t v ≡ Rattle.authority.specs.Authority.signed_by t keys (signatures e.sigs)
  signed_by_lem t = ap (signed_on t) is ∙ signed_is keys next (signatures e.sigs) (signatures e.receipts) t

  exposed_by_lem : (t : _) → exposed_on t v ≡ Rattle.authority.specs.Authority.exposed_by t keys next (signatures e.sigs)
  exposed_by_lem t = ap (exposed_on t) is ∙ exposed_is keys next (signatures e.sigs) (signatures e.receipts) t

  receipted_by_lem : (toad : ℕ) → receipted_on toad v ≡ (λ n. Rattle.authority.specs.Authority.receipted_by toad n (signatures e.receipts))
  receipted_by_lem toad = ap (receipted_on toad) is ∙ receipted_is keys next (signatures e.sigs) (signatures e.receipts) toad

pub incept_lists : (e : Event) (v : Evidence) → v ≡ evidence_of e.body.authority.keys.count 0 (signatures e.sigs) (signatures e.receipts)
    → inception e.head e.body e.anchors (signed_on e.body.authority.threshold v) (receipted_on e.body.toad v) ≡ incepted e
incept_lists e v is =
    ap₂ (λ (x : Answer) (r : ℕ → Answer). inception e.head e.body e.anchors x r)
    (signed_by_lem e e.body.authority.keys.count 0 v is e.body.authority.threshold)
    (receipted_by_lem e e.body.authority.keys.count 0 v is e.body.toad)

pub rotate_lists : (s : KeyState) (e : Event) (v : Evidence)
    → v ≡ evidence_of e.body.authority.keys.count s.commitment.next.count (signatures e.sigs) (signatures e.receipts)
    → rotation s e.head e.body (signed_on e.body.authority.threshold v) (exposed_on s.commitment.threshold v) (receipted_on e.body.toad v) ≡ rotates s e
rotate_lists s e v is =
    let keys = e.body.authority.keys.count in
    let next = s.commitment.next.count in
    let t = e.body.authority.threshold in
    ap₂ (λ (x : Answer) (r : ℕ → Answer). rotation s e.head e.body x (exposed_on s.commitment.threshold v) r) (signed_by_lem e keys next v is t) (receipted_by_lem e keys next v is e.body.toad)
    ∙ ap (λ (y : Answer). rotation s e.head e.body (Rattle.authority.specs.Authority.signed_by t keys (signatures e.sigs)) y (λ n. Rattle.authority.specs.Authority.receipted_by e.body.toad n (signatures e.receipts))) (exposed_by_lem e keys next v is s.commitment.threshold)

pub interact_lists : (s : KeyState) (e : Event) (v : Evidence) → v ≡ evidence_of s.authority.keys.count 0 (signatures e.sigs) (signatures e.receipts)
    → interaction s e.head (signed_on s.authority.threshold v) (receipted_on s.witnessing.toad v) ≡ interacts s e
interact_lists s e v is =
    ap₂ (λ (x : Answer) (r : ℕ → Answer). interaction s e.head x r)
    (signed_by_lem e s.authority.keys.count 0 v is s.authority.threshold)
    (receipted_by_lem e s.authority.keys.count 0 v is s.witnessing.toad)

-- ---- a judgement that passes has no details
pub clean_inception : (h : Head) (b : Body) (anchors : ℕ) (signed : Answer) (receipted : ℕ → Answer) → Clean (inception h b anchors signed receipted)
unfolding inception
clean_inception h b anchors signed receipted = clean_first _

clean_nothing : (k : Ilk) (e : Event) → Clean (on_nothing k e)
clean_nothing Inception e = clean_inception _ _ _ _ _
clean_nothing Rotation e = λ p. clash (sym p)
clean_nothing Interaction e = λ p. clash (sym p)
clean_nothing DelegatedInception e = λ p. clash (sym p)
clean_nothing DelegatedRotation e = λ p. clash (sym p)

clean_live : (k : Ilk) (s : KeyState) (e : Event) → Clean (where_live k s e)
unfolding rotation interaction
clean_live Inception s e = λ p. clash (sym p)
clean_live Rotation s e = clean_first _
clean_live Interaction s e = clean_first _
clean_live DelegatedInception s e = λ p. clash (sym p)
clean_live DelegatedRotation s e = λ p. clash (sym p)

either_clean : (t : Bool) (x y : Answer) → Clean x → Clean y → Clean (pick t x y)
either_clean true x y p q = p
either_clean false x y p q = q

pub clean_judgement : (h : Holder) (e : Event) → Clean (judgement h e)
unfolding judgement on_state
clean_judgement h e =
    either_clean (is_held h) _ _ (either_clean (may_move h.state) _ _ (clean_live e.ilk h.state e) (λ p. clash (sym p))) (clean_nothing e.ilk e)

-- ---- behind a prefix that is one
pub of_good : (prefix : Item) (x : Answer) → item_fits Prefix prefix ≡ true → Clean x → of_prefix prefix x ≡ x
of_good prefix x fits clean =
    let shaped-well : prefix_shape prefix ≡ refused 0 0 0 = rw fits in
    past (refused 0 0 0) (prefix_shape prefix) (x ∷ []) (sym shaped-well) refl ∙ sym (last x x clean refl)

-- a live inception's checks
pub incept_is : (e : Event) (v : Evidence) → v ≡ evidence_of e.body.authority.keys.count 0 (signatures e.sigs) (signatures e.receipts)
    → item_fits Prefix e.head.prefix ≡ true
    → of_prefix e.head.prefix (inception e.head e.body e.anchors (signed_on e.body.authority.threshold v) (receipted_on e.body.toad v)) ≡ incepted e
incept_is e v is fits = of_good e.head.prefix _ fits (clean_inception _ _ _ _ _) ∙ incept_lists e v is

-- ---- an entry: the holder's shape, the event's shape, then x
module _ (h : Holder) (e : Event) (x : Answer) where
  pub holder_stops : (r : Refusal) → answer_of r ≡ refused (holder_shape h) 0 0 → answer_of r ≡ shaped h e x
  holder_stops r f = stops r _ _ f

  module _ (held : accepted ≡ refused (holder_shape h) 0 0) where
    pub event_stops : (r : Refusal) → answer_of r ≡ refused (event_shape e) 0 0 → answer_of r ≡ shaped h e x
    event_stops r f = stops r _ _ f ∙ sym (goes_on _ _ held)

    pub shaped_well : accepted ≡ refused (event_shape e) 0 0 → Clean x → x ≡ shaped h e x
    shaped_well f clean = last x x clean refl ∙ sym (goes_on _ _ f) ∙ sym (goes_on _ _ held)

pub good_shape : (h : Holder) (e : Event) (x : Answer) (after : Holder) (n : ℕ) → n ≡ holder_shape h → n ≡ 0 → (m : ℕ) → m ≡ event_shape e → m ≡ 0 → Clean x
    → settled h x after ≡ settled h (shaped h e x) after
good_shape h e x after n en zn m em zm clean =
    let none : (k l : ℕ) → k ≡ l → k ≡ 0 → accepted ≡ refused l 0 0 = λ k l f z. ap (λ (i : ℕ). refused i 0 0) (sym z ∙ f) in
    ap (λ (y : Answer). settled h y after) (shaped_well h e x (none n (holder_shape h) en zn) (none m (event_shape e) em zm) clean)
