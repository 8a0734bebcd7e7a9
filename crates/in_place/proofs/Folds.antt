-- What the unchecked fold of a record leaves. Assumes nothing.
--     list_packed, list_few     the new list of witnesses
--     fold_turned, fold_unfit, roll_..    a body by its mark, a rotation
--     fold_body, fold_snapshot, fold_short, fold_first    from the body's answer to the call's
--     asked_..                  what is asked
use mathlib.Core.Path.{◌≡◌, refl, sym, ◌∙◌, ap}
use mathlib.Core.Bool.{Bool, true, false}
use mathlib.Core.List.{List, []}
use Prim.Native.Nat.{ℕ, ◌-◌, ◌≤◌}
use native.Mathlib.Omega.{arith}
use borrow.Author.Tests.{eq-eqb, ne_eqb, leb-true}
use lib.Dec.{eqb, leb}
use lib.ListN.{length, take, drop}
use Rattle.lists.specs.Lists.{pick}
use Rattle.lists.proofs.Facts.{clash}
use Rattle.number.specs.declared.Number.{Number}
use Rattle.number.specs.Number.{small}
use Rattle.answer.specs.declared.Answer.{Answer}
use Rattle.answer.specs.declared.Refusal.{Refusal}
use Rattle.answer.specs.Answer.{refused, accepted, passes}
use Rattle.answer.specs.Refusal.{answer_of}
use Rattle.answer.proofs.Results.{refuses}
use Rattle.item.specs.declared.Item.{Item}
use Rattle.items.specs.declared.Items.{Items}
use Rattle.items.specs.Items.{packed}
use Rattle.member_set.specs.Members.{Change, change_of}
use Rattle.event.specs.declared.Ilk.TheVariants.{Rotation, Interaction, DelegatedInception, DelegatedRotation}
use Rattle.event.specs.declared.Event.{Event}
use Rattle.state.specs.declared.KeyState.{KeyState}
use Rattle.state.specs.declared.Holder.{Holder}
use Rattle.state.specs.State.{holding, rotated, is_held}
use Rattle.empty.specs.Empty.{nothing}
use Rattle.shape.specs.State.{holder_shape}
use Rattle.rules.specs.Rules.{new_witnesses}
use Rattle.ingest.specs.Judgement.{turned_away}
use Rattle.fold.specs.Fold.{foldable, folded_as}
use Rattle.layout.specs.Records.{Content, event, snapshot, delegated, First, content_of, record_of, truncated, first_of}
use Rattle.parts.specs.Parts.{head_of, body_of}
use Rattle.record.specs.declared.EventMarks.{EventMarks}
use Rattle.record.specs.declared.StateMarks.{StateMarks}
use Rattle.record.specs.Marks.{state_of, event_of}
use Rattle.receive.proofs.Laws.{good_holder}
use Rattle.fold_record.specs.Folded.{body_folded}
use Rattle.fold_record.specs.Steps.{fold_of, content_folded, folded_by}
use Rattle.fold_record.proofs.Laws.{good_before}
use Rattle.found.specs.Kept.{none, one, state_in, kept_in}
use Rattle.in_place.specs.Calls.{Left, settled_in, on_state, folded_first, body_folded_in, folded_in, asked}
use Rattle.in_place.specs.Steps.{left, took, instead_of, deciding}
use Rattle.in_place.proofs.Plain.{state_plain}
use Rattle.in_place.proofs.Held.{turned, stands, accepts, on_state_as, instead_left, enough_decides}

-- ---- the new list of witnesses: "A resulting witness list above 16 is refused (38)."
module _ (l : Items) (new : List Item) where
  abbrev told : Bool → Change
  told t = pick t (record { answer = accepted; list = packed new }) (record { answer = refused 38 (length new) 0; list = packed [] })

  fits : (t : Bool) → record { answer = accepted; list = l } ≡ told t → (l ≡ packed new) × (t ≡ true)
  fits true p = (ap (λ (c : Change). c.list) p, refl)
  fits false p = absurd (omega (arith, ap (λ (c : Change). c.answer.number) p))

  pub list_packed : record { answer = accepted; list = l } ≡ change_of new → l ≡ packed new
  unfolding change_of
  list_packed p = (fits (leb (length new) 16) p).0

  pub list_few : record { answer = accepted; list = l } ≡ change_of new → l.count ≤ 16
  unfolding change_of
  list_few p =
      let few : length new ≤ 16 = leb-true (length new) 16 (fits (leb (length new) 16) p).1 in
      rw (list_packed p) few

-- ---- a record's body by its mark
module _ (buf : List ℕ) (used : ℕ) (mark : ℕ) (s : List ℕ) where
  module _ (h : Holder) where
    abbrev turns : ℕ → Type 0
    turns n = left (refused n 0 0) buf used ≡ settled_in buf used (content_folded h (content_of mark s))

    as_read : (c : Content) (n : ℕ) → c ≡ content_of mark s → left (refused n 0 0) buf used ≡ settled_in buf used (content_folded h c) → turns n
    as_read c n p e = e ∙ ap (λ (d : Content). settled_in buf used (content_folded h d)) p

    fold_turned : (e : Event) (n : ℕ) → event e ≡ content_of mark s → eqb n 0 ≡ false → foldable e.ilk h e ≡ refused n 0 0 → turns n
    fold_turned e n p z q = as_read (event e) n p (turned buf used h (holding (folded_as e.ilk h.state e)) (foldable e.ilk h e) n z q)

    pub fold_delegated_inception : event (delegated DelegatedInception) ≡ content_of mark s → turns 6
    fold_delegated_inception p = fold_turned (delegated DelegatedInception) 6 p refl refl

    pub fold_delegated_rotation : event (delegated DelegatedRotation) ≡ content_of mark s → turns 6
    fold_delegated_rotation p = fold_turned (delegated DelegatedRotation) 6 p refl refl

    pub fold_unfit : (k : KeyState) → snapshot k ≡ content_of mark s → turns 2
    fold_unfit k p = as_read (snapshot k) 2 p (turned buf used h h (refused 2 0 0) 2 refl refl)

  -- "RO and IX on nothing 8"
  pub fold_no_rotation : (m : EventMarks) → event (event_of Rotation s m) ≡ content_of mark s → turns nothing 8
  unfolding is_held
  fold_no_rotation m p = fold_turned nothing (event_of Rotation s m) 8 p refl refl

  pub fold_no_interaction : (m : EventMarks) → event (event_of Interaction s m) ≡ content_of mark s → turns nothing 8
  unfolding is_held
  fold_no_interaction m p = fold_turned nothing (event_of Interaction s m) 8 p refl refl

-- ---- a rotation
module _ (buf : List ℕ) (used : ℕ) (st : KeyState) (s : List ℕ) (m : EventMarks) where
  abbrev new : List Item
  new = new_witnesses st (body_of s m.body)

  pub roll_stands : (r : Refusal) → record { answer = answer_of r; list = packed [] } ≡ change_of new → left (answer_of r) buf used ≡ settled_in buf used (fold_of Rotation (holding st) (event_of Rotation s m))
  unfolding is_held
  roll_stands r p = stands buf used (holding st) (holding (rotated st (head_of s m.head) (body_of s m.body) (packed new))) (change_of new).answer r (ap (λ (c : Change). c.answer) p)

  pub roll_took : (l : Items) → record { answer = accepted; list = l } ≡ change_of new
      → settled_in buf used (took (rotated st (head_of s m.head) (body_of s m.body) l)) ≡ settled_in buf used (fold_of Rotation (holding st) (event_of Rotation s m))
  unfolding is_held
  roll_took l p =
      ap (λ (k : Items). settled_in buf used (took (rotated st (head_of s m.head) (body_of s m.body) k))) (list_packed l new p)
      ∙ accepts buf used (holding st) (rotated st (head_of s m.head) (body_of s m.body) (packed new)) (change_of new).answer (ap (λ (c : Change). c.answer) p)

-- ---- from what the body gets to what the call leaves
module _ (buf : List ℕ) (used : ℕ) (s : List ℕ) where
  -- "1 ends the input"
  pub fold_short : truncated ≡ first_of s → left (instead_of (kept_in buf used) (refused 1 0 0)) buf used ≡ folded_in buf used s
  unfolding folded_in
  fold_short first =
      instead_left buf used 1 (λ z. absurd (omega arith))
      ∙ on_state_as buf used (λ h. folded_first h (first_of s)) (λ h. turned_away h 1) same
    where
      same : (h : Holder) → holder_shape h ≡ 0 → turned_away h 1 ≡ folded_first h (first_of s)
      same h z = good_holder h 0 (sym z) (turned_away h 1) refl ∙ ap (λ (y : First). folded_first h y) first

  module _ (mark : ℕ) where
    -- "a KS is none"
    pub fold_snapshot : mark ≡ 0x4B53 → left (instead_of (kept_in buf used) (refused 2 0 0)) buf used ≡ body_folded_in buf used mark s
    unfolding body_folded_in folded_by
    fold_snapshot ks =
        instead_left buf used 2 (λ z. absurd (omega arith))
        ∙ on_state_as buf used (λ h. body_folded h mark s) (λ h. turned_away h 2) same
      where
        same : (h : Holder) → holder_shape h ≡ 0 → turned_away h 2 ≡ body_folded h mark s
        same h z =
            let e : turned_away h 2 ≡ folded_by h mark s = rw (eq-eqb mark 0x4B53 ks) in
            e ∙ good_before h 0 (sym z) refl mark s

    pub fold_body : (mark ≡ 0x4B53 → ⊥) → (n : ℕ) → n ≡ deciding (length s)
        → on_state buf used (λ h. content_folded h (content_of mark (take n s))) (kept_in buf used) ≡ body_folded_in buf used mark s
    unfolding body_folded_in folded_by
    fold_body ne n en =
        on_state_as buf used (λ h. body_folded h mark s) (λ h. content_folded h (content_of mark (take n s))) same
      where
        same : (h : Holder) → holder_shape h ≡ 0 → content_folded h (content_of mark (take n s)) ≡ body_folded h mark s
        same h z =
            let e : content_folded h (content_of mark s) ≡ folded_by h mark s = rw (ne_eqb mark 0x4B53 ne) in
            ap (λ (c : Content). content_folded h c) (enough_decides s n en mark) ∙ e ∙ good_before h 0 (sym z) refl mark s

-- the first record gets what its body gets
pub fold_first : (buf : List ℕ) (used : ℕ) (s : List ℕ) (mark next : ℕ) → record_of mark (content_of mark (take (next - 4) (drop 4 s))) next ≡ first_of s
    → body_folded_in buf used mark (take (next - 4) (drop 4 s)) ≡ folded_in buf used s
unfolding folded_in body_folded_in body_folded
fold_first buf used s mark next first = ap (λ (y : First). on_state buf used (λ h. folded_first h y) (kept_in buf used)) first

-- ---- ask
module _ (s : List ℕ) where
  pub asked_state : (m : StateMarks) (b : Number) → one (holding (state_of (drop 4 s) m)) ≡ state_in s → b ≡ small 0 → record { number = 0; a = m.head.sn; b = b } ≡ asked s
  unfolding asked is_held
  asked_state m b e eb = rw (eb, ← e)

  pub asked_nothing : none 0 ≡ state_in s → refused 8 0 0 ≡ asked s
  unfolding asked is_held
  asked_nothing e = rw (← e)

  pub asked_bad : (r : Refusal) → none (answer_of r).number ≡ state_in s → answer_of r ≡ asked s
  unfolding asked
  asked_bad r e = state_plain s r e ∙ rw (← e, refuses r)
