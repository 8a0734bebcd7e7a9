-- What the used bytes hold and what was read of a record, for the checked path and the unchecked fold alike. Assumes nothing.
--     run                              the body of the record in the used bytes
--     refused_left, turned_left        a refusal touches nothing
--     stands, accepts                  what a check answered, by its refusal or its acceptance
--     unread                           a body that could not be read
--     unkept, kept_told, on_state_as, instead_left    what is held
--     enough_..                        how much of a body is looked at
--     parts_of, parts_as                the parts of what is left
use mathlib.Core.Path.{◌≡◌, refl, sym, ◌∙◌, ap}
use mathlib.Core.List.{List, ◌∷◌, []}
use mathlib.Core.Bool.{Bool, true, false}
use Prim.Native.Nat.{ℕ, zero, suc, min, ◌-◌, ◌<◌, ◌≤◌}
use native.Mathlib.Omega.{arith}
use Rattle.std.proofs.Math.Nat.{min-eq_left, min-eq_right}
use native.Mathlib.Nat.{sub-zero}
use borrow.Author.Tests.{ne_eqb, ltb-true, ltb-false}
use lib.Dec.{eqb, ltb}
use lib.ListN.{length, take, drop, length-take}
use lib.Seq.{take-length}
use Rattle.lists.specs.Lists.{pick}
use Rattle.answer.specs.declared.Answer.{Answer}
use Rattle.answer.specs.declared.Refusal.{Refusal}
use Rattle.answer.specs.Answer.{refused, accepted}
use Rattle.answer.specs.Refusal.{answer_of}
use Rattle.answer.proofs.Results.{refuses}
use Rattle.state.specs.declared.KeyState.{KeyState}
use Rattle.state.specs.declared.Holder.{Holder}
use Rattle.state.specs.State.{holding}
use Rattle.shape.specs.State.{holder_shape}
use Rattle.ingest.specs.declared.Offered.{Offered}
use Rattle.ingest.specs.Judgement.{turned_away, settled}
use Rattle.layout.specs.Records.{Content, refusal, content_of}
use Rattle.decoded.proofs.Bound.{first-bytes}
use Rattle.canonical.specs.Bytes.{Bytes}
use Rattle.resume.proofs.Decoded.{bytes_take}
use Rattle.receive.specs.Judged.{content_judged}
use Rattle.fold_record.specs.Steps.{content_folded}
use Rattle.found.specs.Kept.{Kept, none, one, kept_in}
use Rattle.found.specs.Found.{Small}
use Rattle.in_place.specs.Calls.{Left, settled_in, on_state}
use Rattle.in_place.specs.Steps.{Body, left, took, instead_of, deciding}
use Rattle.in_place.proofs.Plain.{content_plain, kept_plain, kept_shape}
use Rattle.in_place.proofs.Written.{small_bytes}

-- ---- a run of the used bytes
take_none : {A : Type 0} (n : ℕ) → take {A = A} n [] ≡ []
take_none zero = refl
take_none (suc n) = refl

run : {A : Type 0} (k n : ℕ) (s : List A) → take (n - k) (drop k s) ≡ drop k (take n s)
run zero n s = rw sub-zero
run (suc k) zero s = let z : 0 - suc k ≡ 0 = omega arith in rw z
run (suc k) (suc n) [] = take_none (suc n - suc k)
run (suc k) (suc n) (x ∷ s) = let e : suc n - suc k ≡ n - k = omega arith in rw e (run k n s)

pub run_4 : (buf : List ℕ) (used : ℕ) → take (used - 4) (drop 4 buf) ≡ drop 4 (take used buf)
run_4 buf used = run 4 used buf

module _ (buf : List ℕ) (used : ℕ) where
  -- ---- refusals
  refusal_left : (x : Answer) (h : Holder) → (x.number ≡ 0 → ⊥) → left x buf used ≡ settled_in buf used (record { answer = x; holder = h })
  unfolding settled_in
  refusal_left x h ne = rw (ne_eqb x.number 0 ne)

  pub refused_left : (r : Refusal) (h : Holder) → left (answer_of r) buf used ≡ settled_in buf used (record { answer = answer_of r; holder = h })
  unfolding settled_in
  refused_left r h = rw (refuses r)

  pub turned_left : (h : Holder) (n : ℕ) → (n ≡ 0 → ⊥) → left (refused n 0 0) buf used ≡ settled_in buf used (turned_away h n)
  turned_left h n ne = refusal_left (refused n 0 0) h ne

  -- ---- what a check answered
  pub turned : (h next : Holder) (x : Answer) (n : ℕ) → eqb n 0 ≡ false → x ≡ refused n 0 0 → left (refused n 0 0) buf used ≡ settled_in buf used (settled h x next)
  unfolding settled_in
  turned h next x n z e = rw (e, z)

  pub stands : (h next : Holder) (x : Answer) (r : Refusal) → answer_of r ≡ x → left (answer_of r) buf used ≡ settled_in buf used (settled h x next)
  stands h next x r e = refused_left r (settled h (answer_of r) next).holder ∙ ap (λ (y : Answer). settled_in buf used (settled h y next)) e

  pub accepts : (h : Holder) (s : KeyState) (x : Answer) → accepted ≡ x → settled_in buf used (took s) ≡ settled_in buf used (settled h x (holding s))
  accepts h s x e = ap (λ (y : Answer). settled_in buf used (settled h y (holding s))) e

  -- ---- a body that could not be read
  unread : (f : Content → Offered) (h : Holder) (mark : ℕ) (s : List ℕ) (r : Refusal) → refusal (answer_of r).number ≡ content_of mark s
      → f (refusal (answer_of r).number) ≡ turned_away h (answer_of r).number
      → left (answer_of r) buf used ≡ settled_in buf used (f (content_of mark s))
  unread f h mark s r e away =
      refused_left r h
      ∙ ap (λ (x : Answer). settled_in buf used (record { answer = x; holder = h })) (content_plain mark s r e)
      ∙ ap (settled_in buf used) (sym away)
      ∙ ap (λ (c : Content). settled_in buf used (f c)) e

  module _ (h : Holder) (mark : ℕ) (s : List ℕ) where
    pub offer_unread : (r : Refusal) → refusal (answer_of r).number ≡ content_of mark s → left (answer_of r) buf used ≡ settled_in buf used (content_judged h (content_of mark s))
    offer_unread r e = unread (content_judged h) h mark s r e refl

    pub fold_unread : (r : Refusal) → refusal (answer_of r).number ≡ content_of mark s → left (answer_of r) buf used ≡ settled_in buf used (content_folded h (content_of mark s))
    fold_unread r e = unread (content_folded h) h mark s r e refl

  -- ---- what is held
  module _ (f : Holder → Offered) where
    none_left : (r : Refusal) → left (refused (answer_of r).number 0 0) buf used ≡ on_state buf used f (none (answer_of r).number)
    none_left r = rw (refuses r)

    unkept : (r : Refusal) → none (answer_of r).number ≡ kept_in buf used → left (answer_of r) buf used ≡ on_state buf used f (kept_in buf used)
    unkept r e = ap (λ (x : Answer). left x buf used) (kept_plain buf used r e) ∙ none_left r ∙ ap (on_state buf used f) e

    pub kept_told : (h : Holder) → one h ≡ kept_in buf used → settled_in buf used (f h) ≡ on_state buf used f (kept_in buf used)
    kept_told h e = ap (on_state buf used f) e

    -- a state that is kept has a good shape
    pub on_state_as : (g : Holder → Offered) → ((h : Holder) → holder_shape h ≡ 0 → g h ≡ f h) → on_state buf used g (kept_in buf used) ≡ on_state buf used f (kept_in buf used)
    on_state_as g same =
        ap (λ (o : Offered). pick (eqb (kept_in buf used).number 0) (settled_in buf used o) (left (refused (kept_in buf used).number 0 0) buf used)) (same (kept_in buf used).holder (kept_shape buf used))

  module _ (mark : ℕ) (s : List ℕ) where
    pub offer_unkept : (r : Refusal) → none (answer_of r).number ≡ kept_in buf used
        → left (answer_of r) buf used ≡ on_state buf used (λ h. content_judged h (content_of mark s)) (kept_in buf used)
    offer_unkept r e = unkept (λ h. content_judged h (content_of mark s)) r e

    pub fold_unkept : (r : Refusal) → none (answer_of r).number ≡ kept_in buf used
        → left (answer_of r) buf used ≡ on_state buf used (λ h. content_folded h (content_of mark s)) (kept_in buf used)
    fold_unkept r e = unkept (λ h. content_folded h (content_of mark s)) r e

  pub instead_refused : (x : Answer) (r : Refusal) → none (answer_of r).number ≡ kept_in buf used → answer_of r ≡ instead_of (kept_in buf used) x
  instead_refused x r e = kept_plain buf used r e ∙ rw (← e, refuses r)

  -- bytes that hold no state come before a record that is not read
  pub instead_left : (n : ℕ) → (n ≡ 0 → ⊥) → left (instead_of (kept_in buf used) (refused n 0 0)) buf used ≡ on_state buf used (λ h. turned_away h n) (kept_in buf used)
  instead_left n ne = by_test (eqb (kept_in buf used).number 0)
    where
      by_test : (t : Bool) → left (pick t (refused n 0 0) (refused (kept_in buf used).number 0 0)) buf used
          ≡ pick t (settled_in buf used (turned_away (kept_in buf used).holder n)) (left (refused (kept_in buf used).number 0 0) buf used)
      by_test true = turned_left (kept_in buf used).holder n ne
      by_test false = refl

pub instead_told : (x : Answer) (k : Kept) → one k.holder ≡ k → x ≡ instead_of k x
instead_told x k e = let z : (one k.holder).number ≡ k.number = ap (λ (y : Kept). y.number) e in rw (← z)

-- ---- how much of a body is looked at
few : (n : ℕ) → (deciding n ≤ n) × (deciding n ≤ 10086)
unfolding deciding
few n = by_test (ltb n 10086) refl
  where
    by_test : (t : Bool) → ltb n 10086 ≡ t → (pick t n 10086 ≤ n) × (pick t n 10086 ≤ 10086)
    by_test true e = let p = ltb-true n 10086 e in (omega arith, omega arith)
    by_test false e = let p = ltb-false n 10086 e in (p, omega arith)

pub enough_is : (n : ℕ) → min n 10086 ≡ deciding n
unfolding deciding
enough_is n = by_test (ltb n 10086) refl
  where
    by_test : (t : Bool) → ltb n 10086 ≡ t → min n 10086 ≡ pick t n 10086
    by_test true e = min-eq_left (let p = ltb-true n 10086 e in omega arith)
    by_test false e = min-eq_right (ltb-false n 10086 e)

pub enough_within : (n : ℕ) → deciding n ≤ n
enough_within n = (few n).0

bytes_small : (s : List ℕ) → Bytes s → Small s
bytes_small [] b i = omega arith
bytes_small (x ∷ s) b zero = b.0
bytes_small (x ∷ s) b (suc i) = bytes_small s b.1 i

module _ (s : List ℕ) (m : ℕ) (e : m ≡ deciding (length s)) where
  pub enough_body : Small s → Body (take m s)
  enough_body small =
      let most : m ≤ 10086 = rw e (few (length s)).1 in
      let long : length (take m s) ≤ 65535 = simp length-take (omega arith) in
      record { long = long; small = bytes_small (take m s) (bytes_take m s (small_bytes s small)) }

  -- the bytes that are looked at decide
  pub enough_decides : (mark : ℕ) → content_of mark (take m s) ≡ content_of mark s
  unfolding deciding
  enough_decides mark = rw e (by_test (ltb (length s) 10086) refl)
    where
      by_test : (t : Bool) → ltb (length s) 10086 ≡ t → content_of mark (take (pick t (length s) 10086) s) ≡ content_of mark s
      by_test true p = ap (content_of mark) (take-length s)
      by_test false p = first-bytes mark 10086 s (omega arith) (ltb-false (length s) 10086 p)

-- ---- the parts of what is left
pub parts_of : (x : Answer) (b : List ℕ) (u : ℕ) (l : Left) → left x b u ≡ l → (x ≡ l.answer) × ((b ≡ l.bytes) × (u ≡ l.used))
parts_of x b u l e = (ap (λ (y : Left). y.answer) e, (ap (λ (y : Left). y.bytes) e, ap (λ (y : Left). y.used) e))

pub parts_as : (x y : Left) → x ≡ y → (a : Answer) (b : List ℕ) (u : ℕ) → a ≡ x.answer → b ≡ x.bytes → u ≡ x.used → (a ≡ y.answer) × ((b ≡ y.bytes) × (u ≡ y.used))
parts_as x y e a b u ea eb eu =
    (ea ∙ ap (λ (z : Left). z.answer) e, (eb ∙ ap (λ (z : Left). z.bytes) e, eu ∙ ap (λ (z : Left). z.used) e))
