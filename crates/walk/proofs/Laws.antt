-- The walk, one record at a time. Assumes nothing.
use mathlib.Core.Path.{◌≡◌, refl, sym, ◌∙◌, ap}
use mathlib.Core.Bool.{Bool, true, false}
use mathlib.Core.List.{List, ◌∷◌, []}
use Prim.Native.Nat.{ℕ, ◌+◌, ◌-◌, ◌<◌, ◌≤◌}
use native.Mathlib.Omega.{arith}
use lib.ListN.{length, take, drop, length-drop}
use lib.Seq.{drop-drop, take-length}
use Rattle.lists.specs.Lists.{pick}
use Rattle.runs.specs.Runs.{end_of, kept_of}
use Rattle.answer.specs.declared.Answer.{Answer}
use Rattle.answer.specs.Answer.{passes}
use Rattle.ingest.specs.declared.Offered.{Offered}
use Rattle.layout.specs.Records.{First, first_of, next_in}
use Rattle.receive.specs.Received.{received}
use Rattle.record_log.specs.Log.{given, records_of}
use Rattle.record_log.proofs.Laws.{bounds, records_none, records_next, call_given}
use Rattle.found.specs.Kept.{Kept, kept_in}
use Rattle.in_place.specs.Calls.{Left, on_state, offered_in}
use Rattle.walk.specs.declared.Walked.{Walked}
use Rattle.walk.specs.Walk.{Lent, lent, left_by, after, takes, end_in, walked_in, counted_in}

-- ---- a call leaves what its first record leaves
module _ (buf : List ℕ) (used : ℕ) (s : List ℕ) where
  pub left_first : offered_in buf used s ≡ left_by (lent buf used) (first_of s)
  unfolding offered_in received
  left_first = on (kept_in buf used)
    where
      on : (k : Kept) → on_state buf used (λ h. (received h s).offered) k ≡ on_state buf used (λ h. given h (first_of s)) k
      on k = ap (λ (o : Offered). on_state buf used (λ h. o) k) (call_given k.holder (length s) (first_of s))

-- ---- the place is within, the counts are below it, and what is left comes to what there is
pub record Walking (l₀ : Lent) (s : List ℕ) (l : Lent) (w : Walked) (at : ℕ) : Type 0 where
  pub within : at ≤ length s
  pub few : w.offered ≤ at
  pub fewer : w.accepted ≤ w.offered
  pub ends : end_of after l (records_of (drop at s)) ≡ end_of after l₀ (records_of s)
  pub taken : w.accepted + length (kept_of after takes l (records_of (drop at s))) ≡ length (kept_of after takes l₀ (records_of s))
  pub seen : w.offered + length (records_of (drop at s)) ≡ length (records_of s)

pub walking_start : (l : Lent) (s : List ℕ) → Walking l s l (record { accepted = 0; offered = 0 }) 0
walking_start l s = record { within = omega arith; few = omega arith; fewer = omega arith; ends = refl; taken = omega arith; seen = omega arith }

made : {m n p q : ℕ} → m ≡ n → p ≡ q → ◌≡◌ {A = Walked} (record { accepted = m; offered = p }) (record { accepted = n; offered = q })
made f g = cc

kept_length : (l : Lent) (f : First) (fs : List First) → length (kept_of after takes l (f ∷ fs)) ≡ pick (takes l f) 1 0 + length (kept_of after takes (after l f) fs)
unfolding kept_of
kept_length l f fs = by_test (takes l f)
  where
    by_test : (t : Bool) → length (pick t (f ∷ kept_of after takes (after l f) fs) (kept_of after takes (after l f) fs)) ≡ pick t 1 0 + length (kept_of after takes (after l f) fs)
    by_test true = omega arith
    by_test false = omega arith

most_one : (t : Bool) → pick t 1 0 ≤ 1
most_one true = omega arith
most_one false = omega arith

module _ (l₀ : Lent) (s : List ℕ) (b₀ : List ℕ) (u₀ : ℕ) (w : Walked) (at : ℕ) (i : Walking l₀ s (lent b₀ u₀) w at) (more : at < length s) where
  abbrev l : Lent
  l = lent b₀ u₀

  rest_some : 0 < length (drop at s)
  rest_some = simp length-drop (omega arith)

  whole : take (length s - at) (drop at s) ≡ drop at s
  whole = ap (λ (n : ℕ). take n (drop at s)) (sym (length-drop at s)) ∙ take-length (drop at s)

  abbrev rest : List ℕ
  rest = take (length s - at) (drop at s)

  -- what the length came to
  module _ (next : ℕ) (en : next ≡ next_in rest (first_of rest)) where
    next_is : next ≡ next_in (drop at s) (first_of (drop at s))
    next_is = en ∙ ap (λ (t : List ℕ). next_in t (first_of t)) whole

    pub next_some : 1 ≤ next
    next_some = rw next_is (bounds (drop at s) rest_some).some

    pub next_within : at + next ≤ length s
    next_within =
        let b : next_in (drop at s) (first_of (drop at s)) ≤ length (drop at s) = (bounds (drop at s) rest_some).within in
        let c : next ≤ length s - at = rw (next_is, ← length-drop at s) b in
        omega arith

    split : records_of (drop at s) ≡ first_of (drop at s) ∷ records_of (drop (at + next) s)
    split =
        records_next (drop at s) rest_some
        ∙ ap (λ (t : List ℕ). first_of (drop at s) ∷ records_of t) (ap (λ (k : ℕ). drop k (drop at s)) (sym next_is) ∙ drop-drop next at s)

    -- and the call
    pub walking_next : (x : Answer) (b : List ℕ) (u : ℕ) (v : Walked) → x ≡ (offered_in b₀ u₀ rest).answer → b ≡ (offered_in b₀ u₀ rest).bytes → u ≡ (offered_in b₀ u₀ rest).used
        → v ≡ counted_in w x
        → Walking l₀ s (lent b u) v (at + next)
    unfolding end_of
    walking_next x b u v ex eb eu ev =
        let f = first_of (drop at s) in
        let fs = records_of (drop (at + next) s) in
        let is_left : offered_in b₀ u₀ rest ≡ left_by l f = ap (offered_in b₀ u₀) whole ∙ left_first b₀ u₀ (drop at s) in
        let one = most_one (takes l f) in
        let n = next_some in
        let p = i.few in
        let q = i.fewer in
        let k = kept_length l f fs in
        let ends : end_of after l (f ∷ fs) ≡ end_of after l₀ (records_of s) = ap (end_of after l) (sym split) ∙ i.ends in
        let takes_more : w.accepted + length (kept_of after takes l (f ∷ fs)) ≡ length (kept_of after takes l₀ (records_of s)) =
        ap (λ (gs : List First). w.accepted + length (kept_of after takes l gs)) (sym split) ∙ i.taken in
        let sees_more : w.offered + length (f ∷ fs) ≡ length (records_of s) =
        ap (λ (gs : List First). w.offered + length gs) (sym split) ∙ i.seen in
        rw (ev, ex, eb, eu, is_left)
        (record {
          within = next_within;
          few = omega arith;
          fewer = omega arith;
          ends = ends;
          taken = omega arith;
          seen = omega arith;
        })

-- nothing is left
module _ (l₀ : Lent) (s : List ℕ) (l : Lent) (w : Walked) (at : ℕ) (i : Walking l₀ s l w at) (p : length s ≤ at) where
  none : records_of (drop at s) ≡ []
  none = records_none (drop at s) (simp length-drop (omega arith))

  pub walked_all : w ≡ walked_in l₀ s
  unfolding kept_of
  walked_all =
      let a : w.accepted + 0 ≡ length (kept_of after takes l₀ (records_of s)) = rw none at i.taken in
      let b : w.offered + 0 ≡ length (records_of s) = rw none at i.seen in
      made (omega arith) (omega arith)

  pub walked_end : l ≡ end_in l₀ s
  unfolding end_of
  walked_end = rw none at i.ends
