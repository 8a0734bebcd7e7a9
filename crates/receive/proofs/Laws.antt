-- From a judgement without a look at shapes to the definition; and what a refusal leaves. Assumes nothing.
use mathlib.Core.Path.{◌≡◌, refl}
use mathlib.Core.Bool.{Bool, true, false}
use mathlib.Core.List.{List}
use Prim.Native.Nat.{ℕ}
use borrow.Author.Tests.{eq-eqb, ne_eqb}
use lib.Dec.{eqb}
use lib.ListN.{length}
use Rattle.lists.specs.Lists.{pick}
use Rattle.answer.specs.Answer.{passes}
use Rattle.state.specs.declared.Holder.{Holder}
use Rattle.state.specs.State.{holding}
use Rattle.shape.specs.Event.{event_shape}
use Rattle.shape.specs.State.{holder_shape}
use Rattle.ingest.specs.declared.Offered.{Offered}
use Rattle.ingest.specs.Judgement.{turned_away, judgement, next_state, offered, answer_to}
use Rattle.ingest.proofs.Laws.{good_shape, clean_judgement}
use Rattle.layout.specs.Records.{Content, event, snapshot, refusal, First, record_of, truncated, first_of}
use Rattle.decoded.specs.Decoded.{Shaped}
use Rattle.receive.specs.Received.{taken, unless_bad, first_taken, received}
use Rattle.receive.specs.Judged.{content_judged}

-- ---- the holder's shape before anything
module _ (h : Holder) (n : ℕ) (en : n ≡ holder_shape h) where
  pub bad_holder : (x : Offered) → (n ≡ 0 → ⊥) → turned_away h n ≡ unless_bad h x
  bad_holder x ne = rw (← en, ne_eqb n 0 ne)

  pub good_holder : (x : Offered) → n ≡ 0 → x ≡ unless_bad h x
  good_holder x z = rw (← en, eq-eqb n 0 z)

-- what is judged without a look at its shape is what the definition takes: a decoded content has none to refuse
module _ (h : Holder) (n : ℕ) (en : n ≡ holder_shape h) (z : n ≡ 0) where
  pub judged-taken : (c : Content) → Shaped c → content_judged h c ≡ taken h c
  unfolding offered answer_to
  judged-taken (event e) good = good_shape h e (judgement h e) (holding (next_state h.state e)) n en z (event_shape e) refl good (clean_judgement h e)
  judged-taken (snapshot s) good = refl
  judged-taken (refusal r) good = refl

-- ---- "Every refusal leaves state and buffers untouched."
pub stays_taken : (h : Holder) (c : Content) → passes (taken h c).answer ≡ false → (taken h c).holder ≡ h
unfolding offered
stays_taken h (event e) p = rw p
stays_taken h (snapshot s) p = rw p
stays_taken h (refusal n) p = refl

pub stays_unless : (h : Holder) (x : Offered) → (passes x.answer ≡ false → x.holder ≡ h) → passes (unless_bad h x).answer ≡ false → (unless_bad h x).holder ≡ h
stays_unless h x f p = by_test (eqb (holder_shape h) 0) p
  where
    by_test : (t : Bool) → passes (pick t x (turned_away h (holder_shape h))).answer ≡ false → (pick t x (turned_away h (holder_shape h))).holder ≡ h
    by_test true q = f q
    by_test false q = refl

pub stays_first : (h : Holder) (end : ℕ) (f : First) → passes (first_taken h end f).offered.answer ≡ false → (first_taken h end f).offered.holder ≡ h
stays_first h end (record_of mark c next) p = stays_unless h (taken h c) (stays_taken h c) p
stays_first h end truncated p = stays_unless h (turned_away h 1) (λ q. refl) p

pub stays_received : (h : Holder) (s : List ℕ) → passes (received h s).offered.answer ≡ false → (received h s).offered.holder ≡ h
unfolding received
stays_received h s p = stays_first h (length s) (first_of s) p
