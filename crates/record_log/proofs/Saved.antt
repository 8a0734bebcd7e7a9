-- "saving and reading back after any accepted event changes nothing of the rest": of every byte string, at any record of it. It
-- assumes of the string only that its numbers are below 256.
use mathlib.Core.Path.{◌≡◌, refl, sym, ◌∙◌, ap}
use mathlib.Core.Bool.{Bool, true, false}
use mathlib.Core.List.{List, ◌∷◌, ◌++◌, []}
use Prim.Native.Nat.{ℕ, zero, suc, ◌+◌}
use lib.Dec.{eqb, leb}
use lib.ListN.{length, take, drop}
use Rattle.lists.specs.Lists.{pick, both}
use Rattle.runs.specs.Runs.{end_of}
use Rattle.runs.proofs.Theorems.{end-append}
use Rattle.answer.specs.Answer.{refused, accepted, passes}
use Rattle.state.specs.declared.Holder.{Holder}
use Rattle.state.specs.State.{is_held, holding}
use Rattle.empty.specs.Empty.{nothing}
use Rattle.shape.specs.State.{holder_shape}
use Rattle.ingest.specs.declared.Offered.{Offered}
use Rattle.decoded.specs.Decoded.{Shaped}
use Rattle.decoded.proofs.Shapes.{decoded_shape}
use Rattle.decoded.proofs.Gives.{Each}
use Rattle.layout.specs.Records.{Content, event, snapshot, refusal, content_of, First, record_of, truncated, first_of, next_in, mark_of, body_length}
use Rattle.snapshot.specs.Saved.{encoded}
use Rattle.canonical.specs.Bytes.{Bytes}
use Rattle.resume.proofs.Real.{Real}
use Rattle.resume.proofs.Decoded.{decoded_real, bytes_drop}
use Rattle.resume.proofs.Stays.{good_stays, real_stays, holding-shape}
use Rattle.resume.proofs.Theorems.{Sound, sound_nothing, body_bytes_lem, reads_back}
use Rattle.ingest.specs.Judgement.{turned_away}
use Rattle.receive.specs.Received.{taken, unless_bad, received}
use Rattle.record_log.specs.Log.{records_from, records_of, after, held, answers}

-- ---- the records of a byte string are well shaped, with numbers that fit
abbrev Good : First → Type 0
Good (record_of mark c next) = Shaped c × Real c
Good truncated = Unit

first_good : (s : List ℕ) → Bytes s → Good (first_of s)
unfolding first_of
first_good s b = by_test (both (leb 4 (length s)) (leb (4 + body_length s) (length s)))
  where
    by_test : (t : Bool) → Good (pick t (record_of (mark_of s) (content_of (mark_of s) (take (body_length s) (drop 4 s))) (4 + body_length s)) truncated)
    by_test true =
        (decoded_shape (mark_of s) (take (body_length s) (drop 4 s)), decoded_real (mark_of s) (take (body_length s) (drop 4 s)) (body_bytes_lem s b))
    by_test false = tt

records_good : (n : ℕ) (s : List ℕ) → Bytes s → Each Good (records_from n s)
unfolding records_from
records_good zero s b = tt
records_good (suc n) [] b = tt
records_good (suc n) (x ∷ xs) b =
    let k = next_in (x ∷ xs) (first_of (x ∷ xs)) in
    (first_good (x ∷ xs) b, records_good n (drop k (x ∷ xs)) (bytes_drop k (x ∷ xs) b))

-- ---- what they make of a holder can be saved
sound_taken : (h : Holder) (c : Content) → Shaped c → Real c → Sound h → Sound (taken h c).holder
sound_taken h (event e) shape real s = record { shape = good_stays h e s.shape shape; real = real_stays h e s.real real }
sound_taken h (snapshot k) shape real s = by_test (passes (pick (is_held h) (refused 5 0 0) accepted))
  where
    by_test : (t : Bool) → Sound (pick t (holding k) h)
    by_test true = record { shape = holding-shape k shape; real = λ at. real }
    by_test false = s
sound_taken h (refusal n) shape real s = s

sound_unless : (h : Holder) (x : Offered) → Sound h → Sound x.holder → Sound (unless_bad h x).holder
sound_unless h x s y = by_test (eqb (holder_shape h) 0)
  where
    by_test : (t : Bool) → Sound (pick t x (turned_away h (holder_shape h))).holder
    by_test true = y
    by_test false = s

sound_after : (h : Holder) (f : First) → Good f → Sound h → Sound (after h f)
sound_after h (record_of mark c next) good s = sound_unless h (taken h c) s (sound_taken h c good.0 good.1 s)
sound_after h truncated good s = sound_unless h (turned_away h 1) s s

sound_held : (h : Holder) (done later : List First) → Each Good (done ++ later) → Sound h → Sound (held h done)
unfolding end_of
sound_held h [] later good s = s
sound_held h (f ∷ done) later good s = sound_held (after h f) done later good.1 (sound_after h f good.0 s)

-- ---- the theorem
-- a saved state, read into an empty holder: accepted, and the same is held
back : (h : Holder) → is_held h ≡ true → holding h.state ≡ h
unfolding is_held
back h p = ap (λ (b : Bool). record { held = b; state = h.state }) (sym p)

pub read_back : (h : Holder) → Sound h → is_held h ≡ true → (rest : List ℕ)
    → (received nothing (encoded h.state ++ rest)).offered ≡ record { answer = accepted; holder = h }
unfolding received holder_shape is_held
read_back h s p rest =
    let e = reads_back h s p rest in
    rw e (ap (λ (k : Holder). record { answer = accepted; holder = k }) (back h p))

-- the byte string s, cut at any record: `done` are the records before the cut, `later` those behind it
module _ (s : List ℕ) (bytes : Bytes s) (done later : List First) (cut : records_of s ≡ done ++ later) (some : is_held (held nothing done) ≡ true) (rest : List ℕ) where
  pub same_holder : (received nothing (encoded (held nothing done).state ++ rest)).offered.holder ≡ held nothing done
  unfolding is_held
  same_holder =
      let good : Each Good (done ++ later) = rw cut at (records_good (length s) s bytes) in
      let sound = sound_held nothing done later good (sound_nothing nothing refl) in
      ap (λ (x : Offered). x.holder) (read_back (held nothing done) sound some rest)

  pub same-answers : answers (received nothing (encoded (held nothing done).state ++ rest)).offered.holder later ≡ answers (held nothing done) later
  same-answers = ap (λ (h : Holder). answers h later) same_holder

  pub same_end : held (received nothing (encoded (held nothing done).state ++ rest)).offered.holder later ≡ held nothing (records_of s)
  same_end = ap (λ (h : Holder). held h later) same_holder ∙ sym (end-append after nothing done later) ∙ ap (held nothing) (sym cut)
