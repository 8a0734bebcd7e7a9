-- What a byte string leads to can be saved and read back, whatever was accepted or refused on the way. Assumes nothing.
--     Sound            a holder whose state, if any, is well shaped with numbers that fit
--     sound_nothing, sound_event, sound_snapshot     an empty one is; and what the records of a byte string make of one is
--     saves, reads_back     saving a sound state answers 0 where there is room, and the record reads back as the same state
use mathlib.Core.Path.{◌≡◌, refl, sym, ◌∙◌}
use mathlib.Core.Bool.{true, false}
use mathlib.Core.List.{List, ◌++◌}
use Prim.Native.Nat.{ℕ, ◌≤◌}
use native.Mathlib.Omega.{arith}
use lib.ListN.{length, take, drop}
use Rattle.lists.proofs.Facts.{clash}
use Rattle.answer.specs.Answer.{refused}
use Rattle.event.specs.declared.Event.{Event}
use Rattle.state.specs.declared.KeyState.{KeyState}
use Rattle.state.specs.declared.Holder.{Holder}
use Rattle.state.specs.State.{is_held, holding}
use Rattle.shape.specs.State.{state_shape, holder_shape}
use Rattle.ingest.specs.Judgement.{offered}
use Rattle.layout.specs.Records.{event, snapshot, record_of, content_of, first_of, body_length}
use Rattle.writer.specs.Writing.{over}
use Rattle.snapshot.specs.Saved.{body_bytes, encoded, saved}
use Rattle.snapshot.proofs.Size.{record-size, saved_whole}
use Rattle.snapshot.proofs.Longest.{longest_real}
use Rattle.snapshot.proofs.Whole.{read_back_real}
use Rattle.decoded.specs.Decoded.{Shaped}
use Rattle.decoded.proofs.Shapes.{decoded_shape}
use Rattle.canonical.specs.Bytes.{Bytes}
use Rattle.resume.proofs.Real.{RealHolder, Real}
use Rattle.resume.proofs.Decoded.{bytes_take, bytes_drop, decoded_real}
use Rattle.resume.proofs.Stays.{holding-shape, good_stays, real_stays}

pub record Sound (h : Holder) : Type 0 where
  pub shape : holder_shape h ≡ 0
  pub real : RealHolder h

pub sound_nothing : (h : Holder) → is_held h ≡ false → Sound h
unfolding holder_shape
sound_nothing h e = record { shape = rw e; real = λ held. clash (sym held ∙ e) }

-- the body of a byte string's first record
pub body_bytes_lem : (s : List ℕ) → Bytes s → Bytes (take (body_length s) (drop 4 s))
body_bytes_lem s b = bytes_take (body_length s) (drop 4 s) (bytes_drop 4 s b)

module _ (mark : ℕ) (body : List ℕ) (bytes : Bytes body) where
  pub sound_event : (h : Holder) (e : Event) → content_of mark body ≡ event e → Sound h → Sound (offered h e).holder
  sound_event h e is s =
      let shape : Shaped (event e) = rw is at (decoded_shape mark body) in
      let real : Real (event e) = rw is at (decoded_real mark body bytes) in
      record { shape = good_stays h e s.shape shape; real = real_stays h e s.real real }

  pub sound_snapshot : (k : KeyState) → content_of mark body ≡ snapshot k → Sound (holding k)
  sound_snapshot k is =
      let shape : Shaped (snapshot k) = rw is at (decoded_shape mark body) in
      let real : Real (snapshot k) = rw is at (decoded_real mark body bytes) in
      record { shape = holding-shape k shape; real = λ held. real }

-- ---- a sound state
module _ (h : Holder) (s : Sound h) (held : is_held h ≡ true) where
  sound_shape : state_shape h.state ≡ 0
  unfolding holder_shape
  sound_shape = rw held at s.shape

  -- "the longest KS 2,281", with its mark and length
  pub short-record : length (encoded h.state) ≤ 2285
  short-record =
      let n = longest_real h.state (s.real held) sound_shape in
      omega (arith, record-size h.state (length (body_bytes h.state)) refl)

  pub saves : (buf : List ℕ) → length (encoded h.state) ≤ length buf
      → saved h buf ≡ (refused 0 (length (encoded h.state)) 0, over 0 (encoded h.state) buf)
  saves buf room = saved_whole h buf 0 (sym s.shape) refl (length (encoded h.state)) held refl room

  pub reads_back : (rest : List ℕ)
      → first_of (encoded h.state ++ rest) ≡ record_of 0x4B53 (snapshot h.state) (length (encoded h.state))
  reads_back rest = read_back_real h.state rest (s.real held) sound_shape
