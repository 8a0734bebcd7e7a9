-- A saved record is the first record of the buffer, whatever stands behind it. Assumes nothing.
use mathlib.Core.Path.{◌≡◌, refl, ◌∙◌}
use mathlib.Core.List.{List, ◌∷◌, ◌++◌, []}
use Prim.Native.Nat.{ℕ, suc, ◌+◌, ◌*◌, ◌/◌, ◌%◌, ◌≤◌, ◌<◌}
use native.Mathlib.Omega.{arith}
use lib.ListN.{length, drop, length-append}
use lib.Seq.{take-append_seam}
use mir.Val.{Val}
use denote.Laws.{Is}
use borrow.Author.Tests.{le-leb}
use Rattle.state.specs.declared.KeyState.{KeyState}
use Rattle.state.specs.contracts.KeyState as state
use Rattle.shape.specs.State.{state_shape}
use Rattle.layout.specs.Records.{snapshot, record_of, content_of, first_of}
use Rattle.writer.specs.Writing.{be, over}
use Rattle.snapshot.specs.Saved.{body_bytes, encoded}
use Rattle.snapshot.proofs.Real.{RealState, real_state}
use Rattle.snapshot.proofs.Back.{round_trip_real}
use Rattle.snapshot.proofs.Longest.{longest_real}

-- the mark, two bytes of a length, and a body of that length behind them
whole : (hi lo : ℕ) (body rest : List ℕ) → hi * 256 + lo ≡ length body
    → first_of (0x4B ∷ 0x53 ∷ hi ∷ lo ∷ (body ++ rest)) ≡ record_of 0x4B53 (content_of 0x4B53 body) (4 + length body)
unfolding first_of
whole hi lo body rest e =
    let l : length (body ++ rest) ≡ length body + length rest = length-append body rest in
    let a : 4 ≤ length (0x4B ∷ 0x53 ∷ hi ∷ lo ∷ (body ++ rest)) = omega arith in
    let b : 4 + length body ≤ length (0x4B ∷ 0x53 ∷ hi ∷ lo ∷ (body ++ rest)) = omega arith in
    rw (e, le-leb _ _ a, le-leb _ _ b, take-append_seam body rest)

-- two bytes of a number below 2^16
two : (n : ℕ) → n < 65536 → n / 256 % 256 * 256 + n % 256 ≡ n
two n h = omega arith

be_two : (n : ℕ) → be 2 n ≡ n / 256 % 256 ∷ n % 256 ∷ []
unfolding be
be_two n = refl

pub read_back_real : (s : KeyState) (rest : List ℕ) → RealState s → state_shape s ≡ 0
    → first_of (encoded s ++ rest) ≡ record_of 0x4B53 (snapshot s) (length (encoded s))
unfolding encoded content_of
read_back_real s rest r e =
    let n = length (body_bytes s) in
    let h : n ≤ 2281 = longest_real s r e in
    let b = round_trip_real s r e in
    let f : 4 + n ≡ suc (suc (suc (suc n))) = omega arith in
    rw be_two
    (whole (n / 256 % 256) (n % 256) (body_bytes s) rest (two n (omega arith)) ∙ rw (b, f))

pub read_back : (s : KeyState) (vs : List Val) (rest : List ℕ) → Is state.the_row s vs → state_shape s ≡ 0
    → first_of (encoded s ++ rest) ≡ record_of 0x4B53 (snapshot s) (length (encoded s))
read_back s vs rest p e = read_back_real s rest (real_state s vs p) e

-- so it is in the buffer after saving
pub saved_back : (s : KeyState) (vs : List Val) (buf : List ℕ) → Is state.the_row s vs → state_shape s ≡ 0
    → first_of (over 0 (encoded s) buf) ≡ record_of 0x4B53 (snapshot s) (length (encoded s))
unfolding over
saved_back s vs buf p e = read_back s vs (drop (0 + length (encoded s)) buf) p e
