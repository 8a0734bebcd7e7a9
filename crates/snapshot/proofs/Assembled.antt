-- Records put together from runs of bytes: what they are for a state's own runs, and what the two functions test. Assumes nothing.
--     joined_body, framed_body, saved-placed    the runs of a state give its record, which is what saving writes
--     stepped-bytes, stepped-length             an interaction's point over a record is the record of the state that it makes
use mathlib.Core.Path.{◌≡◌, refl, sym, ◌∙◌}
use mathlib.Core.List.{List, ◌∷◌, ◌++◌, append_assoc, []}
use mathlib.Core.Bool.{true}
use Prim.Native.Nat.{ℕ, ◌+◌, ◌≤◌}
use native.Mathlib.Omega.{arith}
use lib.Dec.{leb}
use lib.ListN.{length, drop, length-append}
use lib.Seq.{drop_at}
use mir.Val.{Val}
use denote.Laws.{Is}
use borrow.Author.Tests.{leb-true}
use Rattle.lists.proofs.Facts.{both_true}
use Rattle.config.proofs.Laws.{places-8}
use Rattle.event.specs.declared.Head.{Head}
use Rattle.state.specs.declared.KeyState.{KeyState}
use Rattle.state.specs.State.{stepped, is_held, holding}
use Rattle.shape.specs.State.{state_shape, holder_shape}
use Rattle.snapshot.specs.declared.Loose.{Loose}
use Rattle.writer.specs.Writing.{be, over}
use Rattle.snapshot.specs.Bytes.{item_bytes, items_bytes}
use Rattle.snapshot.specs.Saved.{point_bytes, group_bytes, head_bytes, tail_bytes, body_bytes, encoded, saved}
use Rattle.snapshot.specs.Assembled.{framed, joined, front_bytes, back_bytes, loose_of, placed, fitting}
use Rattle.snapshot.specs.contracts.Loose.{the_row}
use Rattle.writer.proofs.Laws.{over_start, over_seam, length_be}
use Rattle.snapshot.proofs.Size.{item_size, config_size, record-size}
use Rattle.snapshot.proofs.Real.{RealItems, real_items, raw-32}

-- ---- a state's own runs
pub joined_body : (s : KeyState) (point signers last : List ℕ) → point ≡ point_bytes s.sn s.said
    → signers ≡ group_bytes s.authority.keys s.authority.threshold ++ group_bytes s.commitment.next s.commitment.threshold
    → last ≡ point_bytes s.last.sn s.last.said
    → joined (loose_of s) point signers last ≡ body_bytes s
unfolding joined body_bytes head_bytes tail_bytes
joined_body s point signers last e f g = rw (e, f, g) (simp append_assoc)

pub framed_body : (s : KeyState) → framed (body_bytes s) ≡ encoded s
unfolding encoded
framed_body s = refl

pub saved-placed : (s : KeyState) (buf : List ℕ) → state_shape s ≡ 0 → saved (holding s) buf ≡ placed (encoded s) buf
unfolding saved placed holder_shape is_held
saved-placed s buf e = rw e

-- ---- an interaction: a run of bytes over another of its length
swapped : (a m m' r b : List ℕ) (k : ℕ) → length a ≡ k → length m ≡ length m' → over k m' (over 0 (a ++ (m ++ r)) b) ≡ over 0 (a ++ (m' ++ r)) b
swapped a m m' r b k ha hm =
    let d = drop (length (a ++ (m ++ r))) b in
    let n : length (a ++ (m' ++ r)) ≡ length (a ++ (m ++ r)) = simp (length-append, hm) in
    let e : (a ++ (m ++ r)) ++ d ≡ a ++ (m ++ (r ++ d)) = simp append_assoc in
    let f : (a ++ (m' ++ r)) ++ d ≡ a ++ (m' ++ (r ++ d)) = simp append_assoc in
    let g : drop (length m') (m ++ (r ++ d)) ≡ r ++ d = drop_at m (r ++ d) (length m') hm in
    rw (over_start (a ++ (m ++ r)) b, over_start (a ++ (m' ++ r)) b, n, e, f) (rw g at (over_seam a (m ++ (r ++ d)) m' k ha))

-- mark, length and prefix; n is the body's length
unfoldable before : ℕ → KeyState → List ℕ
before n s = (0x4B ∷ 0x53 ∷ []) ++ (be 2 n ++ item_bytes s.prefix)

unfoldable behind : KeyState → List ℕ
behind s =
    group_bytes s.authority.keys s.authority.threshold
    ++ (group_bytes s.commitment.next s.commitment.threshold ++ tail_bytes s)

unfoldable latest : KeyState → List ℕ
latest s = point_bytes s.sn s.said ++ (s.latest ∷ [])

body_parts : (s : KeyState) → body_bytes s ≡ item_bytes s.prefix ++ (latest s ++ behind s)
unfolding body_bytes head_bytes latest behind
body_parts s = simp append_assoc

around : (s : KeyState) (n : ℕ) → length (body_bytes s) ≡ n → encoded s ≡ before n s ++ (latest s ++ behind s)
unfolding encoded before
around s n e = rw (e, body_parts s) (simp append_assoc)

body_length_lem : (s : KeyState) (h : Head) → length (point_bytes s.sn s.said) ≡ 49 → length (point_bytes h.sn h.said) ≡ 49
    → length (body_bytes (stepped s h)) ≡ length (body_bytes s)
unfolding body_bytes head_bytes tail_bytes
body_length_lem s h p q = simp (length-append, p, q)

pub stepped-length : (s : KeyState) (h : Head) → length (point_bytes s.sn s.said) ≡ 49 → length (point_bytes h.sn h.said) ≡ 49
    → length (encoded (stepped s h)) ≡ length (encoded s)
stepped-length s h p q =
    let n = length (body_bytes s) in
    sym (record-size (stepped s h) n (sym (body_length_lem s h p q))) ∙ record-size s n refl

pub stepped-bytes : (s : KeyState) (h : Head) (buf : List ℕ) → length (item_bytes s.prefix) ≡ 33
    → length (point_bytes s.sn s.said) ≡ 49
    → length (point_bytes h.sn h.said) ≡ 49
    → length (encoded s) ≤ length buf
    → over 37 (point_bytes h.sn h.said ++ (2 ∷ [])) (over 0 (encoded s) buf) ≡ over 0 (encoded (stepped s h)) buf
unfolding before latest behind tail_bytes
stepped-bytes s h buf i p q room =
    let n = length (body_bytes s) in
    let a : length (before n s) ≡ 37 = simp (length-append, length_be, i) in
    let m : length (latest s) ≡ length (latest (stepped s h)) = simp (length-append, p, q) in
    rw (around s n refl, around (stepped s h) n (body_length_lem s h p q))
    (swapped (before n s) (latest s) (latest (stepped s h)) (behind s) buf 37 a m)

-- ---- in two parts
pub joined_parts : (x : Loose) (point signers last : List ℕ)
    → joined x point signers last ≡ front_bytes x.prefix point x.latest signers ++ back_bytes x.witnessing x.config x.transferable last
unfolding joined front_bytes back_bytes
joined_parts x point signers last = simp append_assoc

-- ---- what is held, and what fits
pub record RealLoose (x : Loose) : Type 0 where
  pub prefix : length x.prefix.raw ≡ 32
  pub witnesses : RealItems x.witnessing.witnesses
  pub traits : length x.config.traits ≡ 8

pub real_loose : (x : Loose) (vs : List Val) → Is the_row x vs → RealLoose x
real_loose x vs p =
    let f = p.1.1 in
    record {
      prefix = raw-32 x.prefix _ f.0;
      witnesses = real_items x.witnessing.witnesses _ f.1.1.0.1.1.0;
      traits = places-8 x.config _ f.1.1.1.0;
    }

pub record Fits (x : Loose) (ps ss ls : List ℕ) : Type 0 where
  pub witnesses : x.witnessing.witnesses.count ≤ 16
  pub traits : x.config.count ≤ 8
  pub point : length ps ≤ 49
  pub last : length ls ≤ 49
  pub signers : length ss ≤ 65535

module _ (x : Loose) (point signers last : List ℕ) where
  pub all_fit : fitting x point signers last ≡ true → Fits x point signers last
  unfolding fitting
  all_fit e =
      let a = both_true (leb x.witnessing.witnesses.count 16) _ e in
      let b = both_true (leb x.config.count 8) _ a.1 in
      let c = both_true (leb (length point) 49) _ b.1 in
      let d = both_true (leb (length last) 49) _ c.1 in
      record {
        witnesses = leb-true x.witnessing.witnesses.count 16 a.0;
        traits = leb-true x.config.count 8 b.0;
        point = leb-true (length point) 49 c.0;
        last = leb-true (length last) 49 d.0;
        signers = leb-true (length signers) 65535 d.1;
      }

  pub joined-size : (n : ℕ) → RealLoose x → x.config.count ≤ 8 → n ≡ length (items_bytes x.witnessing.witnesses)
      → 40 + n + x.config.count + length point + length signers + length last ≡ length (joined x point signers last)
  unfolding joined
  joined-size n r h e =
      rw (
        length-append,
        length-append,
        length-append,
        length-append,
        length-append,
        length-append,
        length-append,
        length-append,
        item_size x.prefix r.prefix,
        length_be,
        config_size x.config r.traits h,
        ← e,
      )
      (omega arith)
