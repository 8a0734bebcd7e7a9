-- From runs of a record's bytes to the state that is saved, and from the used bytes to the state that they are. Assumes nothing.
--     content-..      what a scan gave is the content of the body, well shaped
--     state-..        the used bytes are the record of the state at the marks
--     ..-settled      what a writing left is what saving the next state leaves
use mathlib.Core.Path.{◌≡◌, refl, sym, ◌∙◌, ap}
use mathlib.Core.Bool.{true}
use mathlib.Core.List.{List, ◌∷◌, ◌++◌, []}
use Prim.Native.Nat.{ℕ, suc, ◌+◌, ◌-◌, ◌*◌, ◌/◌, ◌%◌, ◌<◌, ◌≤◌}
use native.Mathlib.Omega.{arith}
use native.Mathlib.Nat.{zero-add}
use borrow.Author.Tests.{eq-eqb, le-leb}
use lib.ListN.{length, take, drop, length-take, length-drop, take-append-drop}
use lib.Seq.{take-length}
use Rattle.answer.specs.Answer.{accepted}
use Rattle.event.specs.declared.Ilk.TheVariants.{Inception, Rotation, Interaction}
use Rattle.event.specs.declared.Head.{Head}
use Rattle.state.specs.declared.KeyState.{KeyState}
use Rattle.state.specs.State.{holding, genesis, rotated, stepped, is_held}
use Rattle.items.specs.declared.Items.{Items}
use Rattle.items.specs.Items.{packed}
use Rattle.shape.specs.Event.{shape_as, event_shape}
use Rattle.shape.specs.State.{state_shape}
use Rattle.shape.proofs.Laws.{good_prefix}
use Rattle.rules.specs.Rules.{of_prefix, new_witnesses}
use Rattle.ingest.specs.Judgement.{incepted}
use Rattle.ingest.proofs.Laws.{of_good, clean_inception}
use Rattle.field.specs.Field.{item_of}
use Rattle.layout.specs.Records.{event, snapshot, content_of, mark_of, body_length}
use Rattle.decoded.specs.Decoded.{Shaped}
use Rattle.decoded.proofs.Shapes.{decoded_shape}
use Rattle.parts.specs.Parts.{head_of, body_of}
use Rattle.record.specs.declared.EventMarks.{EventMarks}
use Rattle.record.specs.declared.StateMarks.{StateMarks}
use Rattle.record.specs.Marks.{inception_places, rotation_places, interaction_places, snapshot_places, state_of, event_of}
use Rattle.record.proofs.Laws.{inception_value, rotation_value, interaction_value, snapshot_value}
use Rattle.canonical.specs.Bytes.{Bytes}
use Rattle.resume.proofs.Decoded.{bytes_drop}
use Rattle.resume.proofs.Theorems.{Sound, sound_snapshot}
use Rattle.resume.proofs.Stays.{begun-shape, rotated-shape, stepped-shape}
use Rattle.snapshot.specs.declared.Loose.{Loose}
use Rattle.writer.specs.Writing.{be, over}
use Rattle.snapshot.specs.Saved.{point_bytes, group_bytes, encoded}
use Rattle.snapshot.specs.Assembled.{framed, loose_of, placed, fitting, assembled, pointed}
use Rattle.snapshot.proofs.Assembled.{joined_body, framed_body, saved-placed, stepped-bytes, stepped-length}
use Rattle.snapshot.proofs.Size.{item_size}
use Rattle.canonical.proofs.Laws.{inception_point, inception-signers, rotation_point, rotation-signers, interaction_point, snapshot_point, snapshot_signers, snapshot_last, snapshot_whole, few_items, few_traits}
use Rattle.found.specs.Found.{Got, Small}
use Rattle.in_place.specs.Calls.{Left, after_saving, settled_in}
use Rattle.in_place.specs.Steps.{Body, state_at, Keeps, left, took}

-- ---- numbers below 256, one by one and all along
pub small_bytes : (s : List ℕ) → Small s → Bytes s
small_bytes [] f = tt
small_bytes (b ∷ s) f = (f 0, small_bytes s (λ i. f (suc i)))

-- ---- what a scan gave
module _ (s : List ℕ) where
  content_inception : (m : EventMarks) → Got (inception_places s 0) m → content_of 0x4943 s ≡ event (event_of Inception s m)
  unfolding content_of
  content_inception m g = rw (← inception_value s 0, g.is)

  content_rotation : (m : EventMarks) → Got (rotation_places s 0) m → content_of 0x524F s ≡ event (event_of Rotation s m)
  unfolding content_of
  content_rotation m g = rw (← rotation_value s 0, g.is)

  content_interaction : (m : EventMarks) → Got (interaction_places s 0) m → content_of 0x4958 s ≡ event (event_of Interaction s m)
  unfolding content_of
  content_interaction m g = rw (← interaction_value s 0, g.is)

  content_snapshot : (m : StateMarks) → Got (snapshot_places s 0) m → content_of 0x4B53 s ≡ snapshot (state_of s m)
  unfolding content_of
  content_snapshot m g = rw (← snapshot_value s 0, g.is)

  inception-shape : (m : EventMarks) → Got (inception_places s 0) m → shape_as Inception (event_of Inception s m) ≡ 0
  unfolding event_shape
  inception-shape m g = let e : Shaped (event (event_of Inception s m)) = rw (content_inception m g) at (decoded_shape 0x4943 s) in e

  -- a prefix that was read is one: 3 does not come again
  pub prefix_read : (m : EventMarks) → Got (inception_places s 0) m → of_prefix (item_of s m.head.prefix) (incepted (event_of Inception s m)) ≡ incepted (event_of Inception s m)
  prefix_read m g = of_good (item_of s m.head.prefix) (incepted (event_of Inception s m)) (good_prefix (event_of Inception s m) (inception-shape m g)) (clean_inception _ _ _ _ _)

  rotation-shape : (m : EventMarks) → Got (rotation_places s 0) m → shape_as Rotation (event_of Rotation s m) ≡ 0
  unfolding event_shape
  rotation-shape m g = let e : Shaped (event (event_of Rotation s m)) = rw (content_rotation m g) at (decoded_shape 0x524F s) in e

  interaction-shape : (m : EventMarks) → Got (interaction_places s 0) m → shape_as Interaction (event_of Interaction s m) ≡ 0
  unfolding event_shape
  interaction-shape m g = let e : Shaped (event (event_of Interaction s m)) = rw (content_interaction m g) at (decoded_shape 0x4958 s) in e

  snapshot_shape : (m : StateMarks) → Got (snapshot_places s 0) m → state_shape (state_of s m) ≡ 0
  snapshot_shape m g = let e : Shaped (snapshot (state_of s m)) = rw (content_snapshot m g) at (decoded_shape 0x4B53 s) in e

-- ---- a state put together from its runs
fits_all : (x : Loose) (point signers last : List ℕ) → x.witnessing.witnesses.count ≤ 16 → x.config.count ≤ 8
    → length point ≤ 49
    → length last ≤ 49
    → length signers ≤ 65535
    → fitting x point signers last ≡ true
unfolding fitting
fits_all x point signers last a b c d e = rw (le-leb _ _ a, le-leb _ _ b, le-leb _ _ c, le-leb _ _ d, le-leb _ _ e)

run-49 : (n : ℕ) (s : List ℕ) → n + 49 ≤ length s → length (take 49 (drop n s)) ≡ 49
run-49 n s h = simp (length-take, length-drop) (omega arith)

short-run : (n k : ℕ) (s : List ℕ) → length s ≤ 65535 → length (take k (drop n s)) ≤ 65535
short-run n k s h = simp (length-take, length-drop) (omega arith)

module _ (buf : List ℕ) (used : ℕ) (s : KeyState) (shape : state_shape s ≡ 0) (few : s.witnessing.witnesses.count ≤ 16) (traits : s.config.count ≤ 8) (point signers last : List ℕ)
    (p : point ≡ point_bytes s.sn s.said)
    (g : signers ≡ group_bytes s.authority.keys s.authority.threshold ++ group_bytes s.commitment.next s.commitment.threshold)
    (l : last ≡ point_bytes s.last.sn s.last.said)
    (np : length point ≤ 49)
    (nl : length last ≤ 49)
    (ng : length signers ≤ 65535)
  where
    assembled_state : assembled (loose_of s) point signers last buf ≡ placed (encoded s) buf
    unfolding assembled
    assembled_state =
        rw (fits_all (loose_of s) point signers last few traits np nl ng, joined_body s point signers last p g l, framed_body s)

    written : (x : Loose) → x ≡ loose_of s → (r : Left) → r ≡ after_saving used accepted (assembled x point signers last buf) → r ≡ settled_in buf used (took s)
    unfolding settled_in
    written x ex r er = er ∙ rw (ex, assembled_state, saved-placed s buf shape)

-- ---- an inception: the runs are the record's own
module _ (buf : List ℕ) (used : ℕ) (s : List ℕ) (body : Body s) (r : Left) (x : Loose) where
  module _ (m : EventMarks) (g : Got (inception_places s 0) m) where
    pub begun_settled : x ≡ loose_of (genesis (head_of s m.head) (body_of s m.body))
        → r ≡ after_saving used accepted (assembled x (take (82 - 33) (drop 33 s)) (take (m.body.additions.first - 1 - 82) (drop 82 s)) (take (82 - 33) (drop 33 s)) buf)
        → r ≡ settled_in buf used (took (genesis (head_of s m.head) (body_of s m.body)))
    begun_settled ex er =
        let p = inception_point s (small_bytes s body.small) m g.next g.is in
        let q = inception-signers s (small_bytes s body.small) m g.next g.is in
        let n : length (take 49 (drop 33 s)) ≤ 49 = simp length-take (omega arith) in
        written buf used (genesis (head_of s m.head) (body_of s m.body))
        (begun-shape m.head.sn (event_of Inception s m) (inception-shape s m g))
        (few_items s m.body.additions.count m.body.additions.first)
        (few_traits s m.body.config.count m.body.config.first)
        (take 49 (drop 33 s)) (take (m.body.additions.first - 1 - 82) (drop 82 s)) (take 49 (drop 33 s))
        p.is q.is p.is n n (short-run 82 (m.body.additions.first - 1 - 82) s body.long) x ex r er

  module _ (m : StateMarks) (g : Got (snapshot_places s 0) m) where
    pub taken_settled : x ≡ loose_of (state_of s m)
        → r ≡ after_saving used accepted (assembled x (take (82 - 33) (drop 33 s)) (take (m.body.additions.first - 1 - 83) (drop 83 s)) (take (length s - (length s - 49)) (drop (length s - 49) s)) buf)
        → r ≡ settled_in buf used (took (state_of s m))
    taken_settled ex er =
        let p = snapshot_point s (small_bytes s body.small) m g.next g.is in
        let q = snapshot_signers s (small_bytes s body.small) m g.next g.is in
        let l = snapshot_last s (small_bytes s body.small) m g.next g.is in
        let n : length (take 49 (drop 33 s)) ≤ 49 = simp length-take (omega arith) in
        let room = l.room in
        let k : length (drop (length s - 49) s) ≡ 49 = simp length-drop (omega arith) in
        let w : length s - (length s - 49) ≡ length (drop (length s - 49) s) = simp length-drop (omega arith) in
        let all : take (length s - (length s - 49)) (drop (length s - 49) s) ≡ drop (length s - 49) s = rw w (take-length _) in
        let nl : length (drop (length s - 49) s) ≤ 49 = omega arith in
        written buf used (state_of s m) (snapshot_shape s m g)
        (few_items s m.body.additions.count m.body.additions.first)
        (few_traits s m.body.config.count m.body.config.first)
        (take 49 (drop 33 s)) (take (m.body.additions.first - 1 - 83) (drop 83 s)) (drop (length s - 49) s)
        p.is q.is l.is n nl (short-run 83 (m.body.additions.first - 1 - 83) s body.long) x ex r (rw all at er)

-- ---- the state that the used bytes are
two_bytes : (c d : ℕ) → c < 256 → d < 256 → be 2 (c * 256 + d) ≡ c ∷ d ∷ []
unfolding be
two_bytes c d hc hd =
    let p : (c * 256 + d) / 256 % 256 ≡ c = omega arith in
    let q : (c * 256 + d) % 256 ≡ d = omega arith in
    rw (p, q)

framed_whole : (s : List ℕ) → Bytes s → 4 ≤ length s → mark_of s ≡ 0x4B53 → 4 + body_length s ≡ length s → framed (drop 4 s) ≡ s
framed_whole [] b f m e = absurd (omega arith)
framed_whole (w ∷ []) b f m e = absurd (omega arith)
framed_whole (w ∷ x ∷ []) b f m e = absurd (omega arith)
framed_whole (w ∷ x ∷ y ∷ []) b f m e = absurd (omega arith)
framed_whole (w ∷ x ∷ y ∷ z ∷ s) b f m e =
    let hw = b.0 in
    let hx = b.1.0 in
    let hy = b.1.1.0 in
    let hz = b.1.1.1.0 in
    let p : w ≡ 0x4B = omega arith in
    let q : x ≡ 0x53 = omega arith in
    let n : length s ≡ y * 256 + z = omega arith in
    rw (p, q, n, two_bytes y z hy hz)

module _ (buf : List ℕ) (used : ℕ) (m : StateMarks) (k : Keeps buf used m) where
  inner : Bytes (drop 4 (take used buf))
  inner = bytes_drop 4 (take used buf) (small_bytes (take used buf) k.whole.small)

  pub state_shape_lem : state_shape (state_at buf used m) ≡ 0
  state_shape_lem = snapshot_shape (drop 4 (take used buf)) m k.whole.scanned

  state_bytes : encoded (state_at buf used m) ≡ take used buf
  state_bytes =
      let w = k.whole in
      let e = snapshot_whole (drop 4 (take used buf)) inner m w.scanned.next w.scanned.is in
      sym (framed_body (state_at buf used m)) ∙ ap framed e ∙ framed_whole (take used buf) (small_bytes (take used buf) w.small) w.four w.marked w.sized

  used-long : length (take used buf) ≡ used
  used-long = let h = k.within in simp length-take (omega arith)

  state_over : over 0 (encoded (state_at buf used m)) buf ≡ buf
  unfolding over
  state_over = rw (state_bytes, used-long, zero-add) (take-append-drop used buf)

  room-87 : 87 ≤ length buf
  room-87 =
      let h = k.within in
      let l = (snapshot_last (drop 4 (take used buf)) inner m k.whole.scanned.next k.whole.scanned.is).room in
      let d : length (drop 4 (take used buf)) ≡ used - 4 = simp (length-drop, used-long) in
      omega arith

  -- ---- an interaction: only its point is written
  module _ (s : List ℕ) (small : Small s) (e : EventMarks) (g : Got (interaction_places s 0) e) where
    abbrev S : KeyState
    S = state_at buf used m

    abbrev H : Head
    H = head_of s e.head

    sound : Sound (holding S)
    sound = sound_snapshot 0x4B53 (drop 4 (take used buf)) inner S (content_snapshot (drop 4 (take used buf)) m k.whole.scanned)

    held : is_held (holding S) ≡ true
    unfolding is_held
    held = refl

    old_point : length (point_bytes S.sn S.said) ≡ 49
    old_point =
        let p = snapshot_point (drop 4 (take used buf)) inner m k.whole.scanned.next k.whole.scanned.is in
        rw p.is at (run-49 33 (drop 4 (take used buf)) p.room)

    new_point : length (point_bytes H.sn H.said) ≡ 49
    new_point =
        let p = interaction_point s (small_bytes s small) e g.next g.is in
        rw p.is at (run-49 33 s p.room)

    stepped-over : pointed (take (82 - 33) (drop 33 s)) buf ≡ over 0 (encoded (stepped S H)) buf
    unfolding pointed
    stepped-over =
        let p = interaction_point s (small_bytes s small) e g.next g.is in
        let fit : length (encoded S) ≤ length buf = rw (state_bytes, used-long) k.within in
        rw (eq-eqb _ _ (run-49 33 s p.room), le-leb 87 (length buf) room-87, p.is)
        (ap (over 37 (point_bytes H.sn H.said ++ (2 ∷ []))) (sym state_over)
        ∙ stepped-bytes S H buf (item_size S.prefix (sound.real held).prefix) old_point new_point fit)

    stepped-used : length (encoded (stepped S H)) ≡ used
    stepped-used = stepped-length S H old_point new_point ∙ ap (λ (l : List ℕ). length l) state_bytes ∙ used-long

    pub stepped_settled : left accepted (pointed (take (82 - 33) (drop 33 s)) buf) used ≡ settled_in buf used (took (stepped S H))
    unfolding settled_in placed
    stepped_settled =
        rw (saved-placed (stepped S H) buf (stepped-shape S (event_of Interaction s e) state_shape_lem (interaction-shape s e g)), stepped-used, le-leb used (length buf) k.within, stepped-over)

  -- ---- a rotation: its runs, with the new list
  module _ (s : List ℕ) (body : Body s) (e : EventMarks) (g : Got (rotation_places s 0) e) (list : Items)
      (el : list ≡ packed (new_witnesses (state_at buf used m) (body_of s e.body)))
      (few : list.count ≤ 16)
      (r : Left)
      (x : Loose)
    where
      pub rolled_settled : x ≡ loose_of (rotated (state_at buf used m) (head_of s e.head) (body_of s e.body) list)
          → r ≡ after_saving used accepted (assembled x (take (82 - 33) (drop 33 s)) (take (e.body.additions.first - 1 - 115) (drop 115 s)) (take (82 - 33) (drop 33 s)) buf)
          → r ≡ settled_in buf used (took (rotated (state_at buf used m) (head_of s e.head) (body_of s e.body) list))
      rolled_settled ex er =
          let p = rotation_point s (small_bytes s body.small) e g.next g.is in
          let q = rotation-signers s (small_bytes s body.small) e g.next g.is in
          let n : length (take 49 (drop 33 s)) ≤ 49 = simp length-take (omega arith) in
          let few-new : length (new_witnesses (state_at buf used m) (body_of s e.body)) ≤ 16 = rw el at few in
          let shape : state_shape (rotated (state_at buf used m) (head_of s e.head) (body_of s e.body) list) ≡ 0 =
          rw el (rotated-shape (state_at buf used m) (event_of Rotation s e) state_shape_lem few-new (rotation-shape s e g)) in
          written buf used (rotated (state_at buf used m) (head_of s e.head) (body_of s e.body) list) shape few
          (few_traits (drop 4 (take used buf)) m.body.config.count m.body.config.first)
          (take 49 (drop 33 s)) (take (e.body.additions.first - 1 - 115) (drop 115 s)) (take 49 (drop 33 s))
          p.is q.is p.is n n (short-run 115 (e.body.additions.first - 1 - 115) s body.long) x ex r er
