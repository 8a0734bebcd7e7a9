-- What was scanned from bytes, written again, is the same bytes: the groups, and the runs that the next state is put together
-- from. Assumes nothing but that the numbers are bytes.
--     place-, sn-, number-, items-, config-, marks-, flag-bytes     one law a field
--     quorum-bytes, signers-bytes     the groups
--     ..-point, ..-signers            "sn, said" and "keys, threshold, next, next threshold" of each record
--     snapshot_last, snapshot_whole   "last establishment sn and said"; a snapshot's state, written, is the snapshot
--     few_items, few_traits           a list that was copied is no longer than its limit
use mathlib.Core.Path.{◌≡◌, refl, sym, ap, ◌∙◌}
use mathlib.Core.Bool.{Bool, true, false}
use mathlib.Core.List.{List, ◌∷◌, ◌++◌, append-nil, append_assoc, []}
use Prim.Native.Nat.{ℕ, ◌+◌, ◌*◌, ◌-◌, ◌≤◌}
use native.Mathlib.Omega.{arith}
use lib.Dec.{leb, eqb}
use lib.ListN.{length, drop}
use lib.Seq.{drop-length}
use borrow.Author.Tests.{leb-true, eqb-true}
use Rattle.lists.specs.Lists.{pick, both}
use Rattle.number.specs.declared.Number.{Number}
use Rattle.item.specs.declared.Kind.{Kind}
use Rattle.item.specs.declared.Kind.TheVariants.{Prefix, Key, Said}
use Rattle.format.specs.Parse.{Parse, got, bad, byte_at, num_at, ended}
use Rattle.format.specs.Fields.{sn_at, flag_at}
use Rattle.layout.specs.Records.{latest_at}
use Rattle.cursor.specs.Spans.{list_of, many_of}
use Rattle.cursor.proofs.Laws.{list_length}
use Rattle.field.specs.Field.{place_at, items_place_at, config_place_at, byte_of, item_of, items_of, config_of}
use Rattle.threshold_field.specs.declared.Marks.{Marks}
use Rattle.threshold_field.specs.ThresholdField.{marks_at, threshold_of}
use Rattle.parts.specs.declared.HeadMarks.{HeadMarks}
use Rattle.parts.specs.declared.QuorumMarks.{QuorumMarks}
use Rattle.parts.specs.declared.SignersMarks.{SignersMarks}
use Rattle.parts.specs.declared.BodyMarks.{BodyMarks}
use Rattle.parts.specs.Parts.{first_head_places, later_head_places, quorum_places, signers_places, inception_body_places, rotation_body_places}
use Rattle.record.specs.declared.EventMarks.{EventMarks}
use Rattle.record.specs.declared.LastMarks.{LastMarks}
use Rattle.record.specs.declared.StateMarks.{StateMarks}
use Rattle.record.specs.Marks.{tail_places, inception_places, rotation_places, interaction_places, last_places, snapshot_places, state_of}
use Rattle.writer.specs.Writing.{be}
use Rattle.snapshot.specs.Bytes.{words_bytes, item_bytes, items_bytes, config_bytes, threshold_bytes, flag_byte}
use Rattle.snapshot.specs.Saved.{point_bytes, group_bytes, head_bytes, tail_bytes, body_bytes}
use Rattle.canonical.specs.Bytes.{Bytes}
use Rattle.canonical.specs.Canonical.{Run, quorum_bytes, signers_bytes, Point, Signers, Last}
use Rattle.canonical.proofs.Fields.{Ran, ran_bind, ran_pick, ran_got, run_then, run-taken, Byte, byte_ran, byte-run, Place, place_ran, Flag, flag_ran, Numbered, number_ran, Sequence, sn_ran, Listed, items_ran, Traits, config_ran, Marked, marks_ran}

-- ---- fields
module _ (s : List ℕ) (at : ℕ) where
  pub place_bytes : (k : Kind) (p n : ℕ) → place_at k s at ≡ got p n → (p ≡ at) × Run s at n (item_bytes (item_of s p))
  place_bytes k p n e = let h = ran_got (Place s at) (place_at k s at) p n e (place_ran k s at) in (h.0, h.1.1)

  pub items_bytes_lem : (k : Kind) (c f n : ℕ) → items_place_at k s at ≡ got (record { count = c; first = f }) n → (f ≡ at + 1) × Run s at n (items_bytes (items_of s c f))
  items_bytes_lem k c f n e = ran_got (Listed s at) (items_place_at k s at) (record { count = c; first = f }) n e (items_ran k s at)

  pub config_bytes_lem : (c f n : ℕ) → config_place_at s at ≡ got (record { count = c; first = f }) n → Run s at n (config_bytes (config_of s c f))
  config_bytes_lem c f n e = ran_got (Traits s at) (config_place_at s at) (record { count = c; first = f }) n e (config_ran s at)

  pub flag-bytes : (b : Bool) (n : ℕ) → flag_at s at ≡ got b n → Run s at n (flag_byte b ∷ [])
  flag-bytes b n e = (ran_got (Flag s at) (flag_at s at) b n e (flag_ran s at)).1

  module _ (bytes : Bytes s) where
    pub number-bytes : (w v n : ℕ) → num_at w s at ≡ got v n → Run s at n (be w v)
    number-bytes w v n e = (ran_got (Numbered s bytes w at) (num_at w s at) v n e (number_ran s bytes w at)).1

    pub sn_bytes : (sn : Number) (n : ℕ) → sn_at s at ≡ got sn n → Run s at n (words_bytes sn.high sn.low)
    sn_bytes sn n e = (ran_got (Sequence s bytes at) (sn_at s at) sn n e (sn_ran s bytes at)).1

    pub marks_bytes : (m : Marks) (n : ℕ) → marks_at s at ≡ got m n → Run s at n (threshold_bytes (threshold_of s m))
    marks_bytes m n e = ran_got (Marked s bytes at) (marks_at s at) m n e (marks_ran s bytes at)

-- ---- a list that was copied is no longer than its limit, whatever the marks
many_few : {A : Type 0} (f : ℕ → A) (w max : ℕ) (s : List ℕ) (n p : ℕ) → length (many_of f w max s n p) ≤ max
unfolding many_of
many_few f w max s n p = go (leb n max) refl (leb (p + n * w) (length s))
  where
    go : (b : Bool) → leb n max ≡ b → (c : Bool) → length (pick (both b c) (list_of f w n p) []) ≤ max
    go true e true = rw (list_length f w n p) (leb-true n max e)
    go true e false = omega arith
    go false e c = omega arith

pub few_items : (s : List ℕ) (n p : ℕ) → (items_of s n p).count ≤ 16
unfolding items_of
few_items s n p = many_few (item_of s) 33 16 s n p

pub few_traits : (s : List ℕ) (n p : ℕ) → (config_of s n p).count ≤ 8
unfolding config_of
few_traits s n p = many_few (byte_of s) 1 8 s n p

-- ---- groups
module _ (s : List ℕ) (bytes : Bytes s) where
  abbrev Quorum : ℕ → QuorumMarks → ℕ → Type 0
  Quorum at m n = Run s at n (quorum_bytes s m)

  quorum_ran : (k : Kind) (at : ℕ) → Ran (Quorum at) (quorum_places k s at)
  unfolding quorum_places group_bytes
  quorum_ran k at =
      ran_bind (Listed s at) (Quorum at) (items_place_at k s at) _ (items_ran k s at)
      (λ l p h. ran_bind (Marked s bytes p) (Quorum at) (marks_at s p) _ (marks_ran s bytes p)
      (λ t n g. run_then s at p n _ _ h.1 g))

  abbrev Signing : ℕ → SignersMarks → ℕ → Type 0
  Signing at m n = Run s at n (signers_bytes s m)

  signers_ran : (at : ℕ) → Ran (Signing at) (signers_places s at)
  unfolding signers_places
  signers_ran at =
      ran_bind (Quorum at) (Signing at) (quorum_places Key s at) _ (quorum_ran Key at)
      (λ a p h. ran_bind (Quorum p) (Signing at) (quorum_places Said s p) _ (quorum_ran Said p)
      (λ c n g. run_then s at p n (quorum_bytes s a) (quorum_bytes s c) h g))

  pub quorum-bytes : (k : Kind) (at : ℕ) (m : QuorumMarks) (n : ℕ) → quorum_places k s at ≡ got m n → Run s at n (quorum_bytes s m)
  quorum-bytes k at m n e = ran_got (Quorum at) (quorum_places k s at) m n e (quorum_ran k at)

  pub signers-bytes : (at : ℕ) (m : SignersMarks) (n : ℕ) → signers_places s at ≡ got m n → Run s at n (signers_bytes s m)
  signers-bytes at m n e = ran_got (Signing at) (signers_places s at) m n e (signers_ran at)

  -- "prefix, sn, latest said"
  record Head (at : ℕ) (m : HeadMarks) (n : ℕ) : Type 0 where
    prefix : Run s at (at + 33) (item_bytes (item_of s m.prefix))
    point : Run s (at + 33) n (point_bytes m.sn (item_of s m.said))
    ends : n ≡ at + 82

  first_ran : (at : ℕ) → Ran (Head at) (first_head_places s at)
  unfolding first_head_places point_bytes
  first_ran at =
      ran_bind (Place s at) (Head at) (place_at Prefix s at) _ (place_ran Prefix s at)
      (λ prefix p h. ran_bind (Sequence s bytes p) (Head at) (sn_at s p) _ (sn_ran s bytes p)
      (λ sn q g. ran_bind (Place s q) (Head at) (place_at Said s q) _ (place_ran Said s q)
      (λ said n k.
      let a = h.1.0 in
      let b = g.0 in
      let c = k.1.0 in
      record {
        prefix = rw (← a) h.1.1;
        point = rw (← a) (run_then s p q n _ _ g.1 k.1.1);
        ends = omega arith;
      })))

  -- a head, and the prior behind it
  record Later (at : ℕ) (m : HeadMarks) (n : ℕ) : Type 0 where
    head : Head at m (at + 82)
    ends : n ≡ at + 115

  later_ran : (at : ℕ) → Ran (Later at) (later_head_places s at)
  unfolding later_head_places
  later_ran at =
      ran_bind (Head at) (Later at) (first_head_places s at) _ (first_ran at)
      (λ h p g. ran_bind (Place s p) (Later at) (place_at Said s p) _ (place_ran Said s p)
      (λ prior n k.
      let a = g.ends in
      let b = k.1.0 in
      record { head = record { prefix = g.prefix; point = rw (← a) g.point; ends = refl }; ends = omega arith }))

  head_point : (m : HeadMarks) (n : ℕ) → Head 0 m n → Point s m
  head_point m n h =
      let e : n ≡ 82 = h.ends in
      let p = h.point in
      let w = p.within in
      record { room = omega arith; is = rw e at (run-taken s 33 n _ p) }

  -- the signers of a body, and the witnesses' count behind them
  record Signed (at : ℕ) (b : BodyMarks) : Type 0 where
    end : ℕ
    run : Run s at end (signers_bytes s b.signers)
    count : b.additions.first ≡ end + 1

  signed-signers : (at : ℕ) (b : BodyMarks) → Signed at b → Signers s at b
  signed-signers at b g =
      let r = g.run in
      let a = r.ends in
      let w = r.within in
      let c = g.count in
      let e : b.additions.first - 1 ≡ g.end = omega arith in
      record { starts = omega arith; room = omega arith; count = omega arith; is = rw e (run-taken s at g.end _ r) }

  -- what stands behind the signers of an inception, before zs
  abbrev behind : BodyMarks → List ℕ → List ℕ
  behind b zs =
      items_bytes (items_of s b.additions.count b.additions.first)
      ++ (be 4 b.toad
      ++ (config_bytes (config_of s b.config.count b.config.first) ++ zs))

  record Whole (at : ℕ) (b : BodyMarks) (n : ℕ) : Type 0 where
    signed : Signed at b
    rest : (q : ℕ) (zs : List ℕ) → Run s n q zs → Run s signed.end q (behind b zs)
    forth : at ≤ n

  inception_ran : (at : ℕ) → Ran (Whole at) (inception_body_places s at)
  unfolding inception_body_places
  inception_ran at =
      ran_bind (Signing at) (Whole at) (signers_places s at) _ (signers_ran at)
      (λ signers e h. ran_bind (Listed s e) (Whole at) (items_place_at Key s e) _ (items_ran Key s e)
      (λ witnesses p g. ran_bind (Numbered s bytes 4 p) (Whole at) (num_at 4 s p) _ (number_ran s bytes 4 p)
      (λ toad q k. ran_bind (Traits s q) (Whole at) (config_place_at s q) _ (config_ran s q)
      (λ config n l.
      record {
        signed = record { end = e; run = h; count = g.0 };
        rest = λ z zs r. run_then s e p z _ _ g.1 (run_then s p q z _ _ k.1 (run_then s q n z _ _ l r));
        forth = omega (arith, h.ends, g.1.ends, k.1.ends, l.ends);
      }))))

  abbrev Only : ℕ → BodyMarks → ℕ → Type 0
  Only at b n = Signed at b

  rotation_ran : (at : ℕ) → Ran (Only at) (rotation_body_places s at)
  unfolding rotation_body_places
  rotation_ran at =
      ran_bind (Signing at) (Only at) (signers_places s at) _ (signers_ran at)
      (λ signers e h. ran_bind (Listed s e) (Only at) (items_place_at Key s e) _ (items_ran Key s e)
      (λ additions p g. ran_bind (Listed s p) (Only at) (items_place_at Key s p) _ (items_ran Key s p)
      (λ removals q k. ran_bind (Numbered s bytes 4 q) (Only at) (num_at 4 s q) _ (number_ran s bytes 4 q)
      (λ toad n l. record { end = e; run = h; count = g.0 }))))

  -- ---- events
  abbrev Some : {A : Type 0} → A → ℕ → Type 0
  Some a n = Unit

  some_ran : {A : Type 0} (x : Parse A) → Ran Some x
  some_ran (got a n) = tt
  some_ran (bad r) = tt

  abbrev Event : ℕ → EventMarks → ℕ → Type 0
  Event from m n = Point s m.head × Signers s from m.body

  inceptions : Ran (Event 82) (inception_places s 0)
  unfolding inception_places
  inceptions =
      ran_bind (Head 0) (Event 82) (first_head_places s 0) _ (first_ran 0)
      (λ h p a. ran_bind (Whole p) (Event 82) (inception_body_places s p) _ (inception_ran p)
      (λ b q g. ran_bind Some (Event 82) (tail_places s q) _ (some_ran (tail_places s q))
      (λ t n u. (head_point h p a, rw a.ends at (signed-signers p b g.signed)))))

  rotations : Ran (Event 115) (rotation_places s 0)
  unfolding rotation_places
  rotations =
      ran_bind (Later 0) (Event 115) (later_head_places s 0) _ (later_ran 0)
      (λ h p a. ran_bind (Only p) (Event 115) (rotation_body_places s p) _ (rotation_ran p)
      (λ b q g. ran_bind Some (Event 115) (tail_places s q) _ (some_ran (tail_places s q))
      (λ t n u. (head_point h 82 a.head, rw a.ends at (signed-signers p b g)))))

  abbrev Pointed : EventMarks → ℕ → Type 0
  Pointed m n = Point s m.head

  interactions : Ran Pointed (interaction_places s 0)
  unfolding interaction_places
  interactions =
      ran_bind (Later 0) Pointed (later_head_places s 0) _ (later_ran 0)
      (λ h p a. ran_bind Some Pointed (tail_places s p) _ (some_ran (tail_places s p))
      (λ t n u. head_point h 82 a.head))

  module _ (m : EventMarks) (n : ℕ) where
    pub inception_point : inception_places s 0 ≡ got m n → Point s m.head
    inception_point e = (ran_got (Event 82) (inception_places s 0) m n e inceptions).0

    pub inception-signers : inception_places s 0 ≡ got m n → Signers s 82 m.body
    inception-signers e = (ran_got (Event 82) (inception_places s 0) m n e inceptions).1

    pub rotation_point : rotation_places s 0 ≡ got m n → Point s m.head
    rotation_point e = (ran_got (Event 115) (rotation_places s 0) m n e rotations).0

    pub rotation-signers : rotation_places s 0 ≡ got m n → Signers s 115 m.body
    rotation-signers e = (ran_got (Event 115) (rotation_places s 0) m n e rotations).1

    pub interaction_point : interaction_places s 0 ≡ got m n → Point s m.head
    interaction_point e = ran_got Pointed (interaction_places s 0) m n e interactions

  -- ---- snapshots
  abbrev Latest : ℕ → ℕ → ℕ → Type 0
  Latest at v n = (n ≡ at + 1) × Run s at n (v ∷ [])

  latest_ran : (at : ℕ) → Ran (Latest at) (latest_at s at)
  unfolding latest_at
  latest_ran at =
      ran_bind (Byte s at) (Latest at) (byte_at s at) _ (byte_ran s at)
      (λ v n h. ran_pick (Latest at) (leb v 2) (got v n) 3 (λ e. (h.1.0, byte-run s at v n h)))

  -- "transferable 0 or 1, last establishment sn and said", up to the end
  record Closing (at : ℕ) (m : LastMarks) (n : ℕ) : Type 0 where
    flag : Run s at (at + 1) (flag_byte m.transferable ∷ [])
    point : Run s (at + 1) n (point_bytes m.sn (item_of s m.said))
    size : n ≡ at + 50
    ends : n ≡ length s

  last_ran : (at : ℕ) → Ran (Closing at) (last_places s at)
  unfolding last_places ended point_bytes
  last_ran at =
      ran_bind (Flag s at) (Closing at) (flag_at s at) _ (flag_ran s at)
      (λ transferable p h. ran_bind (Sequence s bytes p) (Closing at) (sn_at s p) _ (sn_ran s bytes p)
      (λ sn q g. ran_bind (Place s q) (Closing at) (place_at Said s q) _ (place_ran Said s q)
      (λ said n k. ran_pick (Closing at) (eqb n (length s)) (got _ n) 3
      (λ e.
      let a = h.0 in
      let b = g.0 in
      let c = k.1.0 in
      record {
        flag = rw (← a) h.1;
        point = rw (← a) (run_then s p q n _ _ g.1 k.1.1);
        size = omega arith;
        ends = eqb-true n (length s) e;
      }))))

  closing_last : (at : ℕ) (l : LastMarks) (n : ℕ) → 83 ≤ at → Closing at l n → Last s l
  closing_last at l n h g =
      let a = g.size in
      let b = g.ends in
      let e : length s - 49 ≡ at + 1 = omega arith in
      record { room = omega arith; is = ap (λ (k : ℕ). drop k s) e ∙ g.point.is ∙ rw (b, drop-length s) (append-nil _) }

  record Snapshot (m : StateMarks) (n : ℕ) : Type 0 where
    point : Point s m.head
    signers : Signers s 83 m.body
    last : Last s m.last
    whole : Run s 0 n (body_bytes (state_of s m))
    ends : n ≡ length s

  -- the fields of a snapshot, one behind another
  snapshot_run : (m : StateMarks) (p q r n : ℕ) → Head 0 m.head p → Latest p m.latest q → Whole q m.body r → Closing r m.last n
      → Run s 0 n (body_bytes (state_of s m))
  unfolding body_bytes head_bytes tail_bytes
  snapshot_run m p q r n h l g c =
      let b = m.body.signers in
      let t = g.rest n _ (run_then s r (r + 1) n (flag_byte m.last.transferable ∷ []) _ c.flag c.point) in
      run_then s 0 p n _ _ (run_then s 0 33 p _ _ h.prefix h.point)
      (run_then s p q n (m.latest ∷ []) _ l.1
      (rw append_assoc at (run_then s q g.signed.end n (signers_bytes s b) _ g.signed.run t)))

  snapshots : Ran Snapshot (snapshot_places s 0)
  unfolding snapshot_places
  snapshots =
      ran_bind (Head 0) Snapshot (first_head_places s 0) _ (first_ran 0)
      (λ h p a. ran_bind (Latest p) Snapshot (latest_at s p) _ (latest_ran p)
      (λ latest q l. ran_bind (Whole q) Snapshot (inception_body_places s q) _ (inception_ran q)
      (λ b r g. ran_bind (Closing r) Snapshot (last_places s r) _ (last_ran r)
      (λ last n c.
      let e : q ≡ 83 = omega (arith, a.ends, l.0) in
      record {
        point = head_point h p a;
        signers = rw e at (signed-signers q b g.signed);
        last = closing_last r last n (omega (arith, e, g.forth)) c;
        whole = snapshot_run (record { head = h; latest = latest; body = b; last = last }) p q r n a l g c;
        ends = c.ends;
      }))))

  module _ (m : StateMarks) (n : ℕ) (e : snapshot_places s 0 ≡ got m n) where
    scanned : Snapshot m n
    scanned = ran_got Snapshot (snapshot_places s 0) m n e snapshots

    pub snapshot_point : Point s m.head
    snapshot_point = scanned.point

    pub snapshot_signers : Signers s 83 m.body
    snapshot_signers = scanned.signers

    pub snapshot_last : Last s m.last
    snapshot_last = scanned.last

    pub snapshot_whole : body_bytes (state_of s m) ≡ s
    snapshot_whole =
        let r = scanned.whole in
        let h : n ≡ length s = scanned.ends in
        sym (r.is ∙ rw (h, drop-length s) (append-nil _))
