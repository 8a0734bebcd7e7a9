-- What calls one after another can rely on: the state that a record leads to is in the buffer for the next call, every buffer of
-- 2,285 bytes has room for it, and a refusal touches nothing. Assumes nothing.
use mathlib.Core.Path.{◌≡◌, refl, sym, ◌∙◌, ap}
use mathlib.Core.Bool.{Bool, true, false}
use mathlib.Core.List.{List, ◌++◌, append-nil, []}
use Prim.Native.Nat.{ℕ, ◌+◌, ◌≤◌}
use native.Mathlib.Omega.{arith}
use borrow.Author.Tests.{eq-eqb, ne_eqb, le-leb}
use lib.Dec.{eqb, leb}
use lib.ListN.{length, take, drop, length-append}
use lib.Seq.{take-append_seam}
use Rattle.lists.specs.Lists.{pick, both}
use Rattle.lists.proofs.Facts.{clash}
use Rattle.answer.specs.declared.Answer.{Answer}
use Rattle.answer.specs.Answer.{refused, accepted, passes}
use Rattle.answer.proofs.Laws.{Clean, clean_first}
use Rattle.event.specs.declared.Event.{Event}
use Rattle.state.specs.declared.KeyState.{KeyState}
use Rattle.state.specs.declared.Holder.{Holder}
use Rattle.state.specs.State.{is_held, holding}
use Rattle.shape.specs.State.{holder_shape}
use Rattle.ingest.specs.declared.Offered.{Offered}
use Rattle.ingest.specs.Judgement.{turned_away, answer_to, offered, settled}
use Rattle.fold.specs.Fold.{fold_answer, folded}
use Rattle.empty.specs.Empty.{nothing}
use Rattle.layout.specs.Records.{Content, event, snapshot, refusal, content_of, First, record_of, truncated, first_of, mark_of, body_length}
use Rattle.decoded.specs.Decoded.{Shaped}
use Rattle.decoded.proofs.Shapes.{decoded_shape}
use Rattle.writer.specs.Writing.{over}
use Rattle.snapshot.specs.Saved.{body_bytes, encoded, saved}
use Rattle.snapshot.proofs.Size.{record-size}
use Rattle.receive.specs.Received.{taken, unless_bad, body_taken, first_taken, received}
use Rattle.receive.proofs.Laws.{stays_taken, stays_unless, stays_received}
use Rattle.canonical.specs.Bytes.{Bytes}
use Rattle.resume.proofs.Real.{Real}
use Rattle.resume.proofs.Decoded.{bytes_take, decoded_real}
use Rattle.resume.proofs.Stays.{good_folds, real_folds}
use Rattle.resume.proofs.Theorems.{Sound, sound_nothing, body_bytes_lem, sound_event, sound_snapshot, short-record, saves, reads_back}
use Rattle.fold_record.specs.Folded.{fold_taken}
use Rattle.found.specs.Kept.{Kept, none, one, alone, snapshot_first, state_in, kept_in}
use Rattle.in_place.specs.Calls.{Left, untouched, after_saving, settled_in, on_state, body_offered_in, offered_in, folded_first, folded_in}

-- ---- what a record makes of a sound holder is sound, and held where the record was accepted; "Details a and b are 0 unless named"
record Fine (o : Offered) : Type 0 where
  sound : Sound o.holder
  held : passes o.answer ≡ true → is_held o.holder ≡ true
  zero : Clean o.answer

holds : (s : KeyState) → is_held (holding s) ≡ true
unfolding is_held
holds s = refl

away : (h : Holder) (n : ℕ) → Sound h → 1 ≤ n → Fine (turned_away h n)
away h n s p =
    let no : eqb n 0 ≡ false = ne_eqb n 0 (λ z. let q : n ≡ 0 = z in absurd (omega arith)) in
    record { sound = s; held = λ e. clash (sym e ∙ no); zero = λ e. clash (sym e ∙ no) }

module _ (h : Holder) (e : Event) where
  zero-offered : Clean (offered h e).answer
  unfolding offered answer_to
  zero-offered = clean_first _

  zero-folded : Clean (folded h e).answer
  unfolding folded fold_answer
  zero-folded = clean_first _

module _ (mark : ℕ) (body : List ℕ) (bytes : Bytes body) (h : Holder) (s : Sound h) where
  -- a body's refusal is 2, 3 or 4
  unread : (n : ℕ) → content_of mark body ≡ refusal n → Fine (turned_away h n)
  unread n is =
      let shape : Shaped (refusal n) = rw is at (decoded_shape mark body) in
      let two = shape.0 in
      away h n s (omega arith)

  fine_taken : (c : Content) → content_of mark body ≡ c → Fine (taken h c)
  unfolding offered
  fine_taken (event e) is =
      record { sound = sound_event mark body bytes h e is s; held = λ p. rw p (holds _); zero = zero-offered h e }
  fine_taken (snapshot k) is = by_test (is_held h) refl
    where
      by_test : (t : Bool) → is_held h ≡ t → Fine (settled h (pick t (refused 5 0 0) accepted) (holding k))
      by_test true e = away h 5 s (omega arith)
      by_test false e = record { sound = sound_snapshot mark body bytes k is; held = λ p. holds k; zero = λ p. refl }
  fine_taken (refusal n) is = unread n is

  fine_folded : (c : Content) → content_of mark body ≡ c → Fine (fold_taken h c)
  unfolding folded
  fine_folded (event e) is =
      let shape : Shaped (event e) = rw is at (decoded_shape mark body) in
      let real : Real (event e) = rw is at (decoded_real mark body bytes) in
      record { sound = record { shape = good_folds h e s.shape shape; real = real_folds h e s.real real }; held = λ p. rw p (holds _); zero = zero-folded h e }
  fine_folded (snapshot k) is = away h 2 s (omega arith)
  fine_folded (refusal n) is = unread n is

-- the first record of a byte string, by the frame's test
abbrev framed : Bool → List ℕ → First
framed t s = pick t (record_of (mark_of s) (content_of (mark_of s) (take (body_length s) (drop 4 s))) (4 + body_length s)) truncated

abbrev whole : List ℕ → Bool
whole s = both (leb 4 (length s)) (leb (4 + body_length s) (length s))

first-framed : (s : List ℕ) → first_of s ≡ framed (whole s) s
unfolding first_of
first-framed s = refl

good_as : (h : Holder) → Sound h → (x : Offered) → unless_bad h x ≡ x
good_as h s x = rw (eq-eqb (holder_shape h) 0 s.shape)

module _ (h : Holder) (sound : Sound h) (s : List ℕ) (bytes : Bytes s) where
  abbrev content : Content
  content = content_of (mark_of s) (take (body_length s) (drop 4 s))

  fine_received : Fine (received h s).offered
  unfolding received
  fine_received = rw first-framed (by_test (whole s))
    where
      by_test : (t : Bool) → Fine (first_taken h (length s) (framed t s)).offered
      by_test true =
          rw (good_as h sound (taken h content)) (fine_taken (mark_of s) (take (body_length s) (drop 4 s)) (body_bytes_lem s bytes) h sound content refl)
      by_test false = rw (good_as h sound (turned_away h 1)) (away h 1 sound (omega arith))

  fine_first : Fine (folded_first h (first_of s))
  fine_first = rw first-framed (by_test (whole s))
    where
      by_mark : (t : Bool) → Fine (pick t (turned_away h 2) (fold_taken h content))
      by_mark true = away h 2 sound (omega arith)
      by_mark false = fine_folded (mark_of s) (take (body_length s) (drop 4 s)) (body_bytes_lem s bytes) h sound content refl

      by_test : (t : Bool) → Fine (folded_first h (framed t s))
      by_test true = rw (good_as h sound (pick (eqb (mark_of s) 0x4B53) (turned_away h 2) (fold_taken h content))) (by_mark (eqb (mark_of s) 0x4B53))
      by_test false = rw (good_as h sound (turned_away h 1)) (away h 1 sound (omega arith))

-- ---- what bytes hold is sound
sound_none : (n : ℕ) → Sound (none n).holder
unfolding is_held
sound_none n = sound_nothing nothing refl

module _ (s : List ℕ) (bytes : Bytes s) where
  sound_alone : (t : Bool) (c : Content) → content_of (mark_of s) (take (body_length s) (drop 4 s)) ≡ c → Sound (alone t c).holder
  sound_alone true (snapshot k) is = sound_snapshot (mark_of s) (take (body_length s) (drop 4 s)) (body_bytes_lem s bytes) k is
  sound_alone false (snapshot k) is = sound_none 3
  sound_alone t (refusal n) is = sound_none n
  sound_alone t (event e) is = sound_none 2

  sound_marked : (t u : Bool) → Sound (pick t (alone u (content_of (mark_of s) (take (body_length s) (drop 4 s)))) (none 2)).holder
  sound_marked true u = sound_alone u (content_of (mark_of s) (take (body_length s) (drop 4 s))) refl
  sound_marked false u = sound_none 2

  sound_framed : (t : Bool) → Sound (snapshot_first (length s) (framed t s)).holder
  sound_framed true = sound_marked (eqb (mark_of s) 0x4B53) (eqb (4 + body_length s) (length s))
  sound_framed false = sound_none 1

  pub sound_state : Sound (state_in s).holder
  unfolding state_in
  sound_state = rw first-framed (by_test (eqb (length s) 0))
    where
      by_test : (t : Bool) → Sound (pick t (none 0) (snapshot_first (length s) (framed (whole s) s))).holder
      by_test true = sound_none 0
      by_test false = sound_framed (whole s)

pub sound_kept : (buf : List ℕ) (used : ℕ) → Bytes buf → Sound (kept_in buf used).holder
unfolding kept_in
sound_kept buf used bytes = by_test (leb used (length buf))
  where
    by_test : (t : Bool) → Sound (pick t (state_in (take used buf)) (none 1)).holder
    by_test true = sound_state (take used buf) (bytes_take used buf bytes)
    by_test false = sound_none 1

-- ---- a state that was saved is what the buffer holds
as_held : (h : Holder) → is_held h ≡ true → holding h.state ≡ h
unfolding is_held
as_held h e = ap (λ (t : Bool). record { held = t; state = h.state }) (sym e)

abbrev size : Holder → ℕ
size h = length (encoded h.state)

module _ (h : Holder) (sound : Sound h) (held : is_held h ≡ true) where
  some : size h ≡ 0 → ⊥
  some z =
      let four = record-size h.state (length (body_bytes h.state)) refl in
      omega arith

  state_back : state_in (encoded h.state) ≡ one h
  unfolding state_in
  state_back =
      let f : first_of (encoded h.state) ≡ record_of 0x4B53 (snapshot h.state) (size h) = rw append-nil at (reads_back h sound held []) in
      rw (ne_eqb (size h) 0 some, f, eq-eqb (size h) (size h) refl) (ap one (as_held h held))

  pub kept_back : (buf : List ℕ) → size h ≤ length buf → kept_in (over 0 (encoded h.state) buf) (size h) ≡ one h
  unfolding kept_in over
  kept_back buf room =
      let rest = drop (0 + size h) buf in
      let l : length (encoded h.state ++ rest) ≡ size h + length rest = length-append (encoded h.state) rest in
      let p : size h ≤ length (encoded h.state ++ rest) = omega arith in
      rw (le-leb (size h) (length (encoded h.state ++ rest)) p, take-append_seam (encoded h.state) rest) state_back

-- ---- "Every refusal leaves state and buffers untouched."
abbrev choice : Bool → Bool → Bool → Answer × List ℕ → Answer × List ℕ → Answer × List ℕ → Answer × List ℕ → Answer × List ℕ
choice t u v w x y z = pick t (pick u (pick v w x) y) z

saved-untouched : (h : Holder) (buf : List ℕ) → passes (saved h buf).0 ≡ false → (saved h buf).1 ≡ buf
unfolding saved
saved-untouched h buf = by_test (eqb (holder_shape h) 0) (is_held h) (leb (size h) (length buf)) (refused 0 (size h) 0, over 0 (encoded h.state) buf) refl
  where
    by_test : (t u v : Bool) (w : Answer × List ℕ) → passes w.0 ≡ true
        → passes (choice t u v w (refused 41 (size h) 0, buf) (refused 8 0 0, buf) (refused (holder_shape h) 0 0, buf)).0 ≡ false
        → (choice t u v w (refused 41 (size h) 0, buf) (refused 8 0 0, buf) (refused (holder_shape h) 0 0, buf)).1 ≡ buf
    by_test true true true w a p = clash (sym a ∙ p)
    by_test true true false w a p = refl
    by_test true false v w a p = refl
    by_test false u v w a p = refl

abbrev Same : List ℕ → ℕ → Left → Type 0
Same buf used l = passes l.answer ≡ false → (l.bytes ≡ buf) × (l.used ≡ used)

module _ (buf : List ℕ) (used : ℕ) where
  -- where saving did not pass, nothing was written; where it did, the answer is the record's
  same-saved : (x : Answer) (h : Holder) → passes x ≡ true → Same buf used (after_saving used x (saved h buf))
  same-saved x h a = by_test (passes (saved h buf).0) refl
    where
      by_test : (t : Bool) → passes (saved h buf).0 ≡ t
          → Same buf used (pick t (record { answer = x; bytes = (saved h buf).1; used = (saved h buf).0.a.low }) (record { answer = (saved h buf).0; bytes = (saved h buf).1; used = used }))
      by_test true e p = clash (sym a ∙ p)
      by_test false e p = (saved-untouched h buf e, refl)

  same-settled : (o : Offered) → Same buf used (settled_in buf used o)
  unfolding settled_in
  same-settled o = by_test (passes o.answer) refl
    where
      by_test : (t : Bool) → passes o.answer ≡ t → Same buf used (pick t (after_saving used o.answer (saved o.holder buf)) (untouched buf used o.answer))
      by_test true e = same-saved o.answer o.holder e
      by_test false e = λ p. (refl, refl)

  same_state : (f : Holder → Offered) (k : Kept) → Same buf used (on_state buf used f k)
  same_state f k = by_test (eqb k.number 0)
    where
      by_test : (t : Bool) → Same buf used (pick t (settled_in buf used (f k.holder)) (untouched buf used (refused k.number 0 0)))
      by_test true = same-settled (f k.holder)
      by_test false = λ p. (refl, refl)

  pub refused-offer : (s : List ℕ) → Same buf used (offered_in buf used s)
  unfolding offered_in
  refused-offer s = same_state (λ h. (received h s).offered) (kept_in buf used)

  pub refused-fold : (s : List ℕ) → Same buf used (folded_in buf used s)
  unfolding folded_in
  refused-fold s = same_state (λ h. folded_first h (first_of s)) (kept_in buf used)

-- ---- an accepted record: its state is in the buffer, and the next call finds it there
abbrev leaves : List ℕ → Holder → Left
leaves buf h = record { answer = accepted; bytes = over 0 (encoded h.state) buf; used = size h }

-- whatever it is that the call makes of the state
module _ (buf : List ℕ) (used : ℕ) (good : (kept_in buf used).number ≡ 0) (f : Holder → Offered) (fine : Fine (f (kept_in buf used).holder)) (took : passes (f (kept_in buf used).holder).answer ≡ true) where
  abbrev after : Holder
  after = (f (kept_in buf used).holder).holder

  saved_on : size after ≤ length buf → on_state buf used f (kept_in buf used) ≡ leaves buf after
  unfolding settled_in
  saved_on room = rw (eq-eqb (kept_in buf used).number 0 good, took, saves after fine.sound (fine.held took) buf room, fine.zero took)

  found_on : size after ≤ length buf → (l : Left) → l ≡ leaves buf after → kept_in l.bytes l.used ≡ one after
  found_on room l is = rw is (kept_back after fine.sound (fine.held took) buf room)

  enough : 2285 ≤ length buf → size after ≤ length buf
  enough p =
      let q = short-record after fine.sound (fine.held took) in
      omega arith

-- refused or not, where the longest state has room: the buffer goes where the holder goes
module _ (buf : List ℕ) (used : ℕ) (good : (kept_in buf used).number ≡ 0) (large : 2285 ≤ length buf) (f : Holder → Offered) (fine : Fine (f (kept_in buf used).holder)) (stays : passes (f (kept_in buf used).holder).answer ≡ false → (f (kept_in buf used).holder).holder ≡ (kept_in buf used).holder) where
  abbrev gets : Offered
  gets = f (kept_in buf used).holder

  abbrev call : Left
  call = on_state buf used f (kept_in buf used)

  accepted_on : passes gets.answer ≡ true → call ≡ leaves buf gets.holder
  accepted_on took = saved_on buf used good f fine took (enough buf used good f fine took large)

  refused_on : passes gets.answer ≡ false → call ≡ untouched buf used gets.answer
  unfolding settled_in
  refused_on e = rw (eq-eqb (kept_in buf used).number 0 good, e)

  on_answer : call.answer ≡ gets.answer
  on_answer = by_test (passes gets.answer) refl
    where
      by_test : (t : Bool) → passes gets.answer ≡ t → call.answer ≡ gets.answer
      by_test true took = ap (λ (l : Left). l.answer) (accepted_on took) ∙ sym (fine.zero took)
      by_test false e = ap (λ (l : Left). l.answer) (refused_on e)

  on_kept : kept_in call.bytes call.used ≡ one gets.holder
  on_kept = by_test (passes gets.answer) refl
    where
      by_test : (t : Bool) → passes gets.answer ≡ t → kept_in call.bytes call.used ≡ one gets.holder
      by_test true took = found_on buf used good f fine took (enough buf used good f fine took large) call (accepted_on took)
      by_test false e =
          ap (λ (l : Left). kept_in l.bytes l.used) (refused_on e)
          ∙ ap (λ (n : ℕ). record { number = n; holder = (kept_in buf used).holder }) good
          ∙ ap one (sym (stays e))

abbrev pub made : List ℕ → ℕ → List ℕ → Offered
made buf used s = (received (kept_in buf used).holder s).offered

abbrev pub made_by_fold : List ℕ → ℕ → List ℕ → Offered
made_by_fold buf used s = folded_first (kept_in buf used).holder (first_of s)

module _ (buf : List ℕ) (used : ℕ) (s : List ℕ) (bytes : Bytes buf) (input : Bytes s) (good : (kept_in buf used).number ≡ 0) where
  -- of an offer
  module _ (took : passes (made buf used s).answer ≡ true) where
    abbrev next : Holder
    next = (made buf used s).holder

    abbrev offers : Holder → Offered
    offers h = (received h s).offered

    fine : Fine (made buf used s)
    fine = fine_received (kept_in buf used).holder (sound_kept buf used bytes) s input

    pub saved_in : size next ≤ length buf → offered_in buf used s ≡ leaves buf next
    unfolding offered_in
    saved_in room = saved_on buf used good offers fine took room

    pub found_again : size next ≤ length buf → kept_in (offered_in buf used s).bytes (offered_in buf used s).used ≡ one next
    found_again room = found_on buf used good offers fine took room (offered_in buf used s) (saved_in room)

    pub suffices : 2285 ≤ length buf → size next ≤ length buf
    suffices p = enough buf used good offers fine took p

  -- of a fold
  module _ (took : passes (made_by_fold buf used s).answer ≡ true) where
    abbrev folded_next : Holder
    folded_next = (made_by_fold buf used s).holder

    abbrev folds : Holder → Offered
    folds h = folded_first h (first_of s)

    folded_fine : Fine (made_by_fold buf used s)
    folded_fine = fine_first (kept_in buf used).holder (sound_kept buf used bytes) s input

    pub folded_saved_in : size folded_next ≤ length buf → folded_in buf used s ≡ leaves buf folded_next
    unfolding folded_in
    folded_saved_in room = saved_on buf used good folds folded_fine took room

    pub folded_found_again : size folded_next ≤ length buf → kept_in (folded_in buf used s).bytes (folded_in buf used s).used ≡ one folded_next
    folded_found_again room = found_on buf used good folds folded_fine took room (folded_in buf used s) (folded_saved_in room)

    pub folded_suffices : 2285 ≤ length buf → size folded_next ≤ length buf
    folded_suffices p = enough buf used good folds folded_fine took p

-- ---- a byte string, and a body by its mark: what is answered and what is held after it are the definition's
module _ (buf : List ℕ) (used : ℕ) (s : List ℕ) (bytes : Bytes buf) (input : Bytes s) (good : (kept_in buf used).number ≡ 0) (large : 2285 ≤ length buf) where
  abbrev gives : Holder → Offered
  gives h = (received h s).offered

  fine_gives : Fine (gives (kept_in buf used).holder)
  fine_gives = fine_received (kept_in buf used).holder (sound_kept buf used bytes) s input

  pub offer-answer : (offered_in buf used s).answer ≡ (received (kept_in buf used).holder s).offered.answer
  unfolding offered_in
  offer-answer = on_answer buf used good large gives fine_gives (stays_received (kept_in buf used).holder s)

  pub offer-kept : kept_in (offered_in buf used s).bytes (offered_in buf used s).used ≡ one (received (kept_in buf used).holder s).offered.holder
  unfolding offered_in
  offer-kept = on_kept buf used good large gives fine_gives (stays_received (kept_in buf used).holder s)

module _ (buf : List ℕ) (used mark : ℕ) (body : List ℕ) (bytes : Bytes buf) (input : Bytes body) (good : (kept_in buf used).number ≡ 0) (large : 2285 ≤ length buf) where
  abbrev now : Holder
  now = (kept_in buf used).holder

  abbrev then : Holder → Offered
  then h = unless_bad h (taken h (content_of mark body))

  fine_then : Fine (then now)
  fine_then =
      let sound = sound_kept buf used bytes in
      rw (good_as now sound (taken now (content_of mark body))) (fine_taken mark body input now sound (content_of mark body) refl)

  stays_then : passes (then now).answer ≡ false → (then now).holder ≡ now
  stays_then = stays_unless now (taken now (content_of mark body)) (stays_taken now (content_of mark body))

  pub body_answer : (body_offered_in buf used mark body).answer ≡ (body_taken now mark body).answer
  unfolding body_offered_in body_taken
  body_answer = on_answer buf used good large then fine_then stays_then

  pub body_kept : kept_in (body_offered_in buf used mark body).bytes (body_offered_in buf used mark body).used ≡ one (body_taken now mark body).holder
  unfolding body_offered_in body_taken
  body_kept = on_kept buf used good large then fine_then stays_then
