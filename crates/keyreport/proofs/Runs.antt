-- A run: at each turn the lines that are written, those that stand in the buffer and the report of what is left of the input are
-- the report of the whole input. Assumes nothing.
--     Progress           what holds at each turn
--     bytes_of           a slice's numbers are bytes
--     stands_there       a record that was found stands in the window; begins_there: what is left of the input begins with it
--     run_begins         at the first turn
--     run_goes_on        a record
--     run_ends           the input's end
use Rattle.std.proofs.Common.{◌≡◌, refl, sym, ap, ◌∙◌, subst, List, ◌∷◌, ◌++◌, inr, ℕ, suc, ◌+◌, ◌-◌, ◌≤◌, ◌<◌, arith, append_assoc, length, take, drop, get_or, length-drop, Option, Some, None, IfSome, Result, Ok, Err, OnOk, Fits, w8, []}
use Rattle.std.specs.Io.KnownBytes.{Appends}
use Rattle.std.proofs.KnownBytes.{Appends-nil, Appends-trans}
use Rattle.answer.specs.declared.Answer.{Answer}
use Rattle.state.specs.declared.Holder.{Holder}
use Rattle.empty.specs.Empty.{nothing}
use Rattle.layout.specs.Records.{body_length}
use Rattle.canonical.specs.Bytes.{Bytes}
use Rattle.lines.specs.Lines.{longest}
use Rattle.receive.specs.Received.{received, body_taken}
use Rattle.found.specs.Kept.{Kept, one, kept_in}
use Rattle.resume.proofs.Decoded.{bytes_take, bytes_drop}
use Rattle.in_place.specs.Calls.{Left, body_offered_in, offered_in}
use Rattle.in_place.proofs.Theorems.{offer-kept}
use Rattle.report.specs.declared.Tally.{Tally}
use Rattle.report.specs.declared.Told.{Told}
use Rattle.report.specs.Report.{untold, counted, line_of, last_line, told, cut_answer, reported, report}
use Rattle.report.proofs.Stream.{Whole, cut_step, end_step}
use Rattle.stream.specs.declared.Span.{Span}
use Rattle.stream.specs.declared.Place.{Place}
use Rattle.stream.specs.declared.Next.{Next}
use Rattle.stream.specs.declared.Next.TheVariants as N
use Rattle.stream.specs.Window.{size_of, Stands, Found}
use Rattle.stream.specs.Left.{left_of, Begins, Gives}
use Rattle.keyreport.specs.Run.{mark_at, body_at, Flushed, cut_lines, Finished}
use Rattle.keyreport.proofs.Laws.{told_tally, told_behind}
use Rattle.keyreport.proofs.Shown.{step_shown, answer_shown, state_shown, cut_shown, begins}

pub bytes_of : (xs : List ℕ) → ((i : ℕ) → Fits w8 (get_or xs i 0)) → Bytes xs
bytes_of [] h = tt
bytes_of (x ∷ xs) h = ((h 0).fits, bytes_of xs (λ i. h (suc i)))

pub body_bytes : (w : List ℕ) (p : Place) → ((i : ℕ) → Fits w8 (get_or w i 0)) → Bytes (body_at w p)
body_bytes w p h = bytes_take (p.to - (p.from + 4)) (drop (p.from + 4) w) (bytes_drop (p.from + 4) w (bytes_of w h))

-- ---- A record that was found
module _ {E : Type 0} (x : Result Next E) (n : Next) (p : Place) (is : x ≡ Ok n) (one : n ≡ N.Record p) where
  pub stands_there : (before after : List ℕ) (old : Span) → Found before old after x → Stands before old after p
  stands_there before after old h = subst (Found before old after) (is ∙ ap Ok one) h

  pub begins_there : (left left' : Option (List ℕ)) (v : List ℕ) → IfSome left (λ r. Gives r v left' x) → IfSome left (λ r. Begins r v left' p)
  begins_there left left' v h = subst (λ (y : Result Next E). IfSome left (λ r. Gives r v left' y)) (is ∙ ap Ok one) h

-- ---- Bytes that are no record: their line, and the last line, behind the lines so far
pub cut_told : {E : Type 0} (buf : List ℕ) (used : ℕ) (t : Tally) (at : ℕ) (out : List ℕ) (x : Answer) (buf' : List ℕ) (used' : ℕ) (last : Told) (out' : List ℕ) (n : ℕ) (before mid after : Option (List ℕ)) (r : Result (Unit {0}) E)
    → at + longest ≤ length out → x ≡ (offered_in buf used []).answer → buf' ≡ (offered_in buf used []).bytes → used' ≡ (offered_in buf used []).used
    → last ≡ (told t 0 x at out).0 → out' ≡ (told t 0 x at out).1 → Flushed {E = Unit {0}} before mid (take last.at out') out' (Ok n)
    → OnOk r (Appends mid after (take n out' ++ last_line last.tally (kept_in buf' used').holder))
    → OnOk r (Appends before after (take at out ++ cut_lines t (offered_in buf used [])))
cut_told buf used t at out x buf' used' last out' n before mid after (Err e) room a f u l o flushed w = tt
cut_told buf used t at out x buf' used' last out' n before mid after (Ok y) room a f u l o (wrote, appended, kept) w =
    let z : Left = offered_in buf used [] in
    let end : List ℕ = last_line (counted t z.answer) (kept_in z.bytes z.used).holder in
    let tally : last.tally ≡ counted t z.answer = ap (λ (v : Told). v.tally) l ∙ told_tally t 0 x at out ∙ ap (counted t) a in
    let put : take last.at out' ≡ take at out ++ line_of t 0 z.answer =
    ap (λ (v : Told). take v.at out') l
    ∙ ap (take (told t 0 x at out).0.at) o
    ∙ told_behind t 0 x at out room
    ∙ ap (λ (v : Answer). take at out ++ line_of t 0 v) a in
    let same : last_line last.tally (kept_in buf' used').holder ≡ end =
    ap (λ (v : Tally). last_line v (kept_in buf' used').holder) tally
    ∙ ap (λ (v : List ℕ). last_line (counted t z.answer) (kept_in v used').holder) f
    ∙ ap (λ (v : ℕ). last_line (counted t z.answer) (kept_in z.bytes v).holder) u in
    let e : wrote ++ (take n out' ++ last_line last.tally (kept_in buf' used').holder) ≡ take at out ++ cut_lines t z =
    ap (λ (xs : List ℕ). wrote ++ (take n out' ++ xs)) same
    ∙ sym (append_assoc wrote (take n out') end)
    ∙ ap (λ (xs : List ℕ). xs ++ end) (sym kept ∙ put)
    ∙ append_assoc (take at out) (line_of t 0 z.answer) end in
    subst (Appends before after) e (Appends-trans before mid after _ _ appended w)

pub record Progress (s : List ℕ) (before after : Option (List ℕ)) (lines : List ℕ) (left : Option (List ℕ)) (t : Tally) (kept : Kept) : Type 0 where
  pub wrote : List ℕ
  pub holder : Holder
  pub rest : List ℕ
  pub most : ℕ
  pub left_is : left ≡ Some rest
  pub held : kept ≡ one holder
  pub enough : length rest ≤ most
  pub appended : Appends before after wrote
  pub total : report s ≡ wrote ++ (lines ++ reported (suc most) t holder rest)

begins_run : (s : List ℕ) (before : Option (List ℕ)) (lines : List ℕ) (left : Option (List ℕ)) (buf : List ℕ) (used : ℕ) → lines ≡ [] → left ≡ Some s → used ≡ 0
    → Progress s before before lines left untold (kept_in buf used)
begins_run s before lines left buf used none is zero-used =
    record {
      wrote = [];
      holder = nothing;
      rest = s;
      most = length s;
      left_is = is;
      held = ap (kept_in buf) zero-used ∙ begins buf;
      enough = omega arith;
      appended = Appends-nil before;
      total = rw none;
    }

-- what is found is found of what is left
given : (known : Option (List ℕ)) (rest : List ℕ) (G : List ℕ → Type 0) → known ≡ Some rest → IfSome known G → G rest
given known rest G e g = let h : IfSome (Some rest) G = subst (λ (k : Option (List ℕ)). IfSome k G) e g in h

Some_same : (a b : List ℕ) → Some a ≡ Some b → a ≡ b
Some_same a b e = cc

module _ (s : List ℕ) (before mid after : Option (List ℕ)) (lines : List ℕ) (left : Option (List ℕ)) (t : Tally) (buf : List ℕ) (used : ℕ) (pr : Progress s before mid lines left t (kept_in buf used)) where
  -- the state's bytes are good
  good : (kept_in buf used).number ≡ 0
  good = ap (λ (k : Kept). k.number) pr.held

  same_holder : (kept_in buf used).holder ≡ pr.holder
  same_holder = ap (λ (k : Kept). k.holder) pr.held

  -- lines that end the report
  ends_with : (last : List ℕ) → reported (suc pr.most) t pr.holder pr.rest ≡ last → Appends mid after (lines ++ last) → Appends before after (report s)
  ends_with last e a =
      let f : report s ≡ pr.wrote ++ (lines ++ last) = pr.total ∙ ap (λ (xs : List ℕ). pr.wrote ++ (lines ++ xs)) e in
      subst (Appends before after) (sym f) (Appends-trans before mid after _ _ pr.appended a)

  ends_run : (v : List ℕ) (left' : Option (List ℕ)) → IfSome left (λ r. r ≡ []) → Appends mid after (lines ++ last_line t (kept_in buf used).holder) → Appends before after (report s)
  ends_run v left' g f =
      let none : pr.rest ≡ [] = given left pr.rest _ pr.left_is g in
      let e : reported (suc pr.most) t pr.holder pr.rest ≡ last_line t (kept_in buf used).holder =
      rw (none, same_holder) (end_step pr.most t pr.holder) in
      ends_with _ e f

  cut_run : (v : List ℕ) (left' : Option (List ℕ)) → Bytes buf → 2285 ≤ length buf → IfSome left (λ r. (0 < length r) × (length r < size_of r)) → Appends mid after (lines ++ cut_lines t (offered_in buf used [])) → Appends before after (report s)
  cut_run v left' bytes large g f =
      let short : (0 < length pr.rest) × (length pr.rest < size_of pr.rest) = given left pr.rest _ pr.left_is g in
      let one_more : pr.most ≡ suc (pr.most - 1) = (let h = pr.enough in omega (arith, short.0)) in
      let x : (offered_in buf used []).answer ≡ cut_answer pr.holder = cut_shown buf used bytes large good ∙ ap cut_answer same_holder in
      let h : (kept_in (offered_in buf used []).bytes (offered_in buf used []).used).holder ≡ (received pr.holder []).offered.holder =
      ap (λ (k : Kept). k.holder) (offer-kept buf used [] bytes tt good large) ∙ ap (λ (y : Holder). (received y []).offered.holder) same_holder in
      let e : reported (suc pr.most) t pr.holder pr.rest ≡ cut_lines t (offered_in buf used []) =
      rw (one_more, x, h) (cut_step (pr.most - 1) t pr.holder pr.rest short.0 (inr short.1)) in
      ends_with _ e f

  module _ (w v : List ℕ) (old : Span) (p : Place) (left' : Option (List ℕ)) (st : Stands w old v p) (large_window : 10090 < length v) (g : IfSome left (λ r. Begins r v left' p)) (bytes : Bytes buf) (body_bytes : Bytes (body_at v p)) (large : 2285 ≤ length buf) where
    b : Begins pr.rest v left' p
    b = given left pr.rest _ pr.left_is g

    four : 4 ≤ length pr.rest
    four = let i = b.whole in omega arith

    whole : Whole pr.rest
    whole = (four, b.whole)

    abbrev x : Answer
    x = (body_taken pr.holder (mark_at v p) (body_at v p)).answer

    abbrev moved : Holder
    moved = (body_taken pr.holder (mark_at v p) (body_at v p)).holder

    abbrev behind : List ℕ
    behind = drop (4 + body_length pr.rest) pr.rest

    same_answer : (body_offered_in buf used (mark_at v p) (body_at v p)).answer ≡ x
    same_answer = answer_shown buf used bytes large good (mark_at v p) (body_at v p) body_bytes ∙ ap (λ (h : Holder). (body_taken h (mark_at v p) (body_at v p)).answer) same_holder

    same_state : kept_in (body_offered_in buf used (mark_at v p) (body_at v p)).bytes (body_offered_in buf used (mark_at v p) (body_at v p)).used ≡ one moved
    same_state = state_shown buf used bytes large good (mark_at v p) (body_at v p) body_bytes ∙ ap (λ (h : Holder). one (body_taken h (mark_at v p) (body_at v p)).holder) same_holder

    shorter : length behind ≤ pr.most - 1
    shorter = let h = pr.enough in simp length-drop (omega (arith, four))

    goes : report s ≡ pr.wrote ++ (lines ++ (line_of t (mark_at v p) x ++ reported (suc (pr.most - 1)) (counted t x) moved behind))
    goes =
        let one_more : pr.most ≡ suc (pr.most - 1) = (let h = pr.enough in omega (arith, four)) in
        let e : reported (suc pr.most) t pr.holder pr.rest ≡ line_of t (mark_at v p) x ++ reported pr.most (counted t x) moved behind =
        step_shown w old v p st large_window pr.rest whole b.shown pr.most t pr.holder in
        pr.total
        ∙ ap (λ (xs : List ℕ). pr.wrote ++ (lines ++ xs)) e
        ∙ ap (λ (n : ℕ). pr.wrote ++ (lines ++ (line_of t (mark_at v p) x ++ reported n (counted t x) moved behind))) one_more

    -- the line is put behind the others, and what is not written stands
    goes_on : (answer : Answer) (buf' : List ℕ) (used' mark : ℕ) (out out' : List ℕ) (at n : ℕ) (last : Told) → mark ≡ mark_at v p
        → answer ≡ (body_offered_in buf used mark (body_at v p)).answer → buf' ≡ (body_offered_in buf used mark (body_at v p)).bytes → used' ≡ (body_offered_in buf used mark (body_at v p)).used
        → lines ≡ take at out → at + longest ≤ length out → last ≡ (told t mark answer at out).0 → out' ≡ (told t mark answer at out).1
        → Flushed {E = Unit {0}} mid after (take last.at out') out' (Ok n)
        → Progress s before after (take n out') (left_of v (record { from = p.to; to = p.end }) left') last.tally (kept_in buf' used')
    goes_on answer buf' used' mark out out' at n last m a f u here room l o (wrote, appended, kept) =
        let an : answer ≡ x = a ∙ ap (λ (i : ℕ). (body_offered_in buf used i (body_at v p)).answer) m ∙ same_answer in
        let tally : last.tally ≡ counted t x = ap (λ (y : Told). y.tally) l ∙ told_tally t mark answer at out ∙ ap (counted t) an in
        let put : take last.at out' ≡ lines ++ line_of t (mark_at v p) x =
        ap (λ (y : Told). take y.at out') l
        ∙ ap (take (told t mark answer at out).0.at) o
        ∙ told_behind t mark answer at out room
        ∙ ap (λ (xs : List ℕ). xs ++ line_of t mark answer) (sym here)
        ∙ ap (λ (i : ℕ). lines ++ line_of t i answer) m
        ∙ ap (λ (y : Answer). lines ++ line_of t (mark_at v p) y) an in
        let line : lines ++ line_of t (mark_at v p) x ≡ wrote ++ take n out' = sym put ∙ kept in
        let r : List ℕ = reported (suc (pr.most - 1)) (counted t x) moved behind in
        record {
          wrote = pr.wrote ++ wrote;
          holder = moved;
          rest = behind;
          most = pr.most - 1;
          left_is = b.behind;
          held = rw (f, u, m) same_state;
          enough = shorter;
          appended = Appends-trans before mid after pr.wrote wrote pr.appended appended;
          total =
              rw tally
              (goes
              ∙ ap (λ (xs : List ℕ). pr.wrote ++ xs) (sym (append_assoc lines (line_of t (mark_at v p) x) r) ∙ ap (λ (xs : List ℕ). xs ++ r) line ∙ append_assoc wrote (take n out') r)
              ∙ sym (append_assoc pr.wrote wrote (take n out' ++ r)));
        }

-- ---- The same, where it may be that the reader does not say which bytes it has
pub run_begins : (known before : Option (List ℕ)) (w buf : List ℕ) (used : ℕ) (t : Tally) → t ≡ untold → used ≡ 0
    → IfSome known (λ s. Progress s before before [] (left_of w (record { from = 0; to = 0 }) known) t (kept_in buf used))
run_begins None before w buf used t e z = tt
run_begins (Some s) before w buf used t e z =
    subst (λ (y : Tally). Progress s before before [] (Some s) y (kept_in buf used)) (sym e) (begins_run s before [] (Some s) buf used refl refl z)

module _ (known before mid after : Option (List ℕ)) (lines : List ℕ) (left : Option (List ℕ)) (t : Tally) (buf : List ℕ) (used : ℕ) (pr : IfSome known (λ s. Progress s before mid lines left t (kept_in buf used))) where
  pub run_goes_on : (w v : List ℕ) (old : Span) (p : Place) (left' : Option (List ℕ)) → Stands w old v p → 10090 < length v → IfSome left (λ r. Begins r v left' p)
      → Bytes buf → Bytes (body_at v p) → 2285 ≤ length buf
      → (answer : Answer) (buf' : List ℕ) (used' mark : ℕ) (out out' : List ℕ) (at n : ℕ) (last : Told) → mark ≡ mark_at v p
      → answer ≡ (body_offered_in buf used mark (body_at v p)).answer → buf' ≡ (body_offered_in buf used mark (body_at v p)).bytes → used' ≡ (body_offered_in buf used mark (body_at v p)).used
      → lines ≡ take at out → at + longest ≤ length out → last ≡ (told t mark answer at out).0 → out' ≡ (told t mark answer at out).1
      → Flushed {E = Unit {0}} mid after (take last.at out') out' (Ok n)
      → IfSome known (λ s. Progress s before after (take n out') (left_of v (record { from = p.to; to = p.end }) left') last.tally (kept_in buf' used'))
  run_goes_on w v old p left' st wide g bytes body large answer buf' used' mark out out' at n last m a f u here room l o flushed = go known pr
    where
      go : (known : Option (List ℕ)) → IfSome known (λ s. Progress s before mid lines left t (kept_in buf used))
          → IfSome known (λ s. Progress s before after (take n out') (left_of v (record { from = p.to; to = p.end }) left') last.tally (kept_in buf' used'))
      go None q = tt
      go (Some s) q = goes_on s before mid after lines left t buf used q w v old p left' st wide g bytes body large answer buf' used' mark out out' at n last m a f u here room l o flushed

  pub run_ends : {E F : Type 0} (r : Result (Unit {0}) E) (v : List ℕ) (left' : Option (List ℕ)) (x : Result Next F) (next : Next) → x ≡ Ok next → ((p : Place) → next ≡ N.Record p → ⊥)
      → Bytes buf → 2285 ≤ length buf → IfSome left (λ rest. Gives rest v left' x) → OnOk r (Finished mid after lines t buf used next) → OnOk r (IfSome known (λ s. Appends before after (report s)))
  run_ends (Err e) v left' x next is other bytes large g f = tt
  run_ends {F = F} (Ok y) v left' x next is other bytes large g f =
      go known pr next other (subst (λ (z : Result Next F). IfSome left (λ rest. Gives rest v left' z)) is g) f
    where
      go : (known : Option (List ℕ)) → IfSome known (λ s. Progress s before mid lines left t (kept_in buf used)) → (next : Next) → ((p : Place) → next ≡ N.Record p → ⊥)
          → IfSome left (λ rest. Gives {E = F} rest v left' (Ok next)) → Finished mid after lines t buf used next → IfSome known (λ s. Appends before after (report s))
      go None q next other g f = tt
      go (Some s) q (N.Record p) other g f = absurd (other p refl)
      go (Some s) q N.Cut other g f = cut_run s before mid after lines left t buf used q v left' bytes large g f
      go (Some s) q N.Ended other g f = ends_run s before mid after lines left t buf used q v left' g f
