-- How many bytes the fields have, and the parts in which they are written. Assumes nothing.
use mathlib.Core.Path.{◌≡◌, sym, ap}
use mathlib.Core.List.{List, ◌∷◌, ◌++◌, [], append_assoc}
use mathlib.Core.Bool.{Bool, true}
use Prim.Native.Nat.{ℕ, zero, suc, ◌+◌, ◌*◌, ◌≤◌}
use borrow.Author.Tests.{eq-eqb, le-leb}
use native.Mathlib.Nat.{mul-suc}
use native.Mathlib.Omega.{arith}
use lib.ListN.{length, take, length-append, length-take}
use Rattle.item.specs.declared.Item.{Item}
use Rattle.items.specs.declared.Items.{Items}
use Rattle.items.specs.Items.{listed}
use Rattle.config.specs.declared.Config.{Config}
use Rattle.authority.specs.declared.Witnessing.{Witnessing}
use Rattle.config.specs.Config.{traits_of}
use Rattle.number.specs.declared.Number.{Number}
use Rattle.weight.specs.declared.Weight.{Weight}
use Rattle.threshold.specs.declared.Threshold.{Threshold}
use Rattle.threshold.specs.Threshold.{sizes_of, weights_in}
use Rattle.answer.specs.Answer.{refused}
use Rattle.state.specs.declared.KeyState.{KeyState}
use Rattle.state.specs.declared.Holder.{Holder}
use Rattle.state.specs.State.{is_held}
use Rattle.shape.specs.State.{holder_shape}
use Rattle.writer.specs.Writing.{be, over}
use Rattle.snapshot.specs.Bytes.{frame_bytes, words_bytes, item_bytes, each, items_bytes, counted, config_bytes, weight_bytes, threshold_bytes, standing_bytes}
use Rattle.snapshot.specs.Assembled.{framed, back_bytes}
use Rattle.snapshot.specs.Saved.{point_bytes, group_bytes, head_bytes, tail_bytes, body_bytes, encoded, saved}
use Rattle.writer.proofs.Laws.{length_be, over_append}
use Rattle.snapshot.proofs.Laws.{simple-bytes, weighted-bytes}
use Rattle.snapshot.proofs.Round.{Each}
use Rattle.snapshot.proofs.Real.{RealItems, RealThreshold, RealState}

-- ---- every element
pub each_take : {A : Type 0} (P : A → Type 0) (n : ℕ) (xs : List A) → Each P xs → Each P (take n xs)
each_take P zero xs p = tt
each_take P (suc n) [] p = tt
each_take P (suc n) (x ∷ xs) p = (p.0, each_take P n xs p.1)

pub each-any : {A : Type 0} (P : A → Type 0) → ((x : A) → P x) → (xs : List A) → Each P xs
each-any P f [] = tt
each-any P f (x ∷ xs) = (f x, each-any P f xs)

pub each_map : {A : Type 0} (P Q : A → Type 0) → ((x : A) → P x → Q x) → (xs : List A) → Each P xs → Each Q xs
each_map P Q f [] p = tt
each_map P Q f (x ∷ xs) p = (f x p.0, each_map P Q f xs p.1)

each-length : {A : Type 0} (f : A → List ℕ) (w : ℕ) (xs : List A) → Each (λ x. length (f x) ≡ w) xs → length (each f xs) ≡ w * length xs
unfolding each
each-length f w [] p = omega arith
each-length f w (x ∷ xs) p =
    let e : length (f x) ≡ w = p.0 in
    let r : length (each f xs) ≡ w * length xs = each-length f w xs p.1 in
    rw (length-append, e, r, mul-suc) (omega arith)

-- ---- the fields
words_size : (a b : ℕ) → length (words_bytes a b) ≡ 16
unfolding words_bytes
words_size a b = rw (length-append, length_be, length_be)

pub item_size : (x : Item) → length x.raw ≡ 32 → length (item_bytes x) ≡ 33
unfolding item_bytes
item_size x h = ap suc h

pub items_size : (l : Items) → RealItems l → l.count ≤ 16 → length (items_bytes l) ≡ 1 + 33 * l.count
unfolding items_bytes
items_size l r h =
    let n : length l.at ≡ 16 = r.places in
    let m : length (listed l) ≡ l.count = simp length-take (omega arith) in
    let e = each-length item_bytes 33 (listed l) (each_map (λ x. length x.raw ≡ 32) (λ x. length (item_bytes x) ≡ 33) item_size (listed l) (each_take _ l.count l.at r.raws)) in
    rw (e, m) (omega arith)

counted-size : (xs : List ℕ) → length (counted xs) ≡ 1 + length xs
unfolding counted
counted-size xs = omega arith

pub config_size : (c : Config) → length c.traits ≡ 8 → c.count ≤ 8 → length (config_bytes c) ≡ 1 + c.count
unfolding config_bytes
config_size c n h =
    let m : length (traits_of c) ≡ c.count = simp length-take (omega arith) in
    rw (counted-size, m)

module _ (t : Threshold) where
  pub simple-size : t.tag ≡ 0 → length (threshold_bytes t) ≡ 9
  simple-size h = rw (simple-bytes t h, length-append, length_be)

  pub weighted-size : RealThreshold t → (total : ℕ) → (t.tag ≡ 0 → ⊥) → total ≡ weights_in t → t.clauses ≤ 16 → total ≤ 16
      → length (threshold_bytes t) ≡ 2 + t.clauses + 16 * total
  weighted-size r total h e few light =
      let n : length t.sizes ≡ 16 = r.sizes in
      let k : length t.weights ≡ 16 = r.weights in
      let m : length (sizes_of t) ≡ t.clauses = simp length-take (omega arith) in
      let w : length (take total t.weights) ≡ total = simp length-take (omega arith) in
      let z = each-length weight_bytes 16 (take total t.weights) (each-any _ (λ (x : Weight). words_size x.num x.den) (take total t.weights)) in
      rw (weighted-bytes t total h e, length-append, length-append, counted-size, m, z, w) (omega arith)

pub group-size : (l : Items) (t : Threshold) (a b : ℕ) → a ≡ length (items_bytes l) → b ≡ length (threshold_bytes t) → a + b ≡ length (group_bytes l t)
unfolding group_bytes
group-size l t a b e f = rw (length-append, e, f)

point_size : (sn : Number) (said : Item) → length said.raw ≡ 32 → length (point_bytes sn said) ≡ 49
unfolding point_bytes
point_size sn said h = rw (length-append, words_size, item_size said h)

head_size : (s : KeyState) → RealState s → length (head_bytes s) ≡ 82
unfolding head_bytes
head_size s r = rw (length-append, item_size s.prefix r.prefix, point_size s.sn s.said r.said)

tail_size : (s : KeyState) → RealState s → s.config.count ≤ 8
    → length (tail_bytes s) ≡ length (items_bytes s.witnessing.witnesses) + 55 + s.config.count
unfolding tail_bytes
tail_size s r h =
    rw (
      length-append,
      length-append,
      length-append,
      length-append,
      length_be,
      config_size s.config r.traits h,
      point_size s.last.sn s.last.said r.established,
    )
    (omega arith)

pub body_size : (s : KeyState) (own next witnesses : ℕ) → RealState s → s.config.count ≤ 8
    → own ≡ length (group_bytes s.authority.keys s.authority.threshold)
    → next ≡ length (group_bytes s.commitment.next s.commitment.threshold)
    → witnesses ≡ length (items_bytes s.witnessing.witnesses)
    → 138 + own + next + witnesses + s.config.count ≡ length (body_bytes s)
unfolding body_bytes
body_size s own next witnesses r h e f g =
    rw (length-append, length-append, length-append, length-append, head_size s r, tail_size s r h, ← e, ← f, ← g) (omega arith)

pub encoded_size : (s : KeyState) → length (encoded s) ≡ 4 + length (body_bytes s)
unfolding encoded
encoded_size s = rw (length-append, length-append, length_be) (omega arith)

pub record-size : (s : KeyState) (n : ℕ) → n ≡ length (body_bytes s) → 4 + n ≡ length (encoded s)
record-size s n e = rw e (sym (encoded_size s))

-- what saving answers where there is room
module _ (h : Holder) (buf : List ℕ) (n : ℕ) (e : n ≡ holder_shape h) (z : n ≡ 0) (size : ℕ) (held : is_held h ≡ true) (s : size ≡ length (encoded h.state)) where
  pub saved_whole : size ≤ length buf → saved h buf ≡ (refused 0 size 0, over 0 (encoded h.state) buf)
  unfolding saved
  saved_whole l = rw (← e, eq-eqb n 0 z, held, ← s, le-leb size (length buf) l)

-- ---- parts, as they are written
pub tail_parts : (s : KeyState) → tail_bytes s ≡ standing_bytes s.witnessing s.config s.transferable ++ point_bytes s.last.sn s.last.said
unfolding tail_bytes standing_bytes
tail_parts s = simp append_assoc

pub back_parts : (w : Witnessing) (c : Config) (transferable : Bool) (last : List ℕ)
    → back_bytes w c transferable last ≡ standing_bytes w c transferable ++ last
unfolding back_bytes standing_bytes
back_parts w c transferable last = simp append_assoc

pub frame_over : (n : ℕ) (b : List ℕ) → 4 ≤ length b → over 0 (frame_bytes n) b ≡ over 2 (be 2 n) (over 0 (0x4B ∷ 0x53 ∷ []) b)
unfolding frame_bytes
frame_over n b h = over_append 0 (0x4B ∷ 0x53 ∷ []) (be 2 n) b (omega arith)

-- mark and length, and the body behind them
pub framed_over : (body b : List ℕ) → 4 + length body ≤ length b
    → over 0 (framed body) b ≡ over 4 body (over 0 (frame_bytes (length body)) b)
unfolding frame_bytes
framed_over body b h =
    let f : List ℕ = (0x4B ∷ 0x53 ∷ []) ++ be 2 (length body) in
    let l : length f ≡ 4 = rw (length-append, length_be) in
    let r : 0 + length f ≤ length b = omega arith in
    rw l at (over_append 0 f body b r)

pub encoded_over : (s : KeyState) (b : List ℕ) → length (encoded s) ≤ length b
    → over 0 (encoded s) b ≡ over 4 (body_bytes s) (over 0 (frame_bytes (length (body_bytes s))) b)
unfolding encoded
encoded_over s b h = let e = encoded_size s in framed_over (body_bytes s) b (omega arith)
