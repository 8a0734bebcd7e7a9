-- A snapshot is read back, field by field, as the state that was written. Assumes nothing.
use mathlib.Core.Path.{◌≡◌, refl, sym, ap, ◌∙◌}
use mathlib.Core.Bool.{Bool, true, false}
use mathlib.Core.List.{List, ◌∷◌, ◌++◌, append-nil, []}
use Prim.Native.Nat.{ℕ, suc, ◌+◌, ◌≤◌}
use native.Mathlib.Nat.{add-zero}
use native.Mathlib.Omega.{arith}
use lib.Dec.{leb, eqb}
use lib.ListN.{length, take, drop, length-take}
use mir.Val.{Val}
use denote.Laws.{Is}
use borrow.Author.Tests.{le-leb, eqb-true, eqb-false}
use Rattle.lists.specs.Lists.{all, padded}
use Rattle.lists.proofs.Facts.{both_true}
use Rattle.lists.proofs.Padding.{is_padded}
use Rattle.number.specs.declared.Number.{Number}
use Rattle.item.specs.declared.Item.{Item}
use Rattle.item.specs.declared.Kind.{Kind}
use Rattle.item.specs.declared.Kind.TheVariants.{Prefix, Key, Said}
use Rattle.item.specs.Item.{item_fits, zero_item}
use Rattle.items.specs.declared.Items.{Items}
use Rattle.items.specs.Items as items
use Rattle.items.proofs.Laws as items-laws
use Rattle.config.specs.declared.Config.{Config}
use Rattle.config.specs.Config as config
use Rattle.config.proofs.Laws as config-laws
use Rattle.weight.specs.declared.Weight.{Weight}
use Rattle.weight.specs.Weight.{zero_weight}
use Rattle.threshold.specs.declared.Threshold.{Threshold}
use Rattle.threshold.specs.Threshold.{sizes_of, weights_in, sum, rest_zero, shape_of}
use Rattle.state.specs.declared.KeyState.{KeyState}
use Rattle.state.specs.contracts.KeyState as state
use Rattle.shape.specs.State.{state_shape}
use Rattle.format.specs.Parse.{got, byte_at, num_at, raw_at, many_at, list_at}
use Rattle.format.specs.Fields.{sn_at, item_at, items_at, trait_at, config_at, flag_at, simple, weighted, sizes_at, total, weight_at, clauses_at, threshold_as, threshold_at}
use Rattle.layout.specs.Records.{first_head_at, authority_at, commitment_at, latest_at, snapshot_at}
use Rattle.writer.specs.Writing.{be}
use Rattle.snapshot.specs.Bytes.{words_bytes, item_bytes, each, items_bytes, counted, config_bytes, weight_bytes, threshold_bytes, flag_byte}
use Rattle.snapshot.specs.Saved.{point_bytes, group_bytes, head_bytes, tail_bytes, body_bytes}
use Rattle.snapshot.proofs.Laws.{simple-bytes, weighted-bytes}
use Rattle.snapshot.proofs.Shapes.{Simple, Weighted, is_simple_lem, is_weighted, GoodState, good_state}
use Rattle.snapshot.proofs.Real.{Words, RealItems, RealThreshold, RealState, real_state}
use Rattle.snapshot.proofs.Size.{each_take, each_map}
use Rattle.snapshot.proofs.Round.{Reads, Any, None, Codes, within, after, code_then, code_last, code_got, code_classed, code_ended, code_number, code_raw, code_byte, Each, code_many, code_list}

-- ---- two words, an item
code_sn : (n : Number) → Words n.high n.low → Codes sn_at (words_bytes n.high n.low) n
unfolding sn_at words_bytes
code_sn n w =
    code_then Any (num_at 8) _ (be 8 n.high) (be 8 n.low) n.high n (code_number 8 n.high w.0)
    (code_last Any (num_at 8) _ (be 8 n.low) n.low n (code_number 8 n.low w.1) (code_got Any n n refl))

code_weight : (n : Weight) → Words n.num n.den → Codes weight_at (weight_bytes n) n
unfolding weight_at words_bytes
code_weight n w =
    code_then Any (num_at 8) _ (be 8 n.num) (be 8 n.den) n.num n (code_number 8 n.num w.0)
    (code_last Any (num_at 8) _ (be 8 n.den) n.den n (code_number 8 n.den w.1) (code_got Any n n refl))

code_item : (k : Kind) (x : Item) → item_fits k x ≡ true → length x.raw ≡ 32 → Codes (item_at k) (item_bytes x) x
unfolding item_at item_bytes
code_item k x f h =
    code_then Any byte_at _ (x.code ∷ []) x.raw x.code x (code_byte x.code)
    (code_last Any (raw_at 32) _ x.raw x.raw x (code_raw 32 x.raw h) (code_classed Any (item_fits k x) x f))

-- ---- lists
each_all : {A : Type 0} (f : A → Bool) (P Q : A → Type 0) → ((x : A) → f x ≡ true → P x → Q x) → (xs : List A) → all f xs ≡ true → Each P xs → Each Q xs
unfolding all
each_all f P Q g [] e p = tt
each_all f P Q g (x ∷ xs) e p =
    let b = both_true (f x) (all f xs) e in
    (g x b.0 p.0, each_all f P Q g xs b.1 p.1)

every : {A : Type 0} (xs : List A) → Each (λ x. Unit {0}) xs
every [] = tt
every (x ∷ xs) = (tt, every xs)

code_items : (k : Kind) (l : Items) → RealItems l → items.shape_of k l ≡ 0 → Codes (items_at k) (items_bytes l) l
unfolding items_at items_bytes
code_items k l r e =
    let g = items-laws.good k l e in
    let few : length (items.listed l) ≤ 16 = let h = g.few in let n = r.places in simp length-take (omega arith) in
    let p = each_take (λ x. length x.raw ≡ 32) l.count l.at r.raws in
    let c = each_all (item_fits k) _ (λ x. Codes (item_at k) (item_bytes x) x) (code_item k) (items.listed l) g.fit p in
    code_last Any (λ s. list_at (item_at k s) 16 s) _ (length (items.listed l) ∷ each item_bytes (items.listed l)) (items.listed l) l
    (code_list (item_at k) item_bytes 16 (items.listed l) few c)
    (code_got Any (items.packed (items.listed l)) l (sym (items-laws.packed-listed k l r.places e)))

code_trait : (t : ℕ) → config.is_trait t ≡ true → Unit {0} → Codes trait_at (t ∷ []) t
unfolding trait_at
code_trait t f u = code_last Any byte_at _ (t ∷ []) t t (code_byte t) (code_classed Any (config.is_trait t) t f)

-- each byte of a list, one after another, is the list
pub each-byte : (xs : List ℕ) → each (λ x. x ∷ []) xs ≡ xs
unfolding each
each-byte [] = refl
each-byte (x ∷ xs) = ap (λ (ys : List ℕ). x ∷ ys) (each-byte xs)

code_config : (c : Config) → length c.traits ≡ 8 → config.shape_of c ≡ 0 → Codes config_at (config_bytes c) c
unfolding config_at config_bytes counted
code_config c n e =
    let g = config-laws.good c e in
    let ts = config.traits_of c in
    let few : length ts ≤ 8 = let h = g.few in simp length-take (omega arith) in
    let p = each_all config.is_trait (λ x. Unit {0}) (λ t. Codes trait_at (t ∷ []) t) code_trait ts g.fit (every ts) in
    let l : Codes (λ s. list_at (trait_at s) 8 s) (length ts ∷ ts) ts = rw each-byte at (code_list trait_at (λ t. t ∷ []) 8 ts few p) in
    code_last Any (λ s. list_at (trait_at s) 8 s) _ (length ts ∷ ts) ts c l
    (code_got Any (config.packed_traits ts) c (sym (config-laws.packed_traits_lem c n e)))

-- ---- single bytes
code_flag : (b : Bool) → Codes flag_at (flag_byte b ∷ []) b
unfolding flag_at
code_flag true = code_last Any byte_at _ (1 ∷ []) 1 true (code_byte 1) (code_classed Any true true refl)
code_flag false = code_last Any byte_at _ (0 ∷ []) 0 false (code_byte 0) (code_classed Any true false refl)

code_latest : (n : ℕ) → n ≤ 2 → Codes latest_at (n ∷ []) n
unfolding latest_at
code_latest n h = code_last Any byte_at _ (n ∷ []) n n (code_byte n) (code_classed Any (leb n 2) n (le-leb n 2 h))

-- ---- thresholds
total-sum : (zs : List ℕ) → total zs ≡ sum zs
unfolding total sum
total-sum [] = refl
total-sum (z ∷ zs) = ap (λ (n : ℕ). z + n) (total-sum zs)

code_sizes : (zs : List ℕ) (acc : ℕ) → acc + total zs ≤ 16 → Codes (λ s. sizes_at s (length zs) acc) zs zs
unfolding Reads sizes_at total
code_sizes [] acc h s at rest r k e = rw add-zero
code_sizes (z ∷ zs) acc h s at rest r k e =
    let w = within s at (z ∷ []) (zs ++ rest) k e in
    let m = code_sizes zs (acc + z) (omega arith) s (at + 1) rest tt w (after s at (z ∷ []) (zs ++ rest) k e) in
    let j : at + 1 + length zs ≡ at + suc (length zs) = omega arith in
    let q : acc + z ≤ 16 = omega arith in
    rw (code_byte z s at (zs ++ rest) tt k e, le-leb (acc + z) 16 q, m, j)

code_clauses : (zs : List ℕ) → length zs ≤ 16 → total zs ≤ 16 → Codes clauses_at (counted zs) zs
unfolding Reads clauses_at counted
code_clauses zs few h s at rest r k e =
    let w = within s at (length zs ∷ []) (zs ++ rest) k e in
    let m = code_sizes zs 0 (omega arith) s (at + 1) rest tt w (after s at (length zs ∷ []) (zs ++ rest) k e) in
    let j : at + 1 + length zs ≡ at + suc (length zs) = omega arith in
    rw (code_byte (length zs) s at (zs ++ rest) tt k e, le-leb (length zs) 16 few, m, j)

code_weights : (ws : List Weight) (n : ℕ) → length ws ≡ n → Each (λ w. Words w.num w.den) ws
    → Codes (λ s. many_at (weight_at s) n) (each weight_bytes ws) ws
code_weights ws n e p = rw e at (code_many weight_at weight_bytes ws (each_map _ (λ w. Codes weight_at (weight_bytes w) w) code_weight ws p))

abbrev no_weight : Weight
no_weight = record { num = 0; den = 0 }

zero_number : (x : ℕ) → eqb 0 x ≡ true → x ≡ 0
zero_number x e = sym (eqb-true 0 x e)

made_weight : {a b c d : ℕ} → a ≡ c → b ≡ d → ◌≡◌ {A = Weight} (record { num = a; den = b }) (record { num = c; den = d })
made_weight e f = cc

zero_weight_lem : (w : Weight) → zero_weight w ≡ true → w ≡ no_weight
zero_weight_lem w e =
    let p = both_true (eqb w.num 0) (eqb w.den 0) e in
    made_weight (eqb-true w.num 0 p.0) (eqb-true w.den 0 p.1)

made : {a b c d m n : ℕ} {v w : List ℕ} {x y : List Weight} → a ≡ b → c ≡ d → m ≡ n → v ≡ w → x ≡ y
    → ◌≡◌ {A = Threshold} (record { tag = a; simple = c; clauses = m; sizes = v; weights = x }) (record { tag = b; simple = d; clauses = n; sizes = w; weights = y })
made e f g h i = cc

-- the arrays are their used parts, padded
module _ (t : Threshold) (r : RealThreshold t) (n w : ℕ) (hn : n ≤ 16) (hw : w ≤ 16) (e : rest_zero t n w ≡ true) where
  rest_both : (all (eqb 0) (drop n t.sizes) ≡ true) × (all zero_weight (drop w t.weights) ≡ true)
  rest_both = both_true (all (eqb 0) (drop n t.sizes)) (all zero_weight (drop w t.weights)) e

  sizes_padded : t.sizes ≡ padded 16 0 (take n t.sizes)
  sizes_padded = is_padded 0 (eqb 0) zero_number 16 n t.sizes r.sizes hn rest_both.0

  weights_padded : t.weights ≡ padded 16 no_weight (take w t.weights)
  weights_padded = is_padded no_weight zero_weight zero_weight_lem 16 w t.weights r.weights hw rest_both.1

simple_is : (t : Threshold) → RealThreshold t → t.tag ≡ 0 → Simple t → simple t.simple ≡ t
simple_is t r h g =
    made (sym h) refl (sym g.none) (sym (sizes_padded t r 0 0 (omega arith) (omega arith) g.rest)) (sym (weights_padded t r 0 0 (omega arith) (omega arith) g.rest))

weighted_is : (t : Threshold) → RealThreshold t → Weighted t → weighted (sizes_of t) (take (weights_in t) t.weights) ≡ t
weighted_is t r g =
    let few = g.few in
    let n = r.sizes in
    let l : length (sizes_of t) ≡ t.clauses = simp length-take (omega arith) in
    made (sym g.tag) (sym g.zero) l
    (sym (sizes_padded t r t.clauses (weights_in t) g.few g.light g.rest))
    (sym (weights_padded t r t.clauses (weights_in t) g.few g.light g.rest))

code_simple : (t : Threshold) → RealThreshold t → t.tag ≡ 0 → Simple t → Codes threshold_at (threshold_bytes t) t
unfolding threshold_at threshold_as
code_simple t r h g =
    rw (simple-bytes t h)
    (code_then Any byte_at threshold_as (0 ∷ []) (be 8 t.simple) 0 t (code_byte 0)
    (code_last Any (num_at 8) _ (be 8 t.simple) t.simple t (code_number 8 t.simple r.simple)
    (code_got Any (simple t.simple) t (simple_is t r h g))))

code_weighted : (t : Threshold) → RealThreshold t → (t.tag ≡ 0 → ⊥) → Weighted t → Codes threshold_at (threshold_bytes t) t
unfolding threshold_at threshold_as
code_weighted t r h g =
    let zs = sizes_of t in
    let ws = take (weights_in t) t.weights in
    let few = g.few in
    let light = g.light in
    let n = r.sizes in
    let m = r.weights in
    let l : length zs ≤ 16 = simp length-take (omega arith) in
    let k : total zs ≡ weights_in t = total-sum zs in
    let j : length ws ≡ total zs = rw k (simp length-take (omega arith)) in
    rw (weighted-bytes t (weights_in t) h refl)
    (code_then Any byte_at threshold_as (1 ∷ []) (counted zs ++ each weight_bytes ws) 1 t (code_byte 1)
    (code_then Any clauses_at _ (counted zs) (each weight_bytes ws) zs t (code_clauses zs l (omega arith))
    (code_last Any (λ s. many_at (weight_at s) (total zs)) _ (each weight_bytes ws) ws t (code_weights ws (total zs) j (each_take _ (weights_in t) t.weights r.words))
    (code_got Any (weighted zs ws) t (weighted_is t r g)))))

code_threshold : (t : Threshold) → RealThreshold t → shape_of t ≡ 0 → Codes threshold_at (threshold_bytes t) t
code_threshold t r e = by_tag (eqb t.tag 0) refl
  where
    by_tag : (b : Bool) → eqb t.tag 0 ≡ b → Codes threshold_at (threshold_bytes t) t
    by_tag true p = let h = eqb-true t.tag 0 p in code_simple t r h (is_simple_lem t e h)
    by_tag false p = let h = eqb-false t.tag 0 p in code_weighted t r h (is_weighted t e h)

-- ---- the groups
code_head : (s : KeyState) → RealState s → GoodState s
    → Codes first_head_at (head_bytes s) (record { prefix = s.prefix; sn = s.sn; said = s.said; prior = zero_item })
unfolding first_head_at head_bytes point_bytes
code_head s r g =
    code_then Any (item_at Prefix) _ (item_bytes s.prefix) _ s.prefix _ (code_item Prefix s.prefix g.prefix r.prefix)
    (code_then Any sn_at _ (words_bytes s.sn.high s.sn.low) _ s.sn _ (code_sn s.sn r.sn)
    (code_last Any (item_at Said) _ (item_bytes s.said) s.said _ (code_item Said s.said g.said r.said)
    (code_got Any _ _ refl)))

code_own : (s : KeyState) → RealState s → GoodState s
    → Codes authority_at (group_bytes s.authority.keys s.authority.threshold) s.authority
unfolding authority_at group_bytes
code_own s r g =
    code_then Any (items_at Key) _ (items_bytes s.authority.keys) _ s.authority.keys _ (code_items Key s.authority.keys r.keys g.keys)
    (code_last Any threshold_at _ (threshold_bytes s.authority.threshold) s.authority.threshold _ (code_threshold s.authority.threshold r.own g.own)
    (code_got Any _ _ refl))

code_next : (s : KeyState) → RealState s → GoodState s
    → Codes commitment_at (group_bytes s.commitment.next s.commitment.threshold) s.commitment
unfolding commitment_at group_bytes
code_next s r g =
    code_then Any (items_at Said) _ (items_bytes s.commitment.next) _ s.commitment.next _ (code_items Said s.commitment.next r.next g.next)
    (code_last Any threshold_at _ (threshold_bytes s.commitment.threshold) s.commitment.threshold _ (code_threshold s.commitment.threshold r.committed g.committed)
    (code_got Any _ _ refl))

-- ---- the whole
code_snapshot : (s : KeyState) → RealState s → GoodState s → Reads None snapshot_at (body_bytes s) s
unfolding snapshot_at body_bytes tail_bytes point_bytes
code_snapshot s r g =
    code_then None first_head_at _ (head_bytes s) _ _ s (code_head s r g)
    (code_then None latest_at _ (s.latest ∷ []) _ s.latest s (code_latest s.latest g.latest)
    (code_then None authority_at _ (group_bytes s.authority.keys s.authority.threshold) _ s.authority s (code_own s r g)
    (code_then None commitment_at _ (group_bytes s.commitment.next s.commitment.threshold) _ s.commitment s (code_next s r g)
    (code_then None (items_at Key) _ (items_bytes s.witnessing.witnesses) _ s.witnessing.witnesses s (code_items Key s.witnessing.witnesses r.witnesses g.witnesses)
    (code_then None (num_at 4) _ (be 4 s.witnessing.toad) _ s.witnessing.toad s (code_number 4 s.witnessing.toad r.toad)
    (code_then None config_at _ (config_bytes s.config) _ s.config s (code_config s.config r.traits g.config)
    (code_then None flag_at _ (flag_byte s.transferable ∷ []) _ s.transferable s (code_flag s.transferable)
    (code_then None sn_at _ (words_bytes s.last.sn.high s.last.sn.low) _ s.last.sn s (code_sn s.last.sn r.since)
    (code_last None (item_at Said) _ (item_bytes s.last.said) s.last.said s (code_item Said s.last.said g.established r.established)
    (code_ended s))))))))))

-- reading back what a state of good shape was saved as gives the same state
pub round_trip_real : (s : KeyState) → RealState s → state_shape s ≡ 0 → snapshot_at (body_bytes s) 0 ≡ got s (length (body_bytes s))
unfolding Reads
round_trip_real s r e =
    let n : 0 + length (body_bytes s) ≡ length (body_bytes s) = omega arith in
    code_snapshot s r (good_state s e) (body_bytes s) 0 [] refl (omega arith) (sym (append-nil (body_bytes s)))
    ∙ ap (λ (k : ℕ). got s k) n

-- a state that a program holds is one
pub round_trip : (s : KeyState) (vs : List Val) → Is state.the_row s vs → state_shape s ≡ 0 → snapshot_at (body_bytes s) 0 ≡ got s (length (body_bytes s))
round_trip s vs p e = round_trip_real s (real_state s vs p) e
