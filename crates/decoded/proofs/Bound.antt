-- "The longest RO has a body of 10,085 bytes, the longest KS 2,281": no longer body is got, and so the first 10,086 bytes of a body
-- decide what it holds. Assumes nothing.
--     local-..          how wide a field is at most, one line a field, then the groups
--     longest-..        the longest bodies
--     first-bytes       of every mark and every body
use mathlib.Core.Path.{◌≡◌}
use mathlib.Core.Bool.{Bool}
use mathlib.Core.List.{List, ◌∷◌, []}
use Prim.Native.Nat.{ℕ, zero, suc, ◌+◌, ◌*◌, ◌≤◌}
use native.Mathlib.Nat.{mul-le-mul_right}
use native.Mathlib.Omega.{arith}
use lib.Dec.{leb, eqb}
use lib.ListN.{length, take}
use borrow.Author.Tests.{leb-true}
use Rattle.lists.specs.Lists.{either}
use Rattle.item.specs.declared.Kind.{Kind}
use Rattle.item.specs.declared.Kind.TheVariants.{Prefix, Key, Said}
use Rattle.item.specs.Item.{fits_of}
use Rattle.config.specs.Config.{is_trait}
use Rattle.event.specs.declared.Ilk.{Ilk}
use Rattle.event.specs.declared.Ilk.TheVariants.{Inception, Rotation, Interaction}
use Rattle.event.specs.declared.Head.{Head}
use Rattle.event.specs.declared.Body.{Body}
use Rattle.event.specs.declared.Event.{Event}
use Rattle.state.specs.declared.KeyState.{KeyState}
use Rattle.threshold.specs.declared.Threshold.{Threshold}
use Rattle.format.specs.Parse.{Parse, got, byte_at, num_at, raw_at, many_at, list_at}
use Rattle.format.specs.Fields.{sn_at, item_at, items_at, trait_at, config_at, flag_at, sizes_at, total, weight_at, clauses_at, threshold_as, threshold_at, ondex_at, siger_at, sigers_at}
use Rattle.layout.specs.Records.{first_head_at, later_head_at, authority_at, commitment_at, tail_at, inception_body_at, inception_at, rotation_body_at, rotation_at, interaction_at, no_body, latest_at, snapshot_at, content_of}
use Rattle.decoded.proofs.Shapes.{Clauses, gives_clauses}
use Rattle.decoded.proofs.Looks.{Local, Closed, AtEnd, Ends, local_then, local_where, closed_then, local_bad, local_got, local_pick, local_classed, local_wider, local_byte, local_number, local_raw, local_many, local_list, closed_ended}

-- ---- fields
local_sn : Local 16 sn_at
unfolding sn_at
local_sn = local_then 8 8 (num_at 8) _ (local_number 8) (λ high. local_then 8 0 (num_at 8) _ (local_number 8) (λ low. local_got _))

local_item : (k : Kind) → Local 33 (item_at k)
unfolding item_at
local_item k = local_then 1 32 byte_at _ local_byte (λ code. local_then 32 0 (raw_at 32) _ (local_raw 32) (λ raw. local_classed (fits_of k code) _))

local_items : (k : Kind) → Local 529 (items_at k)
unfolding items_at
local_items k = local_then 529 0 (λ s. list_at (item_at k s) 16 s) _ (local_list 33 (item_at k) (local_item k) 16) (λ xs. local_got _)

local_trait : Local 1 trait_at
unfolding trait_at
local_trait = local_then 1 0 byte_at _ local_byte (λ t. local_classed (is_trait t) t)

local_config : Local 9 config_at
unfolding config_at
local_config = local_then 9 0 (λ s. list_at (trait_at s) 8 s) _ (local_list 1 trait_at local_trait 8) (λ ts. local_got _)

local_flag : Local 1 flag_at
unfolding flag_at
local_flag = local_then 1 0 byte_at _ local_byte (λ b. local_classed (leb b 1) (eqb b 1))

-- ---- thresholds: a tag, a count, 16 sizes and 16 weights at most
local_sizes : (n sum : ℕ) → Local n (λ s. sizes_at s n sum)
unfolding sizes_at
local_sizes zero sum = local_got []
local_sizes (suc n) sum =
    local_wider (1 + (n + 0)) (suc n) _ (omega arith)
    (local_then 1 (n + 0) byte_at _ local_byte
    (λ z. local_pick (n + 0) 4 (leb (sum + z) 16) _
    (λ h. local_then n 0 (λ s. sizes_at s n (sum + z)) _ (local_sizes n (sum + z)) (λ zs. local_got (z ∷ zs)))))

local_clauses : Local 17 clauses_at
unfolding clauses_at
local_clauses =
    local_then 1 16 byte_at _ local_byte
    (λ n. local_pick 16 4 (leb n 16) (λ s. sizes_at s n 0)
    (λ e. local_wider n 16 (λ s. sizes_at s n 0) (leb-true n 16 e) (local_sizes n 0)))

local_weight : Local 16 weight_at
unfolding weight_at
local_weight = local_then 8 8 (num_at 8) _ (local_number 8) (λ num. local_then 8 0 (num_at 8) _ (local_number 8) (λ den. local_got _))

local_weights : (n : ℕ) → n ≤ 16 → Local 256 (λ s. many_at (weight_at s) n)
local_weights n h = local_wider (n * 16) 256 (λ s. many_at (weight_at s) n) (mul-le-mul_right 16 h) (local_many 16 weight_at local_weight n)

local_as : (tag : ℕ) → Local 273 (threshold_as tag)
unfolding threshold_as
local_as zero = local_wider 8 273 _ (omega arith) (local_then 8 0 (num_at 8) _ (local_number 8) (λ n. local_got _))
local_as (suc zero) =
    local_where 17 256 clauses_at _ local_clauses Clauses gives_clauses
    (λ zs c. local_then 256 0 (λ s. many_at (weight_at s) (total zs)) _ (local_weights (total zs) c.1) (λ ws. local_got _))
local_as (suc (suc n)) = local_bad Threshold 273 3

local_threshold : Local 274 threshold_at
unfolding threshold_at
local_threshold = local_then 1 273 byte_at _ local_byte (λ tag. local_as tag)

-- ---- signatures: "A signature has 76 bytes"
local_ondex : (dual : Bool) → Local 4 (ondex_at dual)
unfolding ondex_at
local_ondex dual = local_then 4 0 (num_at 4) _ (local_number 4) (λ n. local_classed (either dual (eqb n 0)) n)

local_siger : Local 76 siger_at
unfolding siger_at
local_siger =
    local_then 1 75 byte_at _ local_byte
    (λ code. local_then 4 71 (num_at 4) _ (local_number 4)
    (λ index. local_then 1 70 flag_at _ local_flag
    (λ dual. local_then 4 66 (ondex_at dual) _ (local_ondex dual)
    (λ ondex. local_then 64 2 (raw_at 64) _ (local_raw 64)
    (λ raw. local_then 1 1 flag_at _ local_flag
    (λ verified. local_then 1 0 flag_at _ local_flag
    (λ matches. local_got _)))))))

local_sigers : Local 3649 sigers_at
unfolding sigers_at
local_sigers = local_then 3649 0 (λ s. list_at (siger_at s) 48 s) _ (local_list 76 siger_at local_siger 48) (λ xs. local_got _)

-- ---- the groups
local_first : Local 82 first_head_at
unfolding first_head_at
local_first =
    local_then 33 49 (item_at Prefix) _ (local_item Prefix)
    (λ prefix. local_then 16 33 sn_at _ local_sn
    (λ sn. local_then 33 0 (item_at Said) _ (local_item Said)
    (λ said. local_got _)))

local_later : Local 115 later_head_at
unfolding later_head_at
local_later = local_then 82 33 first_head_at _ local_first (λ h. local_then 33 0 (item_at Said) _ (local_item Said) (λ prior. local_got _))

local_own : Local 803 authority_at
unfolding authority_at
local_own = local_then 529 274 (items_at Key) _ (local_items Key) (λ keys. local_then 274 0 threshold_at _ local_threshold (λ t. local_got _))

local_next : Local 803 commitment_at
unfolding commitment_at
local_next = local_then 529 274 (items_at Said) _ (local_items Said) (λ next. local_then 274 0 threshold_at _ local_threshold (λ t. local_got _))

local_inception_body : Local 2148 inception_body_at
unfolding inception_body_at
local_inception_body =
    local_then 803 1345 authority_at _ local_own
    (λ a. local_then 803 542 commitment_at _ local_next
    (λ c. local_then 529 13 (items_at Key) _ (local_items Key)
    (λ witnesses. local_then 4 9 (num_at 4) _ (local_number 4)
    (λ toad. local_then 9 0 config_at _ local_config
    (λ traits. local_got _)))))

local_rotation_body : Local 2668 rotation_body_at
unfolding rotation_body_at
local_rotation_body =
    local_then 803 1865 authority_at _ local_own
    (λ a. local_then 803 1062 commitment_at _ local_next
    (λ c. local_then 529 533 (items_at Key) _ (local_items Key)
    (λ additions. local_then 529 4 (items_at Key) _ (local_items Key)
    (λ removals. local_then 4 0 (num_at 4) _ (local_number 4)
    (λ toad. local_got _)))))

closed_tail : (ilk : Ilk) (h : Head) (b : Body) → Closed 7302 (tail_at ilk h b)
unfolding tail_at
closed_tail ilk h b =
    closed_then 4 7298 (num_at 4) _ (local_number 4)
    (λ anchors. closed_then 3649 3649 sigers_at _ local_sigers
    (λ sigs. closed_then 3649 0 sigers_at _ local_sigers
    (λ receipts. closed_ended _)))

-- ---- the records
closed_inception : Closed 9532 inception_at
unfolding inception_at
closed_inception =
    closed_then 82 9450 first_head_at _ local_first
    (λ h. closed_then 2148 7302 inception_body_at _ local_inception_body
    (λ b. closed_tail Inception h b))

closed_rotation : Closed 10085 rotation_at
unfolding rotation_at
closed_rotation =
    closed_then 115 9970 later_head_at _ local_later
    (λ h. closed_then 2668 7302 rotation_body_at _ local_rotation_body
    (λ b. closed_tail Rotation h b))

closed_interaction : Closed 7417 interaction_at
unfolding interaction_at
closed_interaction = closed_then 115 7302 later_head_at _ local_later (λ h. closed_tail Interaction h no_body)

local_latest : Local 1 latest_at
unfolding latest_at
local_latest = local_then 1 0 byte_at _ local_byte (λ n. local_classed (leb n 2) n)

closed_snapshot : Closed 2281 snapshot_at
unfolding snapshot_at
closed_snapshot =
    closed_then 82 2199 first_head_at _ local_first
    (λ h. closed_then 1 2198 latest_at _ local_latest
    (λ latest. closed_then 803 1395 authority_at _ local_own
    (λ own. closed_then 803 592 commitment_at _ local_next
    (λ next. closed_then 529 63 (items_at Key) _ (local_items Key)
    (λ witnesses. closed_then 4 59 (num_at 4) _ (local_number 4)
    (λ toad. closed_then 9 50 config_at _ local_config
    (λ traits. closed_then 1 49 flag_at _ local_flag
    (λ transferable. closed_then 16 33 sn_at _ local_sn
    (λ sn. closed_then 33 0 (item_at Said) _ (local_item Said)
    (λ said. closed_ended _))))))))))

-- ---- what is got is the whole body
longest : {A : Type 0} (w : ℕ) (f : List ℕ → ℕ → Parse A) → Closed w f → (s : List ℕ) (a : A) (q : ℕ) → f s 0 ≡ got a q → length s ≤ w
unfolding Closed
longest w f c s a q e =
    let l : Ends (AtEnd s) (0 + w) (got a q) = rw e at (c s 0).1 in
    let h : q ≤ 0 + w = l.0 in
    let g : q ≡ length s = l.1 in
    omega arith

pub longest-inception : (s : List ℕ) (e : Event) (q : ℕ) → inception_at s 0 ≡ got e q → length s ≤ 9532
longest-inception s e q h = longest 9532 inception_at closed_inception s e q h

pub longest-rotation : (s : List ℕ) (e : Event) (q : ℕ) → rotation_at s 0 ≡ got e q → length s ≤ 10085
longest-rotation s e q h = longest 10085 rotation_at closed_rotation s e q h

pub longest-interaction : (s : List ℕ) (e : Event) (q : ℕ) → interaction_at s 0 ≡ got e q → length s ≤ 7417
longest-interaction s e q h = longest 7417 interaction_at closed_interaction s e q h

pub longest_snapshot : (s : List ℕ) (k : KeyState) (q : ℕ) → snapshot_at s 0 ≡ got k q → length s ≤ 2281
longest_snapshot s k q h = longest 2281 snapshot_at closed_snapshot s k q h

-- ---- a longer body is refused by its first bytes alone
first : {A : Type 0} (w : ℕ) (f : List ℕ → ℕ → Parse A) → Closed w f → (n : ℕ) (s : List ℕ) → w + 1 ≤ n → n ≤ length s → f (take n s) 0 ≡ f s 0
unfolding Closed
first w f c n s h g = (c s 0).0 n (omega arith) g

pub first-bytes : (mark n : ℕ) (body : List ℕ) → 10086 ≤ n → n ≤ length body → content_of mark (take n body) ≡ content_of mark body
unfolding content_of
first-bytes mark n body h g =
    rw (
      first 9532 inception_at closed_inception n body (omega arith) g,
      first 10085 rotation_at closed_rotation n body (omega arith) g,
      first 7417 interaction_at closed_interaction n body (omega arith) g,
      first 2281 snapshot_at closed_snapshot n body (omega arith) g,
    )
