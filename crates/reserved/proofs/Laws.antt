-- Why 29 never comes: "the basic-prefix checks come first". Assumes nothing.
--     first-refused    where 29's check would refuse a prefix, 12 to 15 have refused it
--     without_29       so the list of checks gives the same answer without it
--     closed           the same for any prefix, behind 3 for one that is none
--     incepts          the code's three groups of checks are that list
use mathlib.Core.Path.{◌≡◌, refl, sym, ◌∙◌, ap}
use mathlib.Core.Bool.{Bool, true, false}
use mathlib.Core.List.{List, ◌∷◌, ◌++◌, []}
use Prim.Native.Nat.{ℕ, ◌≤◌}
use native.Mathlib.Omega.{arith}
use borrow.Author.Tests.{eqb-true}
use lib.Dec.{eqb}
use Rattle.lists.specs.Lists.{pick, both}
use Rattle.lists.proofs.Facts.{clash}
use Rattle.answer.specs.declared.Answer.{Answer}
use Rattle.answer.specs.Answer.{refused, accepted, refuse_unless, first_refusal, passes}
use Rattle.answer.proofs.Laws.{passed, then_same, clean_first, last, grouped, tail_same, three_groups}
use Rattle.item.specs.declared.Class.{Class}
use Rattle.item.specs.declared.Class.TheVariants.{NonTransferableKey, TransferableKey, Digest, Bad}
use Rattle.item.specs.declared.Kind.TheVariants.{Prefix}
use Rattle.item.specs.Item.{class_of, basic_class, transferable_class, fits_class, item_fits, same_item}
use Rattle.items.specs.Items.{listed}
use Rattle.threshold.specs.Threshold.{is_simple}
use Rattle.inception.specs.Identity.{first_key, identity}
use Rattle.member_set.specs.Members.{witness_faults}
use Rattle.event.specs.declared.Head.{Head}
use Rattle.event.specs.declared.Body.{Body}
use Rattle.rules.specs.Rules.{genesis_sn, genesis_head, prefix_shape, of_prefix, identity_of, own_form, next_form, may_commit, toad_fits, inception}
use Rattle.reserved.specs.Reserved.{inception_without29}

-- ---- "for a basic prefix 12, 13, 14, and with code B also 15"
abbrev pub TwelveToFifteen : ℕ → Type 0
TwelveToFifteen n = (12 ≤ n) × (n ≤ 15)

-- the sole key's checks, by what they look at
abbrev sole : Bool → Bool → Bool → ℕ → Answer
sole one simple same keys = first_refusal (refuse_unless one (refused 12 keys 0) ∷ refuse_unless simple (refused 13 0 0) ∷ refuse_unless same (refused 14 0 0) ∷ [])

-- then 15 of a prefix that commits to next keys
sole_then_15 : (one simple same : Bool) (keys : ℕ) (more : List Answer)
    → TwelveToFifteen (first_refusal (sole one simple same keys ∷ first_refusal (refused 15 0 0 ∷ more) ∷ [])).number
unfolding first_refusal
sole_then_15 false simple same keys more = (omega arith, omega arith)
sole_then_15 true false same keys more = (omega arith, omega arith)
sole_then_15 true true false keys more = (omega arith, omega arith)
sole_then_15 true true true keys more = (omega arith, omega arith)

-- by the class of the prefix, and whether next is empty: only B with next keys is refused by 29's check
by_class : (k : Class) (none : Bool) (one simple same : Bool) (keys : ℕ) (more : List Answer) → fits_class Prefix k ≡ true
    → passes (refuse_unless (pick none true (transferable_class k)) (refused 29 0 0)) ≡ false
    → TwelveToFifteen (pick (basic_class k) (first_refusal (sole one simple same keys ∷ pick (transferable_class k) accepted (first_refusal (refuse_unless none (refused 15 0 0) ∷ more)) ∷ [])) accepted).number
by_class k true one simple same keys more fits e = clash e
by_class NonTransferableKey false one simple same keys more fits e = sole_then_15 one simple same keys more
by_class TransferableKey false one simple same keys more fits e = clash e
by_class Digest false one simple same keys more fits e = clash e
by_class Bad false one simple same keys more fits e = clash (sym fits)

module _ (h : Head) (b : Body) (anchors : ℕ) (fits : item_fits Prefix h.prefix ≡ true) where
  pub first-refused : passes (may_commit h.prefix b.commitment) ≡ false → TwelveToFifteen (identity_of h b anchors).number
  unfolding identity
  first-refused e =
      let keys = b.authority.keys in
      let t = b.authority.threshold in
      by_class (class_of h.prefix.code) (eqb b.commitment.next.count 0)
      (eqb keys.count 1) (both (is_simple t) (eqb t.simple 1)) (same_item h.prefix (first_key keys)) keys.count
      (refuse_unless (eqb b.additions.count 0) (refused 16 0 0) ∷ refuse_unless (eqb anchors 0) (refused 17 0 0) ∷ []) fits e

  not-zero : (n : ℕ) → TwelveToFifteen n → n ≡ 0 → ⊥
  not-zero n p z = let least = p.0 in omega arith

  -- so where 12 to 17 pass, it has nothing to say
  may_commit_lem : passes (identity_of h b anchors) ≡ true → may_commit h.prefix b.commitment ≡ accepted
  may_commit_lem p = by_test (pick (eqb b.commitment.next.count 0) true (transferable_class (class_of h.prefix.code))) first-refused
    where
      by_test : (good : Bool) → (passes (refuse_unless good (refused 29 0 0)) ≡ false → TwelveToFifteen (identity_of h b anchors).number) → refuse_unless good (refused 29 0 0) ≡ accepted
      by_test true f = refl
      by_test false f = absurd (not-zero _ (f refl) (eqb-true _ 0 p))

-- a check that has nothing to say where the second one passes
silent : (x y c : Answer) (xs ys : List Answer) → (passes y ≡ true → c ≡ accepted) → first_refusal (x ∷ y ∷ (xs ++ (c ∷ ys))) ≡ first_refusal (x ∷ y ∷ (xs ++ ys))
silent x y c xs ys f =
    then_same x _ _ (λ _. then_same y _ _ (λ p. tail_same xs (c ∷ ys) ys (ap (λ (d : Answer). first_refusal (d ∷ ys)) (f p) ∙ passed accepted ys refl)))

module _ (h : Head) (b : Body) (anchors : ℕ) (signed : Answer) (receipted : ℕ → Answer) where
  pub without_29 : item_fits Prefix h.prefix ≡ true → inception h b anchors signed receipted ≡ inception_without29 h b anchors signed receipted
  unfolding inception inception_without29
  without_29 fits =
      silent (genesis_sn h.sn) (identity_of h b anchors) (may_commit h.prefix b.commitment)
      (witness_faults 1 (listed b.additions) ∷ own_form b.authority ∷ signed ∷ next_form b.commitment ∷ [])
      (toad_fits b b.additions.count ∷ receipted b.additions.count ∷ [])
      (may_commit_lem h b anchors fits)

  -- whatever the prefix
  pub closed : of_prefix h.prefix (inception h b anchors signed receipted) ≡ of_prefix h.prefix (inception_without29 h b anchors signed receipted)
  unfolding first_refusal
  closed = by_test (item_fits Prefix h.prefix) without_29
    where
      by_test : (t : Bool) → (t ≡ true → inception h b anchors signed receipted ≡ inception_without29 h b anchors signed receipted)
          → first_refusal (refused (pick t 0 3) 0 0 ∷ inception h b anchors signed receipted ∷ []) ≡ first_refusal (refused (pick t 0 3) 0 0 ∷ inception_without29 h b anchors signed receipted ∷ [])
      by_test true f = ap (λ (x : Answer). first_refusal (x ∷ [])) (f refl)
      by_test false f = refl

-- ---- an inception from the groups of its checks
abbrev pub start_of : Head → Body → ℕ → List Answer
start_of h b anchors = genesis_head h.prefix h.sn ∷ identity_of h b anchors ∷ witness_faults 1 (listed b.additions) ∷ []

abbrev pub keys_of : Body → Answer → List Answer
keys_of b signed = own_form b.authority ∷ signed ∷ next_form b.commitment ∷ []

abbrev pub witnesses_of : Body → (ℕ → Answer) → List Answer
witnesses_of b receipted = toad_fits b b.additions.count ∷ receipted b.additions.count ∷ []

-- two checks in one, and one behind a group
behind : (x y : Answer) (zs : List Answer) → first_refusal (first_refusal (x ∷ y ∷ []) ∷ zs) ≡ first_refusal (x ∷ first_refusal (y ∷ zs) ∷ [])
behind x y zs =
    grouped (x ∷ y ∷ []) zs
    ∙ tail_same (x ∷ []) (y ∷ zs) (first_refusal (y ∷ zs) ∷ []) (last (first_refusal (y ∷ zs)) (first_refusal (y ∷ zs)) (clean_first (y ∷ zs)) refl)

pub incepts : (h : Head) (b : Body) (anchors : ℕ) (signed : Answer) (receipted : ℕ → Answer)
    → first_refusal (first_refusal (start_of h b anchors) ∷ first_refusal (keys_of b signed) ∷ first_refusal (witnesses_of b receipted) ∷ [])
    ≡ of_prefix h.prefix (inception h b anchors signed receipted)
unfolding inception_without29
incepts h b anchors signed receipted =
    three_groups (start_of h b anchors) (keys_of b signed) (witnesses_of b receipted)
    ∙ behind (prefix_shape h.prefix) (genesis_sn h.sn)
    (identity_of h b anchors
    ∷ witness_faults 1 (listed b.additions)
    ∷ own_form b.authority
    ∷ signed
    ∷ next_form b.commitment
    ∷ toad_fits b b.additions.count
    ∷ receipted b.additions.count
    ∷ [])
    ∙ sym (closed h b anchors signed receipted)
