-- The fields of a record, over a list of bytes.
use Rattle.std.specs.Prelude.{ℕ, zero, suc, ◌+◌, List, [], ◌∷◌, Bool, true, false, leb, eqb, length, replicate}
use Rattle.lists.specs.Lists.{pick, either, padded}
use Rattle.number.specs.declared.Number.{Number}
use Rattle.item.specs.declared.Item.{Item}
use Rattle.item.specs.declared.Kind.{Kind}
use Rattle.item.specs.Item.{fits_of}
use Rattle.items.specs.declared.Items.{Items}
use Rattle.items.specs.Items.{packed}
use Rattle.config.specs.declared.Config.{Config}
use Rattle.config.specs.Config.{is_trait, packed_traits}
use Rattle.weight.specs.declared.Weight.{Weight}
use Rattle.threshold.specs.declared.Threshold.{Threshold}
use Rattle.verification.specs.declared.Siger.{Siger}
use Rattle.verification.specs.declared.Sigers.{Sigers}
use Rattle.verification.specs.Verification.{packed_sigers}
use Rattle.format.specs.Parse.{Parse, got, bad, bind, ◌>>=◌, byte_at, num_at, raw_at, classed, many_at, list_at}

-- a sequence number: "as a high and a low 64-bit word"
unfoldable pub sn_at : List ℕ → ℕ → Parse Number
sn_at s = do
  high ← num_at 8 s
  low ← num_at 8 s
  got (record { high = high; low = low })

-- "An item is a code byte and 32 bytes", its code of the class that the field asks for
unfoldable pub item_at : Kind → List ℕ → ℕ → Parse Item
item_at k s = do
  code ← byte_at s
  raw ← raw_at 32 s
  classed (fits_of k code) (record { code = code; raw = raw })

-- at most 16 of a class
unfoldable pub items_at : Kind → List ℕ → ℕ → Parse Items
items_at k s = do
  xs ← list_at (item_at k s) 16 s
  got (packed xs)

-- at most 8 traits, each 1 to 15
unfoldable pub trait_at : List ℕ → ℕ → Parse ℕ
trait_at s = do
  t ← byte_at s
  classed (is_trait t) t

unfoldable pub config_at : List ℕ → ℕ → Parse Config
config_at s = do
  ts ← list_at (trait_at s) 8 s
  got (packed_traits ts)

-- 0 or 1
unfoldable pub flag_at : List ℕ → ℕ → Parse Bool
flag_at s = do
  b ← byte_at s
  classed (leb b 1) (eqb b 1)

-- "A threshold is tag 0 and a u64, or tag 1, a clause count byte, a size byte per clause, then the weights"
abbrev pub simple : ℕ → Threshold
simple n = record { tag = 0; simple = n; clauses = 0; sizes = replicate 16 0; weights = replicate 16 (record { num = 0; den = 0 }) }

abbrev pub weighted : List ℕ → List Weight → Threshold
weighted sizes weights =
    record {
      tag = 1;
      simple = 0;
      clauses = length sizes;
      sizes = padded 16 0 sizes;
      weights = padded 16 (record { num = 0; den = 0 }) weights;
    }

-- n size bytes, behind sizes that come to `sum`: 4 "at the size byte that passes 16"
unfoldable pub sizes_at : List ℕ → ℕ → ℕ → ℕ → Parse (List ℕ)
sizes_at s zero sum at = got [] at
sizes_at s (suc n) sum at =
    bind (byte_at s at) (λ z p. pick (leb (sum + z) 16) (bind (sizes_at s n (sum + z) p) (λ zs q. got (z ∷ zs) q)) (bad 4))

unfoldable pub total : List ℕ → ℕ
total [] = 0
total (z ∷ zs) = z + total zs

unfoldable pub weight_at : List ℕ → ℕ → Parse Weight
weight_at s = do
  num ← num_at 8 s
  den ← num_at 8 s
  got (record { num = num; den = den })

-- at most 16 clauses, 4 at their count
unfoldable pub clauses_at : List ℕ → ℕ → Parse (List ℕ)
clauses_at s at = bind (byte_at s at) (λ n p. pick (leb n 16) (sizes_at s n 0 p) (bad 4))

unfoldable pub threshold_as : ℕ → List ℕ → ℕ → Parse Threshold
threshold_as zero s = do
  n ← num_at 8 s
  got (simple n)
threshold_as (suc zero) s = do
  sizes ← clauses_at s
  weights ← many_at (weight_at s) (total sizes)
  got (weighted sizes weights)
threshold_as (suc (suc n)) s = λ at. bad 3

unfoldable pub threshold_at : List ℕ → ℕ → Parse Threshold
threshold_at s = do
  tag ← byte_at s
  threshold_as tag s

-- "A signature has 76 bytes: code (any byte, only compared), index u32, ondex flag 0 or 1, ondex u32 (0 when the flag is 0), 64
-- raw bytes, signature verdict, digest verdict (each 0 or 1)."
unfoldable pub ondex_at : Bool → List ℕ → ℕ → Parse ℕ
ondex_at dual s = do
  ondex ← num_at 4 s
  classed (either dual (eqb ondex 0)) ondex

unfoldable pub siger_at : List ℕ → ℕ → Parse Siger
siger_at s = do
  code ← byte_at s
  index ← num_at 4 s
  dual ← flag_at s
  ondex ← ondex_at dual s
  raw ← raw_at 64 s
  verified ← flag_at s
  matches ← flag_at s
  got (
      record {
        code = code;
        index = record { 0 = index };
        dual = dual;
        ondex = record { 0 = ondex };
        raw = raw;
        verified = verified;
        matches = matches;
      })

-- at most 48
unfoldable pub sigers_at : List ℕ → ℕ → Parse Sigers
sigers_at s = do
  xs ← list_at (siger_at s) 48 s
  got (packed_sigers xs)
