-- Document 01, 'Both sides of the line': the lines marked *, in its order and its words, said of the definitions that the
-- contracts cite. A no of a threshold names its clause (document 02, request 2).
use Rattle.std.specs.Prelude.{◌≡◌, Bool, true, false, List, [], ◌∷◌, ◌++◌, map, Some, None, Ok, ℕ, ◌-◌, ◌^◌, length, replicate}
use Rattle.lists.specs.Lists.{padded}
use Rattle.number.specs.Number.{words, next_of}
use Rattle.item.specs.declared.Item.{Item}
use Rattle.weight.specs.declared.Weight.{Weight}
use Rattle.threshold.specs.declared.Threshold.{Threshold}
use Rattle.threshold.specs.Threshold.{Judgement, short}
use Rattle.satisfied.specs.Satisfied.{satisfied_by_sorted_unique, satisfied_by}
use Rattle.toad.specs.Toad.{Taken, taken, not_taken, ample_answer, exact_answer}
use Rattle.member_set.specs.Members.{updated}
use Rattle.verification.specs.declared.Siger.{Siger}
use Rattle.verification.specs.Verification.{verified_places, exposed_places, counted_of}

-- ---- the values that the lines name
infixl 90 ◌/w◌
abbrev pub ◌/w◌ : ℕ → ℕ → Weight
n /w d = record { num = n; den = d }

abbrev weights_of : List (List Weight) → List Weight
weights_of [] = []
weights_of (c ∷ cs) = c ++ weights_of cs

abbrev pub weighted : List (List Weight) → Threshold
weighted cs =
    record {
      tag = 1;
      simple = 0;
      clauses = length cs;
      sizes = padded 16 0 (map (λ (c : List Weight). length c) cs);
      weights = padded 16 (0 /w 0) (weights_of cs);
    }

abbrev pub simple : ℕ → Threshold
simple n = record { tag = 0; simple = n; clauses = 0; sizes = replicate 16 0; weights = replicate 16 (0 /w 0) }

-- what the two entries say of a list of places: the sorted one, then the other
abbrev pub entries : Threshold → List ℕ → Judgement × Judgement
entries t ps = (satisfied_by_sorted_unique t ps, satisfied_by t ps)

abbrev pub yes : Judgement × Judgement
yes = (Ok tt, Ok tt)

-- the first unsatisfied clause, counted from 1, or 0
abbrev pub no : ℕ → Judgement × Judgement
no clause = (short clause, short clause)

abbrev exactly : ℕ × ℕ → Taken
exactly c = exact_answer c.0 c.1

-- members A, B, C, D: non-transferable keys, each with bytes of its own
abbrev key : ℕ → Item
key k = record { code = 66; raw = replicate 32 k }

abbrev A : Item
A = key 1

abbrev B : Item
B = key 2

abbrev C : Item
C = key 3

abbrev D : Item
D = key 4

-- a signature at index 0 with an ondex, whose digest verdict is yes
abbrev pub signed : ℕ → Bool → Siger
signed ondex verdict =
    record {
      code = 65;
      index = record { 0 = 0 };
      dual = true;
      ondex = record { 0 = ondex };
      raw = replicate 64 7;
      verified = verdict;
      matches = true;
    }

-- how many places of keys are verified, and of commitments exposed
abbrev counts : ℕ → ℕ → List Siger → ℕ × ℕ
counts keys next sigs = (length (verified_places keys sigs), length (exposed_places keys next sigs))

-- ---- the table: a field for each marked line
pub record Starred : Type 0 where
  -- "Weights 1/2, 1/2, 1/2: places 0 and 2 yes, place 1 alone no."
  pub halves : map (entries (weighted ((1 /w 2 ∷ 1 /w 2 ∷ 1 /w 2 ∷ []) ∷ []))) ((0 ∷ 2 ∷ []) ∷ (1 ∷ []) ∷ []) ≡ yes ∷ no 1 ∷ []
  -- "Clauses [1/2, 1/2] and [1/1]: 0,1 no; 0,1,2 yes."
  pub clauses : map (entries (weighted ((1 /w 2 ∷ 1 /w 2 ∷ []) ∷ (1 /w 1 ∷ []) ∷ []))) ((0 ∷ 1 ∷ []) ∷ (0 ∷ 1 ∷ 2 ∷ []) ∷ []) ≡ no 2 ∷ yes ∷ []
  -- "Weights 1/1, 1/0: place 0 no."
  pub zero_denominator : map (entries (weighted ((1 /w 1 ∷ 1 /w 0 ∷ []) ∷ []))) ((0 ∷ []) ∷ []) ≡ no 1 ∷ []
  -- "Weights 1/1, 1/2^63, 1/2^63: 0 yes; 0,1 yes; 0,1,2 no."
  pub overflow : map (entries (weighted ((1 /w 1 ∷ 1 /w (2 ^ 63) ∷ 1 /w (2 ^ 63) ∷ []) ∷ []))) ((0 ∷ []) ∷ (0 ∷ 1 ∷ []) ∷ (0 ∷ 1 ∷ 2 ∷ []) ∷ []) ≡ yes ∷ yes ∷ no 1 ∷ []
  -- "Simple 2 with places 0, 5: yes."
  pub simple_two : map (entries (simple 2)) ((0 ∷ 5 ∷ []) ∷ []) ≡ yes ∷ []
  -- "Simple 1 with list 2, 0: sorted entry no, other entry yes."
  pub unsorted : map (entries (simple 1)) ((2 ∷ 0 ∷ []) ∷ []) ≡ (short 0, Ok tt) ∷ []
  -- "`exact`: 0 of 0 and 3 of 3 yes; 1 of 0, 0 of 1, 4 of 3 no."
  pub exact : map exactly ((0, 0) ∷ (3, 3) ∷ (1, 0) ∷ (0, 1) ∷ (4, 3) ∷ []) ≡ taken 0 ∷ taken 3 ∷ not_taken 40 1 0 ∷ not_taken 40 0 1 ∷ not_taken 40 4 3 ∷ []
  -- "`ample` as listed above": "Witnesses 0 to 7 give 0, 1, 2, 3, 3, 4, 4, 5; 10 gives 7; 16 gives 11."
  pub ample : map ample_answer (0 ∷ 1 ∷ 2 ∷ 3 ∷ 4 ∷ 5 ∷ 6 ∷ 7 ∷ 10 ∷ 16 ∷ []) ≡ map taken (0 ∷ 1 ∷ 2 ∷ 3 ∷ 3 ∷ 4 ∷ 4 ∷ 5 ∷ 7 ∷ 11 ∷ [])
  -- "After 2^64-1 comes high 1, low 0; 2^128-1 has no next number."
  pub next : map next_of (words (2 ^ 64 - 1) ∷ words (2 ^ 128 - 1) ∷ []) ≡ Some (record { high = 1; low = 0 }) ∷ None ∷ []
  -- "Current A, B, C, cut B, add D: A, C, D. Fold of A with additions A, D, D: A, D."
  pub members : updated (A ∷ B ∷ C ∷ []) (B ∷ []) (D ∷ []) ∷ updated (A ∷ []) [] (A ∷ D ∷ D ∷ []) ∷ [] ≡ (A ∷ C ∷ D ∷ []) ∷ (A ∷ D ∷ []) ∷ []
  -- "Two verified signatures, index 0, ondexes 0 and 1, both digests yes: 2 exposed."
  pub exposed : counts 1 2 (signed 0 true ∷ signed 1 true ∷ []) ≡ (1, 2)
  pub exposed_bits : counted_of 1 2 (signed 0 true ∷ signed 1 true ∷ []) ≡ record { verified = 1; exposed = 3 }
  -- "A copy with verdict no, then the same with yes: not counted."
  pub copies : counts 1 2 (signed 0 false ∷ signed 0 true ∷ []) ≡ (0, 0)
  pub copies_bits : counted_of 1 2 (signed 0 false ∷ signed 0 true ∷ []) ≡ record { verified = 0; exposed = 0 }
