-- Document 01: "Of copies equal in code, index, ondex and raw, the first decides." What two signatures have to agree in, part by part, said of the
-- definition that the contracts cite. The list has a signature with verdict no, and behind it one with yes: where that is a copy its place is not counted.
use Rattle.std.specs.Prelude.{◌≡◌, Bool, true, false, List, [], ◌∷◌, ◌++◌, ℕ, length, replicate}
use Rattle.verification.specs.declared.Siger.{Siger}
use Rattle.verification.specs.Verification.{verified_places}

-- code, index, whether it has an ondex, the ondex, raw, the two verdicts
abbrev signature : ℕ → ℕ → Bool → ℕ → List ℕ → Bool → Bool → Siger
signature c i d o r v m = record { code = c; index = record { 0 = i }; dual = d; ondex = record { 0 = o }; raw = r; verified = v; matches = m }

abbrev raw : List ℕ
raw = replicate 64 7

-- the signature with verdict no, and a copy of it with yes
abbrev no : Siger
no = signature 65 0 true 0 raw false true

abbrev yes : Siger
yes = signature 65 0 true 0 raw true true

-- how many places count, of two keys
abbrev counted : List Siger → ℕ
counted sigs = length (verified_places 2 sigs)

pub record Copies : Type 0 where
  -- equal in all four: a copy, whatever its verdicts are; and so is a copy of a copy
  pub copy : counted (no ∷ yes ∷ []) ≡ 0
  pub digest_verdict : counted (no ∷ signature 65 0 true 0 raw true false ∷ []) ≡ 0
  pub copy_of_a_copy : counted (no ∷ yes ∷ yes ∷ []) ≡ 0
  pub among_others : counted (no ∷ signature 65 1 true 0 raw false true ∷ yes ∷ signature 65 1 true 0 raw true true ∷ []) ≡ 0
  -- the first decides, for yes too
  pub first_yes : counted (yes ∷ no ∷ []) ≡ 1
  -- one part differs: no copy
  pub code : counted (no ∷ signature 66 0 true 0 raw true true ∷ []) ≡ 1
  pub index : counted (no ∷ signature 65 1 true 0 raw true true ∷ []) ≡ 1
  pub no_ondex : counted (no ∷ signature 65 0 false 0 raw true true ∷ []) ≡ 1
  pub ondex : counted (no ∷ signature 65 0 true 1 raw true true ∷ []) ≡ 1
  pub first_byte : counted (no ∷ signature 65 0 true 0 (8 ∷ replicate 63 7) true true ∷ []) ≡ 1
  pub last_byte : counted (no ∷ signature 65 0 true 0 (replicate 63 7 ++ (8 ∷ [])) true true ∷ []) ≡ 1
