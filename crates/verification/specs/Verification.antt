-- Which places a list of signatures speaks for. `dual`: it has an ondex; `verified`, `matches`: its two verdicts, on the
-- signature and on the digest.
use Rattle.std.specs.Prelude.{ℕ, List, [], ◌∷◌, ◌++◌, Bool, true, false, Option, Some, None, eqb, ltb, leb, length, take, drop, replicate}
use Rattle.lists.specs.Lists.{pick, both, either, any, all, same_numbers, padded}
use Rattle.places.specs.Places.{chosen, set_of, with_place}
use Rattle.verification.specs.declared.Index.{Index}
use Rattle.verification.specs.declared.Ondex.{Ondex}
use Rattle.verification.specs.declared.Siger.{Siger}
use Rattle.verification.specs.declared.Sigers.{Sigers}
use Rattle.verification.specs.declared.Counted.{Counted}
use Rattle.verification.specs.declared.Claim.{Claim}

abbrev pub signatures : Sigers → List Siger
signatures l = take l.count l.at

abbrev pub same_flag : Bool → Bool → Bool
same_flag true b = b
same_flag false true = false
same_flag false false = true

-- "equal in code, index, ondex and raw": no ondex and ondex 0 differ; verdicts are not compared
unfoldable pub same_wire : Siger → Siger → Bool
same_wire a b =
    both (eqb a.code b.code)
    (both (eqb a.index.0 b.index.0)
    (both (same_flag a.dual b.dual)
    (both (eqb a.ondex.0 b.ondex.0) (same_numbers a.raw b.raw))))

-- "Of copies .. the first decides": the signatures that are no copy of one before them
unfoldable pub firsts : List Siger → List Siger → List Siger
firsts before [] = []
firsts before (s ∷ ss) = pick (any (same_wire s) before) (firsts (before ++ (s ∷ [])) ss) (s ∷ firsts (before ++ (s ∷ [])) ss)

-- "An index past the list is skipped": a verified signature whose index lies within the keys speaks for that place
abbrev pub signs_at : ℕ → ℕ → Siger → Bool
signs_at keys k s = both s.verified (both (ltb s.index.0 keys) (eqb s.index.0 k))

-- "Exposed places come from verified signatures with an ondex within the old next list, an index within the new keys and a
-- yes for the digest."
abbrev pub exposes_at : ℕ → ℕ → ℕ → Siger → Bool
exposes_at keys next k s =
    both (both s.verified (ltb s.index.0 keys)) (both s.dual (both (ltb s.ondex.0 next) (both s.matches (eqb s.ondex.0 k))))

unfoldable pub verified_at : ℕ → List Siger → ℕ → Bool
verified_at keys sigs k = any (signs_at keys k) (firsts [] sigs)

unfoldable pub exposed_at : ℕ → ℕ → List Siger → ℕ → Bool
exposed_at keys next sigs k = any (exposes_at keys next k) (firsts [] sigs)

-- the sets of places, each place once, rising; at most 16 of them, since no list is longer
abbrev pub verified_places : ℕ → List Siger → List ℕ
verified_places keys sigs = chosen 16 (verified_at keys sigs)

abbrev pub exposed_places : ℕ → ℕ → List Siger → List ℕ
exposed_places keys next sigs = chosen 16 (exposed_at keys next sigs)

-- the same as bits
abbrev pub counted_of : ℕ → ℕ → List Siger → Counted
counted_of keys next sigs = record { verified = set_of 16 (verified_at keys sigs); exposed = set_of 16 (exposed_at keys next sigs) }

-- ---- One at a time. "key lookup takes only the first, commitment lookup only the second"
unfoldable pub place_within : ℕ → ℕ → Option ℕ
place_within k n = pick (ltb k n) (Some k) None

abbrev pub key_place : Index → ℕ → Option ℕ
key_place index keys = place_within index.0 keys

abbrev pub commitment_place : Ondex → ℕ → Option ℕ
commitment_place ondex next = place_within ondex.0 next

-- the sets so far with the places of one more signature: a verified one's commitment, and both where it is no copy
unfoldable pub exposed_with : ℕ → ℕ → Siger → ℕ
exposed_with next set s = pick (both s.dual (both (ltb s.ondex.0 next) s.matches)) (with_place set s.ondex.0) set

unfoldable pub counted_with : ℕ → ℕ → Counted → Siger → Counted
counted_with keys next c s =
    pick (both s.verified (ltb s.index.0 keys))
    (record { verified = with_place c.verified s.index.0; exposed = exposed_with next c.exposed s })
    c

-- what a claim says as a signature without bytes: the step asks for none
abbrev pub claimed : Claim → Siger
claimed s =
    record {
      code = 0;
      index = s.index;
      dual = s.dual;
      ondex = s.ondex;
      raw = [];
      verified = s.verified;
      matches = s.matches;
    }

abbrev pub claim_of : Siger → Claim
claim_of s = record { index = s.index; dual = s.dual; ondex = s.ondex; verified = s.verified; matches = s.matches }

-- ---- Shape. "ondex u32 (0 when the flag is 0)"; at most 48; unused places zero.
abbrev pub no_siger : Siger
no_siger =
    record {
      code = 0;
      index = record { 0 = 0 };
      dual = false;
      ondex = record { 0 = 0 };
      raw = replicate 64 0;
      verified = false;
      matches = false;
    }

abbrev pub ondex_fits : Siger → Bool
ondex_fits s = either s.dual (eqb s.ondex.0 0)

abbrev pub zero_siger : Siger → Bool
zero_siger s = both (same_wire no_siger s) (both (same_flag false s.verified) (same_flag false s.matches))

abbrev pub packed_sigers : List Siger → Sigers
packed_sigers xs = record { count = length xs; at = padded 48 no_siger xs }

unfoldable pub shape_of : Sigers → ℕ
shape_of l = pick (leb l.count 48) (pick (all ondex_fits (signatures l)) (pick (all zero_siger (drop l.count l.at)) 0 3) 3) 4
