-- What a lent list of receipts gets. The whole answer first; then the by-value counting step that the walk hands each element to.
use Rattle.std.specs.Prelude.{ℕ, List, true, ltb, leb, length}
use Rattle.lists.specs.Lists.{pick, both, all}
use Rattle.answer.specs.declared.Answer.{Answer}
use Rattle.answer.specs.Answer.{refused}
use Rattle.places.specs.Places.{places_in}
use Rattle.firsts.specs.Firsts.{with_first}
use Rattle.verification.specs.declared.Siger.{Siger}
use Rattle.verification.specs.Verification.{counted_with, ondex_fits}
use Rattle.authority.specs.Authority.{receipts, receipted_by}
use Rattle.lent_receipts.specs.declared.Tally.{Tally}

-- "48 signatures and 48 receipts", 4 above that; then 3, "ondex u32 (0 when the flag is 0)"; then the by-value count: "Toad 0 reads no
-- receipts", "32: valid, required"
unfoldable pub receipted_from : ℕ → ℕ → List Siger → Answer
receipted_from toad witnesses xs =
    pick (leb (length xs) 48) (pick (all ondex_fits xs) (receipted_by toad witnesses xs) (refused 3 0 0)) (refused 4 0 0)

-- ---- One at a time. "Of copies equal in code, index, ondex and raw, the first decides.": the receipt at position i, a copy of the one at j where that is
-- earlier
unfoldable pub step_of : ℕ → Tally → Siger → ℕ → ℕ → Tally
step_of witnesses t s i j =
    record {
      firsts = pick (ltb j i) t.firsts (with_first t.firsts i);
      counted = pick (ltb j i) t.counted (counted_with witnesses 0 t.counted s);
      fits = both t.fits (ondex_fits s);
    }

abbrev pub none_yet : Tally
none_yet = record { firsts = 0; counted = record { verified = 0; exposed = 0 }; fits = true }

unfoldable pub concluded : ℕ → Tally → Answer
concluded toad t = pick t.fits (receipts toad (places_in t.counted.verified)) (refused 3 0 0)
