-- Signatures as they stand in a list of bytes, 76 each: what one at a place says, and where a list of them stands.
use Rattle.std.specs.Prelude.{ℕ, ◌+◌, ◌*◌, List, Bool, leb, eqb, length, get_or}
use Rattle.lists.specs.Lists.{pick, both, either}
use Rattle.format.specs.Parse.{Parse, got, bad, num_at}
use Rattle.cursor.specs.Cursor.{raw_of}
use Rattle.cursor.specs.declared.Listing.{Listing}
use Rattle.cursor.specs.Spans.{span_at, list_of, many_of}
use Rattle.firsts.specs.Firsts.{first_ones}
use Rattle.verification.specs.declared.Siger.{Siger}
use Rattle.verification.specs.Verification.{same_wire}

-- the u32 at a place, 0 where the bytes run out
abbrev pub valued : Parse ℕ → ℕ
valued (got v n) = v
valued (bad r) = 0

abbrev pub word_of : List ℕ → ℕ → ℕ
word_of s at = valued (num_at 4 s at)

-- "code (any byte, only compared), index u32, ondex flag 0 or 1, ondex u32 (0 when the flag is 0), 64 raw bytes, signature
-- verdict, digest verdict": the signature at a place, each part as it stands
unfoldable pub siger_of : List ℕ → ℕ → Siger
siger_of s at =
    record {
      code = get_or s at 0;
      index = record { 0 = word_of s (at + 1) };
      dual = eqb (get_or s (at + 5) 0) 1;
      ondex = record { 0 = word_of s (at + 6) };
      raw = raw_of 64 s (at + 10);
      verified = eqb (get_or s (at + 74) 0) 1;
      matches = eqb (get_or s (at + 75) 0) 1;
    }

-- n of them, one after another; none where they are more than 48 or the bytes run out
abbrev pub sigers_of : List ℕ → ℕ → ℕ → List Siger
sigers_of s n at = many_of (siger_of s) 76 48 s n at

-- which of the first n signatures from a place on are first ones, no copy of one before them
abbrev pub firsts_from : List ℕ → ℕ → ℕ → ℕ
firsts_from s at n = first_ones same_wire (λ p. siger_of s (at + p * 76)) (λ p. list_of (siger_of s) 76 p at) n

-- whole and of its classes: the flag and both verdicts 0 or 1, the ondex 0 where the flag is
unfoldable pub shaped_at : List ℕ → ℕ → Bool
shaped_at s at =
    both (leb (at + 76) (length s))
    (both (leb (get_or s (at + 5) 0) 1)
    (both (either (eqb (get_or s (at + 5) 0) 1) (eqb (word_of s (at + 6)) 0)) (both (leb (get_or s (at + 74) 0) 1) (leb (get_or s (at + 75) 0) 1))))

-- where a signature stands, and a list of at most 48
unfoldable pub place_at : List ℕ → ℕ → Parse ℕ
place_at s at = pick (shaped_at s at) (got at (at + 76)) (bad 3)

abbrev pub sigers_span : List ℕ → ℕ → Parse Listing
sigers_span s at = span_at (place_at s) 48 s at
