-- Which bytes of a body are the bytes of which fields: the runs of a record's own bytes that make the next state's.
use Rattle.std.specs.Prelude.{◌≡◌, List, ◌++◌, ℕ, ◌+◌, ◌-◌, ◌≤◌, length, take, drop}
use Rattle.field.specs.Field.{item_of, items_of}
use Rattle.threshold_field.specs.ThresholdField.{threshold_of}
use Rattle.parts.specs.declared.HeadMarks.{HeadMarks}
use Rattle.parts.specs.declared.QuorumMarks.{QuorumMarks}
use Rattle.parts.specs.declared.SignersMarks.{SignersMarks}
use Rattle.parts.specs.declared.BodyMarks.{BodyMarks}
use Rattle.record.specs.declared.LastMarks.{LastMarks}
use Rattle.snapshot.specs.Saved.{point_bytes, group_bytes}

-- xs stands in s from `at` up to n
pub record Run (s : List ℕ) (at : ℕ) (n : ℕ) (xs : List ℕ) : Type 0 where
  pub ends : n ≡ at + length xs
  pub within : n ≤ length s
  pub is : drop at s ≡ xs ++ drop n s

-- "keys, threshold", "next, next threshold", and both one after another
abbrev pub quorum_bytes : List ℕ → QuorumMarks → List ℕ
quorum_bytes s m = group_bytes (items_of s m.items.count m.items.first) (threshold_of s m.threshold)

abbrev pub signers_bytes : List ℕ → SignersMarks → List ℕ
signers_bytes s m = quorum_bytes s m.authority ++ quorum_bytes s m.commitment

-- "sn, said", behind the prefix
pub record Point (s : List ℕ) (h : HeadMarks) : Type 0 where
  pub room : 82 ≤ length s
  pub is : take 49 (drop 33 s) ≡ point_bytes h.sn (item_of s h.said)

-- "keys, threshold, next, next threshold", up to the count byte of the witnesses
pub record Signers (s : List ℕ) (from : ℕ) (b : BodyMarks) : Type 0 where
  pub starts : from ≤ b.additions.first - 1
  pub room : b.additions.first - 1 ≤ length s
  pub count : b.additions.first ≡ b.additions.first - 1 + 1
  pub is : take (b.additions.first - 1 - from) (drop from s) ≡ signers_bytes s b.signers

-- "last establishment sn and said", at the end
pub record Last (s : List ℕ) (l : LastMarks) : Type 0 where
  pub room : 132 ≤ length s
  pub is : drop (length s - 49) s ≡ point_bytes l.sn (item_of s l.said)
