-- From the scan of a threshold to whether it is attainable. Assumes nothing.
use mathlib.Core.Path.{◌≡◌, sym, ◌∙◌}
use mathlib.Core.Bool.{false}
use mathlib.Core.List.{List}
use Prim.Native.Nat.{ℕ}
use borrow.Author.Tests.{eq-eqb, ne_eqb}
use lib.ListN.{length}
use Rattle.format.specs.Parse.{Parse, got, bad, bind, ended}
use Rattle.cursor.specs.Spans.{mapped}
use Rattle.threshold_field.specs.declared.Marks.{Marks}
use Rattle.threshold_field.specs.ThresholdField.{marks_at, threshold_of}
use Rattle.threshold_field.proofs.Laws.{threshold_values}
use Rattle.attainable.specs.Attainable.{attainable_by, attained}
use Rattle.device.specs.Calls.{threshold_alone, attainable_read, attainable_in}

-- ---- a threshold alone
module _ (s : List ℕ) (keys : ℕ) where
  threshold_read : (p : Parse Marks) → p ≡ marks_at s 0 → attainable_read keys (bind (mapped (threshold_of s) p) (ended s)) ≡ attainable_in s keys
  unfolding attainable_in threshold_alone
  threshold_read p is = rw (← threshold_values s 0, ← is)

  pub unread : (n : ℕ) → bad n ≡ marks_at s 0 → attained n false ≡ attainable_in s keys
  unread n is = threshold_read (bad n) is

  module _ (m : Marks) (end : ℕ) (is : got m end ≡ marks_at s 0) where
    pub read_over : (end ≡ length s → ⊥) → attained 3 false ≡ attainable_in s keys
    unfolding ended
    read_over ne = rw (ne_eqb end (length s) ne) at (threshold_read (got m end) is)

    pub read_whole : end ≡ length s → attainable_by (threshold_of s m) keys ≡ attainable_in s keys
    unfolding ended
    read_whole e = rw (eq-eqb end (length s) e) at (threshold_read (got m end) is)

pub ruleset alone = (unread, read_over, read_whole)
