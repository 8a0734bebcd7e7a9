-- The marked lines of document 01 hold, all together, and so do the tables of copies and of clauses: antt computes them. Assumes nothing.
use mathlib.Core.Path.{refl}
use Rattle.lists.specs.Lists.{any, all, filter, first_from, same_numbers}
use Rattle.number.specs.Number.{next_of}
use Rattle.item.specs.Item.{same_item}
use Rattle.places.specs.Places.{chosen, set_of}
use Rattle.weight.specs.Weight.{plus, weigh}
use Rattle.threshold.specs.Threshold.{shape_of, sum, runs, sum_from, clauses_met, judged}
use Rattle.satisfied.specs.Satisfied.{rising_after, insert, sorted_unique, satisfied_by_sorted_unique}
use Rattle.toad.specs.Toad.{ample_of}
use Rattle.member_set.specs.Members.{joined, updated}
use Rattle.authority.specs.Authority.{quorum}
use Rattle.verification.specs.Verification.{same_wire, firsts, verified_at, exposed_at}
use Rattle.examples.specs.Starred.{Starred}
use Rattle.examples.specs.Copies.{Copies}
use Rattle.examples.specs.Clauses.{Clauses}

pub starred : Starred
unfolding any all first_from filter same_numbers next_of same_item chosen set_of plus weigh shape_of sum runs sum_from clauses_met judged rising_after insert sorted_unique satisfied_by_sorted_unique ample_of joined updated same_wire firsts verified_at exposed_at
starred =
    record {
      halves = refl;
      clauses = refl;
      zero_denominator = refl;
      overflow = refl;
      simple_two = refl;
      unsorted = refl;
      exact = refl;
      ample = refl;
      next = refl;
      members = refl;
      exposed = refl;
      exposed_bits = refl;
      copies = refl;
      copies_bits = refl;
    }

pub copies : Copies
unfolding any same_numbers chosen same_wire firsts verified_at
copies =
    record {
      copy = refl;
      digest_verdict = refl;
      copy_of_a_copy = refl;
      among_others = refl;
      first_yes = refl;
      code = refl;
      index = refl;
      no_ondex = refl;
      ondex = refl;
      first_byte = refl;
      last_byte = refl;
    }

pub clauses : Clauses
unfolding any all first_from same_numbers chosen plus weigh shape_of sum runs sum_from clauses_met judged rising_after insert sorted_unique satisfied_by_sorted_unique same_wire firsts verified_at exposed_at quorum
clauses =
    record {
      teachers = refl;
      pupils = refl;
      both_short = refl;
      sixteenth = refl;
      empty_clause = refl;
      satisfied = refl;
      satisfied_0 = refl;
      simple_0 = refl;
      no_clauses_0 = refl;
      not_rising_0 = refl;
      twice_0 = refl;
      b_of_27 = refl;
      b_of_27_simple = refl;
      own_met = refl;
      b_of_28 = refl;
    }
