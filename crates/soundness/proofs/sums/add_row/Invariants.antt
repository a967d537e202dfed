-- `add_row` adds the numbers of a part of a row up, and each to its slot.
use Rattle.std.proofs.Common.{◌≡◌, ◌%◌, ◌^◌, ltb, get_or, take}
use Rattle.lists.specs.Lists
use Rattle.lists.specs.Lists.{all, below}
use Rattle.soundness.specs.Sums.{Added}
use Rattle.soundness.proofs.sums.add_row.Given as goal

abbrev pub invariant-loop-k : goal.invariant-loop-k
invariant-loop-k l =
    record {
      narrow : ltb l.bits 4194304 ≡ all (λ i. ltb (get_or l.row i 0) 4194304) (below l.k);
      total : l.sum ≡ Lists.sum (take l.k l.row) % 2 ^ 32;
      slots : Added (λ i. get_or l.row i 0) l.initial.sums l.sums l.k;
    }
