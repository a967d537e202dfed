-- `slots_within` tests the slots' sums.
use Rattle.std.proofs.Common.{◌≡◌, leb, get_or}
use Rattle.lists.specs.Lists.{all, below}
use Rattle.soundness.proofs.sums.slots_within.Given as goal

abbrev pub invariant-loop-k : goal.invariant-loop-k
invariant-loop-k l = l.ok ≡ all (λ k. leb (get_or l.sums k 0) l.most.0) (below l.k)
