-- `sound_threads` tests every thread's numbers.
use Rattle.std.proofs.Common.{◌≡◌}
use Rattle.lists.specs.Lists.{all, below}
use Rattle.model.specs.Arrays.{columns}
use Rattle.soundness.proofs.Clauses.{answer, fine}
use Rattle.soundness.proofs.records.sound_threads.Given as goal

abbrev pub invariant-loop-t : goal.invariant-loop-t
invariant-loop-t l =
    answer l.count l.rest l.least l.most ≡ all (fine l.count (columns l.exists l.ready l.partitions l.priorities l.masks l.policies l.slices)) (below l.t)
