-- `mark` marks the first entries.
use Rattle.std.proofs.Common.{◌≡◌, eqb, ltb, take}
use Rattle.lists.specs.Lists.{all, distinct}
use Rattle.soundness.specs.Queue.{Seen}
use Rattle.soundness.proofs.Marking.{rests}
use Rattle.soundness.proofs.queue.mark.Given as goal

abbrev pub invariant-loop-i : goal.invariant-loop-i
invariant-loop-i l =
    record {
      once : eqb l.again 0 ≡ distinct (take l.i (rests l.queue));
      low : ltb l.bits 64 ≡ all (λ t. ltb t 64) (take l.i l.queue);
      marks : Seen l.seen (take l.i (rests l.queue));
    }
