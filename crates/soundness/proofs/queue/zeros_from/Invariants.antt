-- `zeros_from` tests the entries from n on.
use Rattle.std.proofs.Common.{◌≡◌, ◌&&◌, eqb, drop}
use Rattle.lists.specs.Lists.{all}
use Rattle.soundness.proofs.queue.zeros_from.Given as goal

abbrev pub invariant-loop-i : goal.invariant-loop-i
invariant-loop-i l = (eqb l.bits 0 && all (eqb 0) (drop l.i l.queue)) ≡ all (eqb 0) (drop l.n l.queue)
