-- `equal` compares every flag.
use Rattle.std.proofs.Common.{◌≡◌, ℕ, Bool, eqb, List, get_or}
use Rattle.lists.specs.Lists.{all, below}
use Rattle.soundness.proofs.queue.equal.Given as goal

abbrev pub agrees : List ℕ → List ℕ → ℕ → Bool
agrees a b t = eqb (get_or a t 0) (get_or b t 0)

abbrev pub invariant-loop-t : goal.invariant-loop-t
invariant-loop-t l = eqb l.bits 0 ≡ all (agrees l.a l.b) (below l.t)
