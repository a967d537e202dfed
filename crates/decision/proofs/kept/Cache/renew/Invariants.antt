use mathlib.Core.Path.{◌≡◌}
use mathlib.Core.List.{List, ◌++◌}
use Prim.Native.Nat.{ℕ}
use lib.ListN.{take}
use Rattle.decision.specs.Leads.{lead_in, numbers, runnable}
use Rattle.decision.specs.Keeping.{StaleOf}
use Rattle.decision.specs.Upkeep.{LeadsAlone}
use Rattle.decision.proofs.kept.Cache.renew.Given as goal

-- of the line some threads were seen, and the others are left
abbrev pub invariant-loop-t : goal.invariant-loop-t
invariant-loop-t l =
    (seen : List ℕ) × (seen ++ l.line.rest.now ≡ take l.queue.queued l.queue.queue.now)
    × (l.best ≡ lead_in (numbers l.queue.priorities.now) (runnable l.queue.core l.queue.partitions.now l.queue.masks.now l.p seen))

abbrev pub invariant-loop-p : goal.invariant-loop-p
invariant-loop-p l = LeadsAlone l.fn.self l.self × StaleOf l.queue l.self.leads l.self.sets.competing l.p-iterator.0
