use lib.ListN.{take}
use Rattle.decision.specs.Leads.{tops_of, firsts_of}
use Rattle.decision.specs.Keeping.{KeptIn}
use Rattle.decision.specs.Upkeep.{LeadsAlone}
use Rattle.decision.proofs.kept.Cache.build.Given as goal

abbrev pub invariant-loop-t : goal.invariant-loop-t
invariant-loop-t l =
    LeadsAlone l.fn.self l.self
    × KeptIn l.queue.core l.queue.partitions.now l.queue.priorities.now l.queue.masks.now (take l.t-index l.t-items) (tops_of l.self.leads) (firsts_of l.self.leads) l.self.sets.competing
