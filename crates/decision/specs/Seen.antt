-- The ready queue of a state, as it is lent.
use Rattle.std.specs.Prelude.{ℕ}
use Rattle.model.specs.declared.StateRef.{StateRef}
use Rattle.decision.specs.declared.leads.ReadyQueue.{ReadyQueue}

abbrev pub queue_seen : StateRef → ℕ → ℕ → ReadyQueue
queue_seen x queued core =
    record { partitions = x.partitions; priorities = x.priorities; masks = x.masks; queue = x.queue; queued = queued; core = core }
