use mathlib.Core.Path.{sym, ◌∙◌}
use Rattle.decision.specs.Leads.{tops_of, firsts_of}
use Rattle.decision.proofs.LeadsLaws.{join_none, joined, joined_still, leads_now}
use Rattle.decision.proofs.kept.Cache.join.Goals as goal

pub returns-else-allowed-clause-joined : goal.returns-else-allowed-clause-joined
returns-else-allowed-clause-joined c =
    let q = c.args.queue in
    let x = c.args.self.now in
    join_none q.core q.partitions.now q.priorities.now q.masks.now (tops_of x.leads) (firsts_of x.leads) x.sets.competing c.args.t
    (sym c.allowed.ensures ∙ c.if-allowed.false)

pub returns-then-self-here-clause-joined : goal.returns-then-self-here-clause-joined
returns-then-self-here-clause-joined c =
    let q = c.args.queue in
    let x = c.args.self.now in
    joined q.core q.partitions.now q.priorities.now q.masks.now x.leads x.sets.competing c.args.t
    c.requires.2 (sym c.allowed.ensures ∙ c.if-allowed.true) c.put-self.result c.put-self.ensures _
    (rw c.level_of-top.ensures (leads_now _ _ c.args.t (rw c.level_of-top.ensures at c.if-self-here.true)))

pub returns-else-self-here-clause-joined : goal.returns-else-self-here-clause-joined
returns-else-self-here-clause-joined c =
    let q = c.args.queue in
    let x = c.args.self.now in
    joined_still q.core q.partitions.now q.priorities.now q.masks.now x.leads x.sets.competing c.args.t
    c.requires.2 (sym c.allowed.ensures ∙ c.if-allowed.true) (rw c.level_of-top.ensures at c.if-self-here.false)
