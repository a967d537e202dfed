use Rattle.decision.specs.Leads.{tops_of}
use Rattle.decision.proofs.DecisionLaws.{levelled}
use Rattle.decision.proofs.level_of.Goals as goal

pub returns : goal.returns
returns c =
    levelled c.args.order c.args.solvent (tops_of c.args.leads.now) c.args.competing c.by_budget-rich.result c.by_priority.result
    c.by_budget-rich.ensures c.by_priority.ensures
