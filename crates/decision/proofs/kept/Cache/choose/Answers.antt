use Rattle.model.specs.Arrays.{state_of}
use Rattle.decision.specs.Leads.{tops_of, firsts_of}
use Rattle.decision.proofs.UpkeepLaws.{kept}
use Rattle.decision.proofs.kept.Cache.choose.Goals as goal

pub returns : goal.returns
returns c =
    let a = c.args in
    let x = a.self.now in
    λ k ts q h f sized settled held favoured.
    c.decide.ensures (state_of a.settings a.used.now k ts q) f
    (kept a.settings a.used.now k ts q h x.budgets (tops_of x.leads) (firsts_of x.leads) x.sets sized settled held) favoured
