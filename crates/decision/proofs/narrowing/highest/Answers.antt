use Rattle.std.proofs.Common.{rules}
use lib.ListN.{get_or}
use Rattle.decision.specs.Leads.{tops_of}
use Rattle.decision.proofs.LeadsArray.{top_at}
use Rattle.decision.proofs.narrowing.highest.Goals as goal

pub returns : goal.returns
returns c = c.best.ensures (λ p. record { 0 = get_or (tops_of c.args.leads.now) p 0 }) (λ p v b h. search (top_at, rules))
