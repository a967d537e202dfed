use Rattle.std.proofs.Common.{rules}
use lib.ListN.{get_or}
use Rattle.decision.specs.Narrowing.{fraction}
use Rattle.decision.proofs.narrowing.smallest.Goals as goal

pub returns : goal.returns
returns c = c.best.ensures (λ p. fraction (get_or c.args.used.now p 0) (get_or c.args.budgets.now p 0)) (λ p v b h. search rules)
