use Rattle.sets.proofs.Laws.{marked}
use borrow.Author.Rules.{rules}
use Rattle.sets.proofs.mark.Goals as goal

pub returns : goal.returns
returns c = rw c.from.ensures (λ i b. marked c.args.set c.args.p i c.args.on c.requires b)
