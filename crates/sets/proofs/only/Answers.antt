use Rattle.sets.proofs.Laws.{only_in}
use borrow.Author.Rules.{rules}
use Rattle.sets.proofs.only.Goals as goal

pub returns : goal.returns
returns c = λ i b. only_in c.args.p i c.requires
