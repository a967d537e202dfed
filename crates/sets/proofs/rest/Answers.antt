use Rattle.sets.proofs.Laws.{rested}
use borrow.Author.Rules.{rules}
use Rattle.sets.proofs.rest.Goals as goal

pub returns : goal.returns
returns c = rested c.args.set c.requires
