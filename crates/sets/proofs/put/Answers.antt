use Rattle.sets.proofs.Laws.{put_in}
use borrow.Author.Rules.{rules}
use Rattle.sets.proofs.put.Goals as goal

pub returns : goal.returns
returns c = λ i b. put_in c.args.set c.args.p i c.requires
