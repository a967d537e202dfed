-- `block_within` tests the slots of a block.
use Rattle.lists.proofs.Tests.{both}
use Rattle.soundness.proofs.Books.{block_exact}
use Rattle.soundness.proofs.Rows.{rows_in}
use Rattle.soundness.proofs.sums.History.block_within.Goals as goal

pub returns-clause-within : goal.returns-clause-within
returns-clause-within c =
    let rows = c.add_rows-narrow in
    let a = c.args in
    let fits = c.requires.0 in
    block_exact a.self.numbers.now a.self.window.0 a.self.count (rows_in a.self) a.from a.size fits.ends a.most.0 c.requires.1 fits.small
    rows.new.sums _ _ rows.ensures.slots rows.ensures.fine c.slots_within.ensures

pub returns-clause-rows : goal.returns-clause-rows
returns-clause-rows c = λ e. c.add_rows-narrow.ensures.totals (both _ _ e).0
