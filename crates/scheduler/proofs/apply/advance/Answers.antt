use Rattle.sheet.specs.Settings.{need}
use Rattle.accounts.proofs.SolvencyLaws.{reweighed_twice}
use Rattle.scheduler.proofs.apply.advance.Goals as goal

pub move_slot-moved-requires : goal.move_slot-moved-requires
move_slot-moved-requires c =
    let d = c.pay-paid in
    c.requires.movable d.new.used d.result.clock _ d.ensures.0

pub returns-clause-weighed : goal.returns-clause-weighed
returns-clause-weighed c =
    let a = c.args in
    let d = c.pay-paid in
    let f = c.move_slot-moved in
    reweighed_twice a.state.now.used.now d.new.used f.new.used a.cache.now.budgets (need a.settings) a.cache.now.sets.solvent d.result.solvent f.result.solvent d.ensures.1 f.ensures.1
