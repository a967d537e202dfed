use mathlib.Core.Path.{ap}
use Rattle.event.specs.Kinds.{kind_number}
use Rattle.scheduler.proofs.EffectsLaws.{resumed}
use Rattle.scheduler.proofs.apply.apply.Goals as goal

pub returns-in-Resume-clause-applied : goal.returns-in-Resume-clause-applied
returns-in-Resume-clause-applied c =
    let d = c.restart-restarted in
    resumed c.requires (ap kind_number c.in-Resume.is) d.new.used d.result.clock d.new.history d.ensures.0 d.ensures.1
