use Rattle.scheduler.proofs.SchedulerLaws.{ready, decided_inside, decided}
use Rattle.scheduler.proofs.accept.Goals as goal

pub apply-after-requires : goal.apply-after-requires
apply-after-requires c = let g = c.requires in ready g.0 c.args.event g.1 g.2

pub favoured_after-requires : goal.favoured_after-requires
favoured_after-requires c =
    let g = c.requires in
    decided_inside g.0 c.args.event g.1 g.2 _ c.apply-after.ensures.applied c.choose-decision.ensures

pub returns-clause-answered : goal.returns-clause-answered
returns-clause-answered c =
    let g = c.requires in
    let next = c.favoured_after in
    decided g.0 c.args.event g.1 g.2 _ c.apply-after.ensures.applied c.choose-decision.ensures next.result next.ensures
