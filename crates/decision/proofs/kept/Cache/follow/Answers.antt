use Rattle.decision.proofs.Events.{ready_asks, ready_kept, leave_asks, quiet_kept, set_inside, set_outside, set_asks}
use Rattle.decision.proofs.kept.Cache.follow.Goals as goal

pub join-requires : goal.join-requires
join-requires c = ready_asks c.requires c.in-Ready.is

pub leave-requires : goal.leave-requires
leave-requires c = leave_asks c.requires c.in-Block.is

pub follow_priority-requires : goal.follow_priority-requires
follow_priority-requires c =
    let told = c.in-SetPriority.is in
    (set_inside c.requires told, record { outside = set_outside c.requires told; inside = set_asks c.requires told })

pub returns-in-Ready-clause-kept : goal.returns-in-Ready-clause-kept
returns-in-Ready-clause-kept c = ready_kept c.requires c.in-Ready.is _ _ _ c.join.ensures.joined

pub returns-in-Create-clause-kept : goal.returns-in-Create-clause-kept
returns-in-Create-clause-kept c = quiet_kept c.requires c.in-Create.is
