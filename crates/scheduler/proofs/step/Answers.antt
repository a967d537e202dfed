use Rattle.admission.proofs.Forms.{formed}
use Rattle.scheduler.proofs.SchedulerLaws.{no_event, taken_event, taken_still}
use Rattle.scheduler.proofs.step.Goals as goal

pub admit-admitted-requires : goal.admit-admitted-requires
admit-admitted-requires c = formed _ _ c.decode-decoded.ensures

pub accept-requires : goal.accept-requires
accept-requires c =
    let g = c.requires in
    let (taken, stamped) = taken_event g c.decode-decoded.ensures c.admit-admitted.result c.admit-admitted.ensures.refused c.admit-admitted.ensures.accepted c.in-Ok.accepted c.in-Ok.is in
    (g, taken, stamped)

pub returns-in-Err-clause-answered : goal.returns-in-Err-clause-answered
returns-in-Err-clause-answered c = no_event c.requires c.decode-decoded.ensures c.admit-admitted.result c.admit-admitted.ensures.refused c.in-Err.is

pub returns-in-Ok-clause-still : goal.returns-in-Ok-clause-still
returns-in-Ok-clause-still c =
    λ no. absurd (taken_still c.requires c.decode-decoded.ensures c.admit-admitted.result c.admit-admitted.ensures.refused c.admit-admitted.ensures.accepted c.in-Ok.accepted c.in-Ok.is no)
