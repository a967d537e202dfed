use Rattle.std.proofs.lemmas.Result.{err_from_is_err_and}
use Rattle.admission.proofs.Forms.{refuses_form}
use Rattle.admission.proofs.admit.Goals as goal

pub returns-in_err-event-clause-refused : goal.returns-in_err-event-clause-refused
returns-in_err-event-clause-refused c =
    let a = c.args in
    let (y, e, q) = err_from_is_err_and c.from_residual.result c.from_residual.ensures.1 in
    rw (e, q) (refuses_form a.settings a.c a.exists.now a.ready.now a.decoded c.in_err-event.field-0.0 c.in_err-event.was)
