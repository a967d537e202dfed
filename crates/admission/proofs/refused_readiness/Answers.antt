use Rattle.std.proofs.lemmas.Result.{err_from_is_err_and}
use Rattle.admission.proofs.Laws.{refused_first}
use Rattle.admission.proofs.refused_readiness.Goals as goal

pub returns-in_err-refused_other : goal.returns-in_err-refused_other
returns-in_err-refused_other c =
    let a = c.args in
    let (y, e, q) = err_from_is_err_and c.from_residual.result c.from_residual.ensures.1 in
    rw (e, q) (refused_first a.exists.now a.t a.ready.now a.wanted c.in_err-refused_other.field-0.0 c.in_err-refused_other.ensures)
