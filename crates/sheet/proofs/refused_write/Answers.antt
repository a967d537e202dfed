use mathlib.Core.Path.{sym, ap, ◌∙◌}
use Rattle.std.proofs.lemmas.Result.{err_from_is_err_and}
use Prim.Native.Nat.{◌≤◌, ◌<◌}
use native.Mathlib.Omega.{arith}
use Rattle.refusals.specs.Refusals.{number_of, outcome_of}
use Rattle.sheet.specs.Sheet.{sheet_length}
use Rattle.sheet.proofs.Answers.{refused_number, write_refused, write_short, write_fits}
use Rattle.sheet.proofs.refused_write.Goals as goal

pub returns-in_err-limits : goal.returns-in_err-limits
returns-in_err-limits c =
    let (y, e, q) = err_from_is_err_and c.from_residual.result c.from_residual.ensures.1 in
    let number = ap outcome_of e ∙ ap number_of q ∙ c.in_err-limits.ensures in
    number ∙ sym (write_refused c.args.settings c.args.room (refused_number c.in_err-limits.field-0.0 c.in_err-limits.was c.limits.ensures))

pub returns-then-room-length : goal.returns-then-room-length
returns-then-room-length c =
    let short : c.args.room < sheet_length c.args.settings = omega arith in
    sym (write_short c.args.settings c.args.room (sym c.in_ok-limits.ensures) short)

pub returns : goal.returns
returns c =
    let fits : sheet_length c.args.settings ≤ c.args.room = omega arith in
    sym (write_fits c.args.settings c.args.room (sym c.in_ok-limits.ensures) fits)
