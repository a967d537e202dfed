use Rattle.std.proofs.Common.{◌≡◌, true, sym, ◌∙◌}
use Rattle.std.proofs.lemmas.Result.{err_from_is_err_and}
use Rattle.sheet.specs.Records.{framed}
use Rattle.sheet.proofs.RecordsLaws.{digits_refused}
use Rattle.sheet.proofs.records.read_record.Goals as goal

pub returns-in_err-read_digits : goal.returns-in_err-read_digits
returns-in_err-read_digits c =
    let (y, e, q) = err_from_is_err_and c.from_residual.result c.from_residual.ensures.1 in
    let whole : framed c.args.record.now c.args.letter ≡ true = sym c.is_framed.ensures ∙ c.if-not-is_framed.false in
    rw (e, q) (digits_refused c.args.record.now c.args.letter c.args.number c.in_err-read_digits.field-0.0 whole c.in_err-read_digits.ensures)
