use Rattle.std.proofs.Common.{sym, ap, ◌∙◌}
use Rattle.refusals.specs.Refusals.{outcome_of}
use Rattle.sheet.proofs.Sheets.{settings_read_law}
use Rattle.sheet.proofs.Answers.{zeros_read}
use Rattle.sheet.proofs.read_sheet.Goals as goal

pub returns-in-Ok : goal.returns-in-Ok
returns-in-Ok c =
    let number = c.in-Ok.ensures.number in
    (number, c.in-Ok.ensures.settings ∙ sym (settings_read_law c.args.bytes.now (sym number)))

pub returns-in-Err : goal.returns-in-Err
returns-in-Err c =
    let (outcome, zeros) = c.zeros_beside.ensures in
    let number = c.in-Err.ensures.number in
    (ap outcome_of outcome ∙ number, zeros ∙ sym (zeros_read c.args.bytes.now c.in-Err.refusal number))
