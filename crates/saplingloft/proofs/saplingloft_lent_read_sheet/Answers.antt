use Rattle.saplingloft.proofs.Lending.{read_yes}
use Rattle.saplingloft.proofs.saplingloft_lent_read_sheet.Goals as goal

pub returns-in-Ok : goal.returns-in-Ok
returns-in-Ok c =
    let r = c.read_sheet-reading in
    let a = c.args in
    read_yes a.sheet.now a.settings.now a.shares.now r.result.outcome r.ensures.0 r.result.settings c.in-Ok.is r.ensures.1 _ _ c.keep_settings.ensures
