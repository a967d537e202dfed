use mathlib.Core.Path.{sym, ap, ◌∙◌}
use Rattle.std.proofs.lemmas.Result.{err_from_is_err_and}
use Rattle.refusals.specs.Refusals.{number_of, outcome_of}
use Rattle.model.specs.Lent.{Lent}
use Rattle.doors.specs.Doors.{lent_in}
use Rattle.doors.proofs.Starting.{begun_as, begun_sheet, begun_short, begun_yes}
use Rattle.doors.proofs.start.start.Goals as goal
use Rattle.doors.proofs.start.start.Goals.{After-read_sheet-reading}

-- what was lent
abbrev given : After-read_sheet-reading → Lent
given c = lent_in c.args.settings.now c.args.shares.now c.args.clock.now c.args.state.now

pub returns-in_err-reading-clause-begun : goal.returns-in_err-reading-clause-begun
returns-in_err-reading-clause-begun c =
    let t = (goal.at.returns-in_err-reading-clause-begun c).After-read_sheet-reading in
    let (r, e, q) = err_from_is_err_and c.from_residual.result c.from_residual.ensures.1 in
    begun_as (ap outcome_of e ∙ ap number_of q)
    (begun_sheet (given t) c.args.sheet.now c.in_err-reading.field-0.0 (sym (ap outcome_of c.in_err-reading.was) ∙ c.read_sheet-reading.ensures.0))

pub returns-then-state-rows-clause-begun : goal.returns-then-state-rows-clause-begun
returns-then-state-rows-clause-begun c =
    let t = (goal.at.returns-then-state-rows-clause-begun c).After-read_sheet-reading in
    let r = c.read_sheet-reading in
    begun_short (given t) c.args.sheet.now r.result.settings (sym r.ensures.0 ∙ ap outcome_of c.in_ok-reading.was) r.ensures.1 c.if-state-rows.true

pub returns-clause-begun : goal.returns-clause-begun
returns-clause-begun c =
    let t = (goal.at.returns-clause-begun c).After-read_sheet-reading in
    let r = c.read_sheet-reading in
    let d = c.begin.new in
    begun_yes (given t) c.args.sheet.now r.result.settings (sym r.ensures.0 ∙ ap outcome_of c.in_ok-reading.was) r.ensures.1 c.if-state-rows.false
    (lent_in d.settings d.shares d.clock d.state) c.begin.ensures.fresh
