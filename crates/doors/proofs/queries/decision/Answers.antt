use mathlib.Core.Path.{ap, ◌∙◌}
use Rattle.std.proofs.lemmas.Result.{err_from_is_err_and}
use Rattle.std.specs.Prelude.{Err}
use Rattle.model.specs.Answers.{line_of, decided_of}
use Rattle.model.specs.Lent.{Lent}
use Rattle.doors.specs.Doors.{lent_seen}
use Rattle.decision.specs.Leads.{tops_of, firsts_of}
use Rattle.doors.proofs.Entering.{decides}
use Rattle.refusals.specs.Refusals.{outcome_of}
use Rattle.doors.specs.Inner.{OpenedFrom}
use Rattle.doors.proofs.Lending.{opened_seen, refused, taken}
use Rattle.doors.proofs.Looking.{decision_no, decision_yes}
use Rattle.doors.proofs.Seeing.{fits}
use Rattle.doors.proofs.queries.decision.Goals as goal
use Rattle.doors.proofs.queries.decision.Goals.{After-test}

-- what was lent
abbrev given : After-test → Lent
given c = lent_seen c.args.settings.now c.args.shares.now c.args.clock.now c.args.state

opened : (c : After-test) → OpenedFrom (given c) c.read-opened.result (outcome_of c.test.result)
opened c = let a = c.args in opened_seen a.settings.now a.shares.now a.clock.now a.state c.read-opened.result (outcome_of c.test.result) c.read-opened.ensures c.test.ensures

pub returns-in_err-test : goal.returns-in_err-test
returns-in_err-test c =
    let t = (goal.at.returns-in_err-test c).After-test in
    let (r, e, q) = err_from_is_err_and c.from_residual.result c.from_residual.ensures.1 in
    ap line_of (e ∙ ap Err q) ∙ decision_no (given t) c.in_err-test.field-0.0 (refused (given t) t.test.result c.in_err-test.field-0.0 (opened t) c.in_err-test.was)

pub returns : goal.returns
returns c =
    let t = (goal.at.returns c).After-test in
    let x = given t in
    let i = t.read-opened.result in
    let f = opened t in
    let z = fits x t.test.result i f c.in_ok-test.was in
    let v = c.keep.new.beside.cache in
    decision_yes x (taken x t.test.result f c.in_ok-test.was) i f.opened (decided_of c.choose.result)
    (decides i.settings x.used i.clock x.threads x.queue x.history z.0 z.1 v.budgets (tops_of v.leads) (firsts_of v.leads) v.sets c.keep.new.beside.favoured
    c.keep.ensures.held c.keep.ensures.favours c.choose.result c.choose.ensures)
