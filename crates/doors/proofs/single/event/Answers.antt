use mathlib.Core.Path.{sym, ap, subst, ◌∙◌}
use Prim.Native.Nat.{ℕ}
use mathlib.Core.List.{List}
use Rattle.std.proofs.lemmas.Result.{err_from_is_err_and}
use Rattle.std.specs.Prelude.{Result, Ok, Err}
use Rattle.refusals.specs.declared.Refusal.{Refusal}
use Rattle.model.specs.Answers.{line_of}
use Rattle.model.specs.Arrays.{columns_in}
use Rattle.model.specs.Lent.{Lent}
use Rattle.model.specs.declared.Decision.{Decision}
use Rattle.decision.specs.Leads.{tops_of, firsts_of}
use Rattle.doors.specs.Doors.{lent_in, lent_seen, Answered}
use Rattle.doors.specs.Inner.{OpenedFrom}
use Rattle.refusals.specs.Refusals.{outcome_of}
use Rattle.doors.proofs.Lending.{opened_seen, answered_as, answered_no, answered_yes, answered_refused}
use Rattle.doors.proofs.Seeing.{fits, opened_in, whole_in}
use Rattle.doors.proofs.single.event.Goals as goal
use Rattle.doors.proofs.single.event.Goals.{After-test}

-- what was lent
abbrev given : After-test → Lent
given c = lent_in c.args.settings.now c.args.shares.now c.args.clock.now c.args.state.now

seen : (c : After-test) → OpenedFrom (lent_seen c.args.settings.now c.args.shares.now c.args.clock.now c.seen-seen.result) c.read-opened.result (outcome_of c.test.result)
seen c = let a = c.args in opened_seen a.settings.now a.shares.now a.clock.now c.seen-seen.result c.read-opened.result (outcome_of c.test.result) c.read-opened.ensures c.test.ensures

opened : (c : After-test) → OpenedFrom (given c) c.read-opened.result (outcome_of c.test.result)
opened c = let a = c.args in opened_in a.state.now c.seen-seen.result c.seen-seen.ensures a.settings.now a.shares.now a.clock.now c.test.result c.read-opened.result (seen c)

pub returns-in_err-test-clause-answered : goal.returns-in_err-test-clause-answered
returns-in_err-test-clause-answered c =
    let t = (goal.at.returns-in_err-test-clause-answered c).After-test in
    let (r, e, q) = err_from_is_err_and c.from_residual.result c.from_residual.ensures.1 in
    answered_as (ap line_of (e ∙ ap Err q)) (answered_no (given t) t.test.result c.in_err-test.field-0.0 (opened t) c.in_err-test.was c.args.event.now)

pub step-stepped-requires : goal.step-stepped-requires
step-stepped-requires c =
    let a = c.args in
    whole_in a.state.now c.seen-seen.result c.seen-seen.ensures a.settings.now a.shares.now a.clock.now c.test.result c.read-opened.result (seen (goal.at.step-stepped-requires c).After-test)
    c.in_ok-test.was c.keep.new.beside c.keep.ensures

pub returns-in_err-decision-clause-answered : goal.returns-in_err-decision-clause-answered
returns-in_err-decision-clause-answered c =
    let t = (goal.at.returns-in_err-decision-clause-answered c).After-test in
    let (r, e, q) = err_from_is_err_and c.from_residual-in_err-decision.result c.from_residual-in_err-decision.ensures.1 in
    let s = c.step-stepped in
    let y = s.new.state in
    let v = s.new.cache in
    answered_as (ap line_of (e ∙ ap Err q))
    (answered_refused (given t) t.test.result t.read-opened.result (opened t) c.in_ok-test.was y.used.now s.result.clock (columns_in y) y.queue.now y.history.now
    c.args.event.now s.result.verdict v.budgets (tops_of v.leads) (firsts_of v.leads) v.sets s.result.favoured s.ensures.answered s.ensures.still c.in_err-decision.field-0.0 c.in_err-decision.was)

pub returns-clause-answered : goal.returns-clause-answered
returns-clause-answered c =
    let t = (goal.at.returns-clause-answered c).After-test in
    let s = c.step-stepped in
    let y = s.new.state in
    let v = s.new.cache in
    answered_yes (given t) t.test.result t.read-opened.result (opened t) c.in_ok-test.was y.used.now s.result.clock (columns_in y) y.queue.now y.history.now
    c.args.event.now s.result.verdict v.budgets (tops_of v.leads) (firsts_of v.leads) v.sets s.result.favoured s.ensures.answered s.ensures.still c.in_ok-decision.decision c.in_ok-decision.was c.into.result c.into.ensures
