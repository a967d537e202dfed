use mathlib.Core.Path.{ap, ◌∙◌}
use native.Mathlib.Omega.{arith}
use Rattle.std.proofs.lemmas.Result.{err_from_is_err_and}
use Rattle.refusals.specs.Refusals.{number_of, outcome_of}
use Rattle.model.specs.Arrays.{columns_in}
use Rattle.model.specs.Lent.{Lent}
use Rattle.doors.specs.Doors.{lent_in, lent_seen}
use Rattle.doors.specs.Inner.{OpenedFrom}
use Rattle.doors.proofs.Lending.{opened_seen, ran_as, ran_no, ran_yes}
use Rattle.doors.proofs.Seeing.{opened_in, whole_in}
use Rattle.doors.proofs.batch.run.Goals as goal
use Rattle.doors.proofs.batch.run.Goals.{After-test}

-- what was lent
abbrev given : After-test → Lent
given c = lent_in c.args.settings.now c.args.shares.now c.args.clock.now c.args.state.now

seen : (c : After-test) → OpenedFrom (lent_seen c.args.settings.now c.args.shares.now c.args.clock.now c.seen-seen.result) c.read-opened.result (outcome_of c.test.result)
seen c = let a = c.args in opened_seen a.settings.now a.shares.now a.clock.now c.seen-seen.result c.read-opened.result (outcome_of c.test.result) c.read-opened.ensures c.test.ensures

opened : (c : After-test) → OpenedFrom (given c) c.read-opened.result (outcome_of c.test.result)
opened c = let a = c.args in opened_in a.state.now c.seen-seen.result c.seen-seen.ensures a.settings.now a.shares.now a.clock.now c.test.result c.read-opened.result (seen c)

pub returns-in_err-test-clause-ran : goal.returns-in_err-test-clause-ran
returns-in_err-test-clause-ran c =
    let t = (goal.at.returns-in_err-test-clause-ran c).After-test in
    let (r, e, q) = err_from_is_err_and c.from_residual.result c.from_residual.ensures.1 in
    ran_as (ap outcome_of e ∙ ap number_of q) (ran_no (given t) t.test.result c.in_err-test.field-0.0 (opened t) c.in_err-test.was c.args.events.now c.args.out.now)

pub steps-after-requires : goal.steps-after-requires
steps-after-requires c =
    let a = c.args in (
      whole_in a.state.now c.seen-seen.result c.seen-seen.ensures a.settings.now a.shares.now a.clock.now c.test.result c.read-opened.result (seen (goal.at.steps-after-requires c).After-test)
          c.in_ok-test.was c.keep.new.beside c.keep.ensures,
      omega arith,
      omega arith,
    )

pub returns-clause-ran : goal.returns-clause-ran
returns-clause-ran c =
    let t = (goal.at.returns-clause-ran c).After-test in
    let a = c.args in
    let s = c.steps-after in
    let y = s.new.state in
    ran_yes (given t) t.test.result t.read-opened.result (opened t) c.in_ok-test.was y.used.now s.result (columns_in y) y.queue.now y.history.now
    a.events.now a.out.now s.new.out _ s.ensures.after s.ensures.lines s.ensures.sound (omega arith) c.into.result c.into.ensures
