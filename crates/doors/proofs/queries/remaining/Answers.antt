use mathlib.Core.Path.{◌≡◌, sym, ap, ◌∙◌}
use Prim.Native.Nat.{◌<◌, ◌^◌}
use mir.Syntax.{w64}
use mir.Val.{SFits}
use mir.Facts.{to_z-of_z}
use native.Mathlib.Omega.{arith}
use lib.ListN.{get_or}
use Rattle.std.proofs.lemmas.Result.{err_from_is_err_and}
use Rattle.std.specs.Prelude.{Result, Ok, Err, ⊤}
use Rattle.refusals.specs.Refusals.{outcome_of}
use Rattle.refusals.specs.declared.Refusal.{Refusal}
use Rattle.sheet.specs.Settings.{Limits}
use Rattle.sheet.specs.declared.Settings.{Settings}
use Rattle.sheet.proofs.Within.{share_most}
use Rattle.units.proofs.Laws.{remaining_fits}
use Rattle.model.specs.Answers.{remainder_of}
use Rattle.model.specs.Lent.{Lent, lent_settings, refused_in}
use Rattle.doors.specs.Doors.{lent_seen}
use Rattle.doors.specs.declared.opening.Opened.{Opened}
use Rattle.doors.specs.Inner.{OpenedFrom}
use Rattle.doors.proofs.Lending.{opened_seen, refused, taken}
use Rattle.doors.proofs.Looking.{limits, used_low, remaining_no, remaining_place, remaining_yes}
use Rattle.doors.proofs.queries.remaining.Goals as goal
use Rattle.doors.proofs.queries.remaining.Goals.{After-test}

-- what was lent
abbrev given : After-test → Lent
given c = lent_seen c.args.settings.now c.args.shares.now c.args.clock.now c.args.state

opened : (c : After-test) → OpenedFrom (given c) c.read-opened.result (outcome_of c.test.result)
opened c = let a = c.args in opened_seen a.settings.now a.shares.now a.clock.now a.state c.read-opened.result (outcome_of c.test.result) c.read-opened.ensures c.test.ensures

-- it was tested, and is not refused
module _ (c : After-test) {t : ⊤} (e : c.test.result ≡ Ok t) where
  abbrev i : Opened
  i = c.read-opened.result

  read : i.settings ≡ lent_settings (given c)
  read = ap (λ (o : Opened). o.settings) (opened c).opened

  fine : refused_in (given c) ≡ 0
  fine = taken (given c) c.test.result (opened c) e

  -- the settings of a state that is not refused are within their limits
  within : Limits i.settings
  within = limits (given c) i.settings read fine

pub returns-in_err-test : goal.returns-in_err-test
returns-in_err-test c =
    let t = (goal.at.returns-in_err-test c).After-test in
    let (r, e, q) = err_from_is_err_and c.from_residual.result c.from_residual.ensures.1 in
    ap remainder_of (e ∙ ap Err q)
    ∙ remaining_no (given t) c.args.partition c.in_err-test.field-0.0 (refused (given t) t.test.result c.in_err-test.field-0.0 (opened t) c.in_err-test.was)

pub returns-then-settings-partition : goal.returns-then-settings-partition
returns-then-settings-partition c =
    let t = (goal.at.returns-then-settings-partition c).After-test in
    let i = t.read-opened.result in
    remaining_place (given t) i.settings (read t c.in_ok-test.was) (fine t c.in_ok-test.was) c.args.partition c.if-settings-partition.true

pub bounds-settings-p : goal.bounds-settings-p
bounds-settings-p c =
    let l = within (goal.at.bounds-settings-p c).After-test c.in_ok-test.was in
    omega (arith, l.count_high)

pub budget-budget-requires : goal.budget-budget-requires
budget-budget-requires c =
    let l = within (goal.at.budget-budget-requires c).After-test c.in_ok-test.was in
    (share_most c.read-opened.result.settings l c.args.partition c.if-settings-partition.false, l.window_high, l.tick_high, l.whole)

pub bounds-state-p : goal.bounds-state-p
bounds-state-p c =
    let l = within (goal.at.bounds-state-p c).After-test c.in_ok-test.was in
    omega (arith, l.count_high)

pub returns : goal.returns
returns c =
    let t = (goal.at.returns c).After-test in
    let i = t.read-opened.result in
    let e = read t c.in_ok-test.was in
    let z = fine t c.in_ok-test.was in
    let whole = c.budget-budget in
    let p = c.args.partition in
    let total = get_or c.args.state.used.now p 0 in
    let hb : whole.result.0 < 2 ^ 32 = omega arith in
    let hu : total < 2 ^ 32 = used_low (given t) i.settings e z p c.if-settings-partition.false in
    let fits : SFits w64 c.remaining.result = rw c.remaining.ensures (remaining_fits whole.result.0 total hb hu) in
    remaining_yes (given t) i.settings e z p c.if-settings-partition.false _ whole.result.0 whole.ensures (to_z-of_z fits ∙ c.remaining.ensures)
