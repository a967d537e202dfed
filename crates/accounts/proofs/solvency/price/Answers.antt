use Prim.Native.Nat.{◌<◌}
use native.Mathlib.Omega.{arith}
use lib.ListN.{length}
use Rattle.sheet.specs.Settings.{budget}
use Rattle.sheet.proofs.Within.{share_most}
use Rattle.accounts.proofs.SolvencyLaws.{amounts_more, paying_more, paying_none}
use Rattle.accounts.proofs.solvency.price.Goals as goal

pub loop-p-init : goal.loop-p-init
loop-p-init c =
    ((λ q b. let w : ⊥ = omega arith in absurd w), λ q b. paying_none c.args.settings q)

pub budget-budget-requires : goal.budget-budget-requires
budget-budget-requires c =
    (share_most c.args.settings c.requires c.loop-p.p c.loop-p-test.true, c.requires.window_high, c.requires.tick_high, c.requires.whole)

pub loop-p-preserved : goal.loop-p-preserved
unfolding budget
loop-p-preserved c =
    let turn = c.loop-p in
    let s = c.args.settings in
    let b = c.budget-budget in
    let within : turn.p < length turn.budgets = omega (arith, c.requires.count_high) in (
      amounts_more s turn.p turn.budgets b.result.0 within b.ensures turn.invariant.0,
      paying_more s turn.p turn.paying c.mark-paying.result b.result.0 b.ensures c.mark-paying.ensures turn.invariant.1,
    )
