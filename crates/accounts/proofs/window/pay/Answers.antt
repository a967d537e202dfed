use mathlib.Core.Path.{subst}
use Prim.Native.Nat.{ℕ}
use Rattle.sheet.specs.Settings.{need}
use Rattle.accounts.specs.Solvency.{Reweighed}
use Rattle.accounts.proofs.WindowLaws.{idle_weighed, paid_weighed}
use Rattle.accounts.proofs.window.pay.Goals as goal

pub returns-then-c-eq-IDLE : goal.returns-then-c-eq-IDLE
returns-then-c-eq-IDLE c =
    let a = c.args in
    let d = c.charge-clock in
    (d.ensures, idle_weighed a.settings a.used.now a.c a.partitions.now a.history.now d.new.used d.result _ a.stamp d.ensures a.budgets.now (need a.settings) a.solvent c.if-c-eq-IDLE.true)

pub returns : goal.returns
unfolding need
returns c =
    let a = c.args in
    let d = c.charge-clock in
    let n = c.need-need in
    let on = c.if-c-eq-IDLE.false in
    let paid = paid_weighed a.settings a.used.now a.c a.partitions.now a.history.now d.new.used d.result _ a.stamp d.ensures a.budgets.now n.result.0 a.solvent c.weigh_at-solvent.result on (c.requires.pays on).running c.weigh_at-solvent.ensures in
    (d.ensures, subst (λ (x : ℕ). Reweighed a.used.now d.new.used a.budgets.now x a.solvent c.weigh_at-solvent.result) n.ensures paid)
