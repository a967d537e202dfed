use mathlib.Core.Path.{subst}
use native.Mathlib.Omega.{arith}
use Rattle.decision.specs.Narrowing.{Narrowed}
use Rattle.decision.specs.Leads.{tops_of, firsts_of}
use Rattle.decision.specs.Orders.{order_by, level_in}
use Rattle.decision.specs.declared.Order.{Order}
use Rattle.decision.proofs.LeadsArray.{first_at}
use Rattle.decision.proofs.DecisionLaws.{decided, decided_idle}
use Rattle.decision.proofs.decide.Goals as goal

pub returns-then-sets-eq0 : goal.returns-then-sets-eq0
returns-then-sets-eq0 c =
    let a = c.args in
    let tops = tops_of a.leads.now in
    let firsts = firsts_of a.leads.now in
    let m = c.mode_in-mode in
    λ s f k favoured. decided_idle s a.used.now a.budgets.now tops firsts a.policy a.sets.paying a.sets.competing a.sets.solvent k
    f m.result m.ensures c.if-sets-eq0.true (omega arith)

pub returns : goal.returns
returns c =
    let a = c.args in
    let tops = tops_of a.leads.now in
    let firsts = firsts_of a.leads.now in
    let m = c.mode_in-mode in
    let o = c.order_in-order in
    let level = c.level_of-level in
    let w = c.winner_of-partition in
    let narrowed : Narrowed (level_in (order_by m.result a.policy) a.sets.solvent tops) a.sets.competing level.result =
    subst (λ (x : Order). Narrowed (level_in x a.sets.solvent tops) a.sets.competing level.result) o.ensures level.ensures in
    λ s f k favoured. rw (← first_at a.leads.now w.result) (decided s a.used.now a.budgets.now tops firsts a.policy a.sets.paying a.sets.competing a.sets.solvent k
    m.result m.ensures f a.favoured level.result w.result favoured narrowed w.ensures)
