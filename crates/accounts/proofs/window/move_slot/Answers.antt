use mathlib.Core.Path.{subst}
use Prim.Native.Nat.{ℕ}
use Rattle.sheet.specs.Settings.{need}
use Rattle.accounts.specs.Solvency.{Reweighed}
use Rattle.accounts.proofs.WindowLaws.{moved}
use Rattle.accounts.proofs.window.move_slot.Goals as goal

pub returns : goal.returns
unfolding need
returns c =
    let a = c.args in
    let d = c.clear_slot-solvent in
    let n = c.next_slot-slot in (
      moved a.settings a.used.now a.c a.history.now n.result _ _ n.ensures d.ensures.0 d.ensures.1,
      subst (λ (x : ℕ). Reweighed a.used.now d.new.used a.budgets.now x a.solvent d.result)
          c.need-need.ensures d.ensures.2,
    )
