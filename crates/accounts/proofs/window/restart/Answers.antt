use mathlib.Core.Path.{subst}
use Prim.Native.Nat.{ℕ}
use lib.ListN.{replicate}
use Rattle.sheet.specs.Settings.{need}
use Rattle.accounts.specs.Solvency.{WeighedIn}
use Rattle.accounts.proofs.WindowLaws.{restarted}
use Rattle.accounts.proofs.window.restart.Goals as goal

pub returns : goal.returns
unfolding need
returns c =
    let a = c.args in (
      restarted a.settings a.used.now a.c a.history.now _ a.stamp c.clear_rows.ensures,
      subst (λ (x : ℕ). WeighedIn (replicate 16 0) a.budgets.now x a.settings.count c.weigh_all-solvent.result) c.need-need.ensures c.weigh_all-solvent.ensures,
    )
