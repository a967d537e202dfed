use Rattle.accounts.specs.Solvency.{WeighedIn}
use Rattle.accounts.proofs.solvency.weigh_all.Given as goal

abbrev pub invariant-loop-p : goal.invariant-loop-p
invariant-loop-p l = WeighedIn l.used l.budgets l.need.0 l.p l.set
