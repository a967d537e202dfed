use mathlib.Core.Path.{◌≡◌}
use Rattle.model.specs.Step.{clear_history}
use Rattle.accounts.specs.Lowered.{lowered}
use Rattle.accounts.specs.Solvency.{Reweighed}
use Rattle.accounts.proofs.solvency.clear_slot.Given as goal

abbrev pub invariant-loop-p : goal.invariant-loop-p
invariant-loop-p l =
    (l.used ≡ lowered l.w l.slot.0 l.p l.initial.used l.initial.history) × (l.history ≡ clear_history l.w l.slot.0 l.p l.initial.history)
    × Reweighed l.initial.used l.used l.budgets l.need.0 l.solvent l.set
