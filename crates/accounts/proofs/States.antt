-- The set and the totals are those of the state that the arrays stand for.
use mathlib.Core.Path.{sym, ap₂, ◌∙◌}
use Prim.Native.Nat.{ℕ}
use mathlib.Core.List.{List}
use Rattle.sheet.specs.Settings.{need}
use Rattle.sheet.specs.declared.Settings.{Settings}
use Rattle.units.specs.Units.{remaining_of, has_budget_of}
use Rattle.model.specs.Policy.{remaining, has_budget}
use Rattle.model.specs.Arrays.{Columns, state_of}
use Rattle.model.specs.declared.Clock.{Clock}
use Rattle.accounts.proofs.ChargingLaws.{used_at_law}
use Rattle.accounts.specs.Kept.{Weighed, Priced, TotalsAre}
use Rattle.accounts.specs.Solvency.{WeighedIn}

module _ (c : Settings) (u : List ℕ) (k : Clock) (ts : Columns) (q : List ℕ) where
  pub totals : TotalsAre (state_of c u k ts q) u
  totals p b = sym (used_at_law u p)

  pub weighed : (budgets : List ℕ) (paying set : ℕ) → Priced c budgets paying → WeighedIn u budgets (need c) c.count set → Weighed (state_of c u k ts q) set
  unfolding has_budget remaining
  weighed budgets paying set price h p b =
      h p b ∙ ap₂ (λ (x y : ℕ). has_budget_of (remaining_of x y) (need c)) (price.amount p b) (totals p b)
