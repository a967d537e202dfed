-- What document 01 says of the numbers that Units defines.
use Rattle.std.specs.Prelude.{◌≡◌, ℕ, suc, ◌+◌, ◌-◌, ◌*◌, ◌%◌, ◌^◌, ◌<◌, ◌≤◌, pos, negsuc, nat_le}
use Rattle.units.specs.Units.{budget_of, elapsed_of, remaining_of, need_of, has_budget_of}

-- elapsed against the true counter: of two readings of one that does not wrap, less than a round of 32 bits apart, it is the true distance
abbrev pub ElapsedIsTrue : Type 0
ElapsedIsTrue = (a b : ℕ) → a ≤ b → b - a < 2 ^ 32 → elapsed_of (b % 2 ^ 32) (a % 2 ^ 32) ≡ b - a

-- "always whole": nothing is lost by the division
abbrev pub BudgetsAreWhole : Type 0
BudgetsAreWhole = (share window tick : ℕ) → tick % 100 ≡ 0 → 100 * budget_of share window tick ≡ share * window * tick

-- "The largest is 399,960,000": none is larger, and that one there is
abbrev pub BudgetsFit : Type 0
BudgetsFit =
    ((share window tick : ℕ) → tick % 100 ≡ 0 → share ≤ 100 → window ≤ 400 → tick ≤ 999900 → budget_of share window tick ≤ 399960000)
    × (budget_of 100 400 999900 ≡ 399960000)

-- remaining is "exact at zero and at both ends": up to the budget, and "below zero after an overrun", which negsuc n, −1 − n, says
pub record RemainingExact : Type 0 where
  pub above : (budget used : ℕ) → used ≤ budget → remaining_of budget used ≡ pos (budget - used)
  pub below : (budget used : ℕ) → budget < used → remaining_of budget used ≡ negsuc (used - suc budget)
  -- where all is used, and one cycle more
  pub at_zero : (budget : ℕ) → remaining_of budget budget ≡ pos 0
  pub below_zero : (budget : ℕ) → remaining_of budget (suc budget) ≡ negsuc 0
  -- the largest budget with nothing used, and the largest total of a partition that has none
  pub most : remaining_of 399960000 0 ≡ pos 399960000
  pub least : remaining_of 0 799920000 ≡ negsuc 799919999

abbrev pub RemainingIsExact : Type 0
RemainingIsExact = RemainingExact

-- "Has budget: remaining is at least" the cycles that must remain, without signed numbers
abbrev pub HasBudget : Type 0
HasBudget = (budget used need : ℕ) → has_budget_of (remaining_of budget used) need ≡ nat_le (used + need) budget

-- "Newer ones need a quarter", older ones "half a tick": of a tick that is a multiple of 100, nothing is lost by either division
abbrev pub NeedsAreWhole : Type 0
NeedsAreWhole = (tick : ℕ) → tick % 100 ≡ 0 → (4 * need_of 1 tick ≡ tick) × (2 * need_of 2 tick ≡ tick)
