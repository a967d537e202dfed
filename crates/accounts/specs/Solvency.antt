-- Who has budget, as a set of partitions, over the totals and the budgets as numbers.
use Rattle.std.specs.Prelude.{◌≡◌, ℕ, ◌≤◌, ◌<◌, Bool, List, get_or}
use Rattle.sets.specs.Bits.{in_set}
use Rattle.units.specs.Units.{remaining_of, has_budget_of}

-- "Has budget: remaining is at least" the cycles that must remain, of partition p
abbrev pub has_at : List ℕ → List ℕ → ℕ → ℕ → Bool
has_at totals budgets need p = has_budget_of (remaining_of (get_or budgets p 0) (get_or totals p 0)) need

-- the set is that of the partitions below n that have budget
abbrev pub WeighedIn : List ℕ → List ℕ → ℕ → ℕ → ℕ → Type 0
WeighedIn totals budgets need n set = (p : ℕ) → p < n → in_set set p ≡ has_at totals budgets need p

-- a set that is right for the old totals, and has become right for the new ones
abbrev pub Reweighed : List ℕ → List ℕ → List ℕ → ℕ → ℕ → ℕ → Type 0
Reweighed old new budgets need set set' = (n : ℕ) → n ≤ 16 → WeighedIn old budgets need n set → WeighedIn new budgets need n set'
