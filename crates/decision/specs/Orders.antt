-- The mode and the order of partitions, over sets and numbers that are kept.
use Rattle.std.specs.Prelude.{ℕ, Bool, true, false, not, cond, ◌&&◌, List, eqb}
use Rattle.lists.specs.Lists.{below, any}
use Rattle.sets.specs.Bits.{in_set}
use Rattle.units.specs.declared.Comparison.{Comparison}
use Rattle.units.specs.declared.Comparison.TheVariants.{Equal}
use Rattle.model.specs.Policy.{◌then◌}
use Rattle.model.specs.declared.Mode.{Mode}
use Rattle.model.specs.declared.Mode.TheVariants.{Idle, FreeTime, Underload, AtLimit}
use Rattle.decision.specs.Narrowing.{on_set, on_priority, on_fraction}
use Rattle.decision.specs.declared.Order.{Order}

-- "Mode, first that fits"
unfoldable pub mode_by : ℕ → ℕ → ℕ → Mode
mode_by paying set solvent =
    cond (not (any (in_set set) (below 16))) Idle
    (cond (any (λ p. in_set paying p && not (in_set set p)) (below 16)) FreeTime
    (cond (any (λ p. in_set set p && in_set solvent p) (below 16)) Underload
    AtLimit))

-- the mode table's column "order of partitions"
abbrev pub order_by : Mode → ℕ → Order
order_by Idle policy = record { budget = true; priority = true }
order_by FreeTime policy = record { budget = true; priority = not (eqb policy 1) }
order_by Underload policy = record { budget = true; priority = true }
order_by AtLimit policy = record { budget = false; priority = false }

-- what the order does not ask for leaves two partitions equal
unfoldable pub asked : Bool → Comparison → Comparison
asked on c = cond on c Equal

-- what one partition is against another: on has budget, then on top priority, each where the order has it, then on the fraction
abbrev pub compared_by : Order → Comparison → Comparison → Comparison → Comparison
compared_by o budget priority fraction = (asked o.budget budget then asked o.priority priority) then fraction

abbrev pub level_in : Order → ℕ → List ℕ → ℕ → ℕ → Comparison
level_in o solvent tops p q = asked o.budget (on_set solvent p q) then asked o.priority (on_priority tops p q)

abbrev pub compared_in : Order → ℕ → List ℕ → List ℕ → List ℕ → ℕ → ℕ → Comparison
compared_in o solvent tops used budgets p q = compared_by o (on_set solvent p q) (on_priority tops p q) (on_fraction used budgets p q)
