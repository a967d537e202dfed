use mathlib.Core.Path.{◌≡◌}
use mathlib.Core.Bool.{◌&&◌, not}
use Prim.Native.Nat.{ℕ, ◌<◌}
use lib.ListN.{get_or}
use lib.Dec.{eqb, ltb}
use Rattle.sets.specs.Bits.{in_set}
use Rattle.sheet.specs.Settings.{budget}
use Rattle.accounts.proofs.solvency.price.Given as goal

abbrev pub invariant-loop-p : goal.invariant-loop-p
invariant-loop-p l =
    ((q : ℕ) → q < l.p → get_or l.budgets q 0 ≡ budget l.settings q)
    × ((q : ℕ) → q < 16 → in_set l.paying q ≡ (ltb q l.p && not (eqb (budget l.settings q) 0)))
