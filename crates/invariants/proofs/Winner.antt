-- While a partition that competes has budget, the winner has budget.
use mathlib.Core.Logic.{◌≢◌}
use mathlib.Core.Path.{◌≡◌, refl}
use Prim.Native.Nat.{ℕ, ◌<◌}
use mathlib.Core.Bool.{Bool, true, false, cond, ◌&&◌}
use mathlib.Core.Option.{Option, some}
use lib.Dec.{eqb}
use Rattle.lists.specs.Lists.{any}
use Rattle.lists.proofs.Tests.{and}
use Rattle.lists.proofs.All.{below_any}
use Rattle.units.specs.Units.{compare_flags}
use Rattle.units.specs.declared.Comparison.TheVariants.{Better}
use Rattle.model.specs.Policy
use Rattle.model.specs.Policy.{competing, has_budget, mode, compare, winner, by_budget, by_fraction, by_priority, ◌then◌, ratio_policy}
use Rattle.model.specs.State.{State}
use Rattle.model.proofs.Winner.{winner_won}

module _ (s : State) where
  -- the mode is not the last
  has_mode : (p : ℕ) → p < s.settings.count → competing s p ≡ true → has_budget s p ≡ true → eqb (mode s) Policy.at_limit ≡ false
  unfolding mode
  has_mode p b c h =
      rw (below_any (competing s) s.settings.count p b c, below_any (λ q. competing s q && has_budget s q) s.settings.count p b (and c h))
      (go (any _ _))
    where
      go : (z : Bool) → eqb (cond z 1 2) 3 ≡ false
      go true = refl
      go false = refl

  pub winner_has : (f : Option ℕ) (p w : ℕ) → p < s.settings.count → competing s p ≡ true → has_budget s p ≡ true → winner s f ≡ some w
      → has_budget s w ≡ true
  unfolding compare by_budget compare_flags ◌then◌
  winner_has f p w b c h e =
      go (has_budget s w) refl (eqb (mode s) Policy.free_time && ratio_policy s) (rw (has_mode p b c h) at ((winner_won s f w e).unbeaten p b c))
    where
      go : (z : Bool) → has_budget s w ≡ z → (y : Bool)
          → cond y (by_budget s p w then by_fraction s p w) (by_budget s p w then by_priority s p w then by_fraction s p w) ≢ Better → has_budget s w ≡ true
      go true q y n = q
      go false q true n = absurd (n (rw (h, q)))
      go false q false n = absurd (n (rw (h, q)))
