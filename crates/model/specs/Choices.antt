-- What the order of partitions and the winner are, as facts; proofs/Order and proofs/Winner show that they are this.
use Rattle.std.specs.Prelude.{◌≢◌, ℕ, ◌<◌, ◌≡◌, Bool, true, false}
use Rattle.std.proofs.Math.Option.{Option, some}
use Rattle.units.specs.declared.Comparison.{Comparison}
use Rattle.units.specs.declared.Comparison.TheVariants.{Better, Worse, Equal}
use Rattle.model.specs.Policy.{competing, mode, compare}
use Rattle.model.specs.State.{State}

-- what the second is against the first, from what the first is against the second
abbrev pub reversed : Comparison → Comparison
reversed Better = Worse
reversed Worse = Better
reversed Equal = Equal

-- an order with ties: better one way is worse the other way, and so one is equal to itself; and what is not worse than one that is not
-- worse than a third is not worse than the third
pub record Ordered (R : ℕ → ℕ → Comparison) : Type 0 where
  pub mirrored : (p q : ℕ) → R q p ≡ reversed (R p q)
  pub transitive : (p q r : ℕ) → R p q ≢ Worse → R q r ≢ Worse → R p r ≢ Worse

-- in mode m, p comes strictly before q
abbrev pub is_better : Comparison → Bool
is_better Better = true
is_better Worse = false
is_better Equal = false

abbrev pub before : State → ℕ → ℕ → ℕ → Bool
before s m p q = is_better (compare s m p q)

-- a strict weak order, in which there is a best
pub record StrictWeak (R : ℕ → ℕ → Bool) : Type 0 where
  pub asymmetric : (p q : ℕ) → R p q ≡ true → R q p ≡ false
  pub negatively_transitive : (p q r : ℕ) → R p q ≡ false → R q r ≡ false → R p r ≡ false

-- of the partitions below n that compete, none is better than w; where the favoured one, f, is equal to it, w is the favoured one; and unless
-- it is, it is better than every one of lower number
pub record Won (s : State) (f : Option ℕ) (n w : ℕ) : Type 0 where
  pub inside : w < n
  pub competes : competing s w ≡ true
  pub unbeaten : (q : ℕ) → q < n → competing s q ≡ true → compare s (mode s) q w ≢ Better
  pub favoured : (q : ℕ) → f ≡ some q → q < n → competing s q ≡ true → compare s (mode s) q w ≡ Equal → w ≡ q
  pub lowest : f ≢ some w → (q : ℕ) → q < w → competing s q ≡ true → compare s (mode s) w q ≡ Better
