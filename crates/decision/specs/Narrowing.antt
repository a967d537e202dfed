-- A set of partitions narrowed to those that no other of them is better than.
use Rattle.std.specs.Prelude.{◌≢◌, ◌≡◌, ℕ, ◌<◌, true, false, List, get_or}
use Rattle.sets.specs.Bits.{in_set, Only, Put, Lowest}
use Rattle.units.specs.Units.{compare_numbers, compare_flags, compare_fractions}
use Rattle.units.specs.declared.Comparison.{Comparison}
use Rattle.units.specs.declared.Comparison.TheVariants.{Better, Worse, Equal}
use Rattle.units.specs.declared.Fraction.{Fraction}

-- r holds the best of w by the comparison R: none of w is better than one of r, and one of r is better than each of w that is not in r
pub record Narrowed (R : ℕ → ℕ → Comparison) (w r : ℕ) : Type 0 where
  pub some : r ≢ 0
  pub inside : (i : ℕ) → i < 16 → in_set r i ≡ true → in_set w i ≡ true
  pub unbeaten : (i q : ℕ) → i < 16 → q < 16 → in_set r i ≡ true → in_set w q ≡ true → R q i ≢ Better
  pub beaten : (i q : ℕ) → i < 16 → q < 16 → in_set r i ≡ true → in_set w q ≡ true → in_set r q ≡ false → R i q ≡ Better

-- ---- what p is against q, in numbers that are kept

-- who is in a set is better than who is not: in the set of those that have budget, or in that of the favoured one
abbrev pub on_set : ℕ → ℕ → ℕ → Comparison
on_set set p q = compare_flags (in_set set p) (in_set set q)

-- "top priority"
abbrev pub on_priority : List ℕ → ℕ → ℕ → Comparison
on_priority tops p q = compare_numbers (get_or tops p 0) (get_or tops q 0)

-- "fraction"
abbrev pub on_fraction : List ℕ → List ℕ → ℕ → ℕ → Comparison
on_fraction used budgets p q = compare_fractions (get_or used p 0) (get_or budgets p 0) (get_or used q 0) (get_or budgets q 0)

abbrev pub fraction : ℕ → ℕ → Fraction
fraction used budget = record { used = record { 0 = used }; budget = record { 0 = budget } }

abbrev pub compared_fractions : Fraction → Fraction → Comparison
compared_fractions a b = compare_fractions a.used.0 a.budget.0 b.used.0 b.budget.0

-- ---- the winner

-- w wins among those that are level up to the fraction used: of those with the smallest fraction, tied for best, it is the favoured one, if that is
-- one of them; otherwise the lowest
pub record Wins (used budgets : List ℕ) (level favoured w : ℕ) : Type 0 where
  pub tied : ℕ
  pub kept : ℕ
  pub best : Narrowed (on_fraction used budgets) level tied
  pub preferred : Narrowed (on_set favoured) tied kept
  pub lowest : Lowest 16 kept w

-- ---- one partition more

-- the best so far have the value `old`, p has `new` and is c against them: a better one is alone from there on, a worse one changes nothing, an
-- equal one joins
pub record OneMore (A : Type 0) (c : Comparison) (old new : A) (kept p : ℕ) (value : A) (set : ℕ) : Type 0 where
  pub ahead : c ≡ Better → (value ≡ new) × Only 16 p set
  pub behind : c ≡ Worse → (value ≡ old) × (set ≡ kept)
  pub level : c ≡ Equal → (value ≡ old) × Put 16 kept p set
