-- The walk over a set's numbers, the lowest first.
use Rattle.std.specs.Prelude.{◌≡◌, ℕ, Option, MatchOption}
use Rattle.sets.specs.Bits.{Lowest, Rested}

-- what a step from the set w gives, and the set that is left: its lowest number and the others, or nothing where nothing is in it
abbrev pub FirstOut : ℕ → Option ℕ → ℕ → Type 0
FirstOut w r left = MatchOption r ((w ≡ 0) × (left ≡ 0)) (λ p. Lowest 16 w p × Rested 16 w left)
