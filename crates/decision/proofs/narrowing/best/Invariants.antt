use mathlib.Core.Path.{◌≡◌}
use Prim.Native.Nat.{ℕ, ◌<◌}
use Rattle.decision.proofs.NarrowingLaws.{Passed}
use Rattle.decision.proofs.narrowing.best.Given as goal

-- whatever function gives the partitions' values
abbrev pub invariant-loop-q : goal.invariant-loop-q
invariant-loop-q g l =
    (of : ℕ → g.row.V.Denot) → ((p : ℕ) (v : g.row.V.Denot) → p < 16 → goal.F-post g l.value p v → v ≡ of p)
    → (b : ℕ) × (of b ≡ l.level.value) × Passed (λ p q. g.V.Rank.against (of p) (of q)) l.among l.q-iterator.0 l.level.kept b
