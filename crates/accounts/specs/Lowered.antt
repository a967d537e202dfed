-- The totals as numbers, lowered by what stands in a slot; what that needs.
use Rattle.std.specs.Prelude.{ℕ, suc, zero, ◌+◌, ◌-◌, ◌*◌, ◌≤◌, ◌<◌, List, length, get_or, set}

unfoldable pub lowered : ℕ → ℕ → ℕ → List ℕ → List ℕ → List ℕ
lowered w k zero u h = u
lowered w k (suc p) u h = set (lowered w k p u h) p (get_or u p 0 - get_or h (p * w + k) 0)

-- each total covers what stands in the slot
pub record Covered (u h : List ℕ) (w n k : ℕ) : Type 0 where
  pub few : n ≤ 16
  pub inside : k < w
  pub rows : n * w ≤ length h
  pub covers : (p : ℕ) → p < n → get_or h (p * w + k) 0 ≤ get_or u p 0
