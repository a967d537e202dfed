-- The parts of the rows in a block of slots, while row after row is added to the slots' sums.
use Rattle.std.proofs.Common.{◌≡◌, ℕ, ◌+◌, ◌*◌, ◌<◌, ◌≤◌, true, ltb, List, length, get_or, ap, ◌∙◌, subst, arith, length-drop, length-take, ltb-true}
use Rattle.lists.proofs.All.{all_below}
use Rattle.lists.proofs.Parts.{row_end, part_at}
use Rattle.lists.proofs.Loops.{total_more}
use Rattle.soundness.specs.declared.sums.History.{History}
use Rattle.soundness.specs.Sums.{slot_in, all_narrow, part_in, Added, Rows}
use Rattle.soundness.proofs.Passes.{added_both}

pub rows_in : (x : History) → Rows x.numbers.now x.window.0 x.count
rows_in x = record { few = x.few; short = x.short; inside = x.inside }

pub narrow_at : (l : List ℕ) → all_narrow l ≡ true → (i : ℕ) → i < length l → get_or l i 0 < 4194304
unfolding all_narrow
narrow_at l e i b = ltb-true _ _ (all_below (λ j. ltb (get_or l j 0) 4194304) (length l) e i b)

module _ (h : List ℕ) (w n : ℕ) (f : Rows h w n) where
  -- the places of a row are in the history, and few
  pub place_in : (p i : ℕ) → p < n → i ≤ w → (p * w + i ≤ length h) × (p * w + i ≤ 6400)
  place_in p i b c = (omega (arith, row_end p n w b, f.inside), omega (arith, row_end p 16 w (omega (arith, f.few)), f.short))

  -- k slots from slot a on
  module _ (a k : ℕ) (ends : a + k ≤ w) where
    pub part_length : (p : ℕ) → p < n → length (part_in h w a k p) ≡ k
    part_length p b = simp (length-take, length-drop) (omega (arith, (place_in p (a + k) b ends).0))

    pub part_get : (p i : ℕ) → i < k → get_or (part_in h w a k p) i 0 ≡ get_or h (p * w + (a + i)) 0
    part_get p i c = let e : p * w + a + i ≡ p * w + (a + i) = omega arith in part_at h (p * w + a) k i c ∙ ap (λ (j : ℕ). get_or h j 0) e

    pub slots_more : (s₀ s t : List ℕ) (p : ℕ) → p < n → Added (λ i. slot_in h w p (a + i)) s₀ s k
        → Added (λ i. get_or (part_in h w a k p) i 0) s t (length (part_in h w a k p)) → Added (λ i. slot_in h w (p + 1) (a + i)) s₀ t k
    slots_more s₀ s t p b g d =
        added_both (λ i. slot_in h w p (a + i)) (λ i. get_or (part_in h w a k p) i 0) (λ i. slot_in h w (p + 1) (a + i)) s₀ s t k g
        (subst (λ (m : ℕ). Added (λ i. get_or (part_in h w a k p) i 0) s t m) (part_length p b) d)
        (λ i c. omega (arith, part_get p i c, total_more (λ q. get_or h (q * w + (a + i)) 0) p))
