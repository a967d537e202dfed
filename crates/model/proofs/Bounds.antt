-- What the code needs to know of its sums and indices in a sound state: none overflows, none is out of range.
use mathlib.Core.Logic.{◌≢◌}
use mathlib.Core.Path.{◌≡◌, refl, ◌∙◌}
use Prim.Native.Nat.{ℕ, zero, suc, ◌+◌, ◌*◌, ◌≤◌, ◌<◌}
use mathlib.Core.Bool.{Bool, true, false, cond}
use mathlib.Core.List.{List}
use lib.ListN.{length, get_or, length-set}
use lib.Dec.{eqb}
use borrow.Author.Tests.{eqb-false}
use native.Mathlib.Omega.{arith}
use native.Mathlib.Nat.{mul-le-mul_right}
use Rattle.lists.specs.Lists.{sum, member}
use Rattle.lists.proofs.Sums.{total_at, sum_le}
use Rattle.lists.proofs.Parts.{row_of, row_get, row_length}
use Rattle.units.specs.declared.Cycles.{Cycles}
use Rattle.sheet.specs.Settings.{W, C, Limits}
use Rattle.sheet.specs.declared.Settings.{Settings}
use Rattle.model.specs.State.{thread, queue_of, idle, used, place, wanted, State}
use Rattle.model.specs.Step.{next, clear_history}
use Rattle.model.specs.Facts.{Books, Settled, Sound, used_at, charges}

module _ (c : Settings) (u : List Cycles) (slot since : ℕ) (h : List ℕ) (lim : Limits c) (room : c.count * W c ≤ length h) (b : Books c u slot since h) where
  -- a number of the history's rows
  pub charge_high : (p k : ℕ) → p < c.count → k < W c → charges c h k p ≤ 2 * C c
  charge_high p k a i = omega (arith, b.slots k i, total_at c.count (charges c h k) p a)

  -- a total: "At most 799,920,000"
  pub used_most : (p : ℕ) → p < c.count → used_at u p ≤ 799920000
  used_most p a =
      let row : List ℕ = row_of (W c) h p in
      let len : length row ≡ W c = row_length (W c) h p c.count a room in
      let high : sum row ≤ length row * (2 * C c) =
      sum_le row (2 * C c) (λ i d. let d' : i < W c = rw len at d in rw (row_get (W c) h p i d') (charge_high p i a d')) in
      let most : W c * (2 * C c) ≤ 400 * (2 * C c) = mul-le-mul_right (2 * C c) lim.window_high in
      rw (b.totals p a) (omega (arith, rw len at high, most, lim.tick_high))

-- a queued thread's number is one of the 64, and its partition one of the sheet's; so it is with the running one
pub queued_inside : (s : State) (h : List ℕ) → Settled s h → (t : ℕ) → member t (queue_of s) ≡ true
    → (t < 64) × ((thread s t).partition < s.settings.count)
queued_inside s h k t m =
    let b : t < 64 = k.queue.inside t m in
    (b, (k.proper t b).partition (k.queue.exists t b (k.queue.ready t b ∙ m)))

pub running_inside : (s : State) (h : List ℕ) → Sound s h → s.running ≢ idle
    → (s.running < 64) × ((thread s s.running).partition < s.settings.count)
running_inside s h g on = queued_inside s h g.settled s.running (g.runs.queued on)

-- clearing a slot keeps the history's length
pub clear_length : (w k n : ℕ) (h : List ℕ) → length (clear_history w k n h) ≡ length h
unfolding clear_history
clear_length w k zero h = refl
clear_length w k (suc n) h = length-set (clear_history w k n h) (n * w + k) 0 ∙ clear_length w k n h

-- the next slot is one of the window's
pub next_inside : (s : State) → s.slot.0 < W s.settings → next s < W s.settings
next_inside s h = go (eqb (s.slot.0 + 1) (W s.settings)) refl
  where
    go : (z : Bool) → eqb (s.slot.0 + 1) (W s.settings) ≡ z → cond z 0 (s.slot.0 + 1) < W s.settings
    go true q = omega arith
    go false q = let w : s.slot.0 + 1 ≢ W s.settings = eqb-false _ _ q in omega arith

module _ (s : State) (h : List ℕ) (room : wanted s ≤ length h) (k : Settled s h) where
  -- a charge keeps the number of the slot within 2 × C, and the total below 2 ^ 32
  pub charge_fits : (p e : ℕ) → p < s.settings.count → s.since.0 + e ≤ 2 * C s.settings
      → get_or h (place s p s.slot.0) 0 + e ≤ 2 * C s.settings
  charge_fits p e a few = omega (arith, k.books.current, total_at s.settings.count (charges s.settings h s.slot.0) p a)

  pub total_fits : (p e : ℕ) → p < s.settings.count → s.since.0 + e ≤ 2 * C s.settings → used s p + e ≤ 801919800
  total_fits p e a few =
      omega (arith, used_most s.settings s.used s.slot.0 s.since.0 h k.limits room k.books p a, k.limits.tick_high)
