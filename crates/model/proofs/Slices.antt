-- The task block at a tick that finds its thread running: what is counted down and refilled, and what stays.
use mathlib.Core.Logic.{◌≢◌}
use mathlib.Core.Path.{◌≡◌, refl, ap, ◌∙◌}
use Prim.Native.Nat.{ℕ, ◌-◌, ◌≤◌, ◌<◌}
use mathlib.Core.Bool.{Bool, true, false, cond}
use lib.Dec.{eqb}
use borrow.Author.Tests.{eqb-false, eq-eqb, ne_eqb}
use native.Mathlib.Omega.{arith}
use Rattle.model.specs.Slices.{round_robin, full_slice, slice_for, with_slice, spent, slice_after, counted}
use Rattle.model.specs.Typed.{ThreadTyped}
use Rattle.model.specs.State.{Thread}
use Rattle.model.specs.Facts.{SliceFits, Proper}

-- a full slice fits, and no slice is more
pub full_slice_law : (n : ℕ) → n ≤ round_robin → SliceFits n (slice_for n)
unfolding slice_for
full_slice_law n k = record { known = k; low = λ e. rw (eq-eqb n round_robin e) (omega arith); high = λ e. rw (eq-eqb n round_robin e) (omega arith); none = λ e. rw (ne_eqb n round_robin e) }

pub slice_few : (n : ℕ) → slice_for n ≤ full_slice
unfolding slice_for
slice_few n = go (eqb n round_robin)
  where
    go : (z : Bool) → cond z full_slice 0 ≤ full_slice
    go true = omega arith
    go false = omega arith

pub slice_absent : SliceFits 0 0
slice_absent = record { known = omega arith; low = λ w. let x : ⊥ = omega arith in absurd x; high = λ w. omega arith; none = λ w. refl }

-- ---- the slice after a tick that finds its thread running

module _ (o l : ℕ) where
  -- a round-robin thread's: full after its last tick, else one less
  pub refilled : spent o l ≡ true → slice_after o l ≡ full_slice
  unfolding slice_after
  refilled e = rw e

  pub lowered : o ≡ round_robin → spent o l ≡ false → slice_after o l ≡ l - 1
  unfolding slice_after
  lowered p e = rw (e, eq-eqb o round_robin p)

  -- any other's is as it was
  pub uncounted : o ≢ round_robin → slice_after o l ≡ l
  unfolding slice_after spent
  uncounted n = rw (ne_eqb o round_robin n)

  -- before its last tick there is more than one left
  pub not_spent : o ≡ round_robin → spent o l ≡ false → 2 ≤ l
  unfolding spent
  not_spent p e = let more : l - 1 ≢ 0 = eqb-false _ _ (rw (eq-eqb o round_robin p) at e) in omega arith

  pub after_fits : SliceFits o l → SliceFits o (slice_after o l)
  after_fits f = record { known = f.known; low = λ w. (go (spent o l) refl w).0; high = λ w. (go (spent o l) refl w).1; none = λ w. uncounted w ∙ f.none w }
    where
      go : (z : Bool) → spent o l ≡ z → o ≡ round_robin → (1 ≤ slice_after o l) × (slice_after o l ≤ full_slice)
      go true e w = rw (refilled e) (omega arith, omega arith)
      go false e w = rw (lowered w e) (omega (arith, not_spent w e), omega (arith, f.high w))

  pub after_byte : l < 256 → slice_after o l < 256
  unfolding slice_after
  after_byte h = go (spent o l) (eqb o round_robin)
    where
      go : (y z : Bool) → cond y full_slice (cond z (l - 1) l) < 256
      go true z = omega arith
      go false true = omega arith
      go false false = omega arith

-- ---- a record

pub uncounted_record : (r : Thread) → r.policy ≢ round_robin → counted r ≡ r
uncounted_record r n = ap (with_slice r) (uncounted r.policy r.slice n)

pub counted_proper : (n : ℕ) (r : Thread) → Proper n r → Proper n (counted r)
counted_proper n r p = record {
  partition = p.partition;
  mask = p.mask;
  slice = after_fits r.policy r.slice p.slice;
  none = λ x. uncounted_record r (rw (p.none x) (omega arith)) ∙ p.none x;
}

pub counted_typed : (r : Thread) → ThreadTyped r → ThreadTyped (counted r)
counted_typed r y =
    record { partition = y.partition; priority = y.priority; mask = y.mask; policy = y.policy; slice = after_byte r.policy r.slice y.slice }
