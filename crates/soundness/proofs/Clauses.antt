-- The test of one thread's numbers, as the code makes it, and what it comes to over all threads.
use Rattle.std.proofs.Common.{◌≡◌, ℕ, ◌+◌, ◌*◌, ◌/◌, ◌%◌, ◌^◌, ◌<◌, ◌≤◌, min, max, Bool, cond, not, ◌&&◌, eqb, ltb, leb, get_or, ap, ◌∙◌, arith, le-ltb, eq-eqb, ne_eqb}
use lib.Bits.{bit_and, bit_or, and_mask, and_high, and_zero_r, or_zero_r, or_lt, or_add_and, and_le_l}
use lib.Pow.{shr_mod}
use Rattle.std.proofs.lemmas.Bool.Decides.{nat_tests}
use native.Mathlib.Decide.{ℕ_discrete, dec_lt}
use borrow.Author.Tests.{lt-leb}
use Rattle.lists.specs.Lists.{below, all}
use Rattle.lists.proofs.Every.{all_both}
use Rattle.lists.proofs.Union.{or_below, or_none}
use Rattle.model.specs.Arrays.{Columns, thread_in, plain}
use Rattle.model.specs.Sound.{sound_thread, sound_slice}
use Rattle.soundness.specs.Records.{sound_records, OfAbsent, OfExisting, WrongFlag, slice_fits, WrongSlice, WrongTurn}

-- ---- a byte and the flag less 1, which is g

mod_small : (x : ℕ) → x < 256 → x % 2 ^ 8 ≡ x
mod_small x h = omega arith

full : (x : ℕ) → x < 256 → bit_or x 255 ≡ 255
full x h = omega (arith, or_lt 8 x 255 h (omega arith), or_add_and x 255, and_le_l x 255)

pub of_absent : (e x g : ℕ) → x < 256 → g < 256 → (g + 1) % 2 ^ 8 ≡ e → OfAbsent e x (bit_and x g)
of_absent e x g small fits h b = go (ℕ_discrete e 1)
  where
    go : Dec (e ≡ 1) → bit_and x g ≡ cond (eqb e 1) 0 x
    go (yes y) = let k : g ≡ 0 = omega arith in rw (eq-eqb e 1 y, k) (and_zero_r x)
    go (no y) = let k : g ≡ 255 = omega arith in rw (ne_eqb e 1 y, k) (and_mask x 8 ∙ mod_small x small)

pub of_existing : (e x g : ℕ) → x < 256 → g < 256 → (g + 1) % 2 ^ 8 ≡ e → OfExisting e x (bit_or x g)
of_existing e x g small fits h b = go (ℕ_discrete e 1)
  where
    go : Dec (e ≡ 1) → bit_or x g ≡ cond (eqb e 1) x 255
    go (yes y) = let k : g ≡ 0 = omega arith in rw (eq-eqb e 1 y, k) (or_zero_r x)
    go (no y) = let k : g ≡ 255 = omega arith in rw (ne_eqb e 1 y, k) (full x small)

-- ---- a slice: x is the slice less the policy, and g the policy less 1

-- all bits but the lowest two
high_bits : (x : ℕ) → x < 256 → bit_and x 252 ≡ x / 4 * 4
high_bits x h = and_high x 6 2 ∙ ap (λ (q : ℕ). q * 4) (shr_mod 6 2 h)

pub wrong_slice : (o l x g : ℕ) → l < 256 → x < 256 → g < 256 → (x + o) % 2 ^ 8 ≡ l → (g + 1) % 2 ^ 8 ≡ o → WrongSlice o l (bit_and x (bit_or g 252))
wrong_slice o l x g small fits low d e b = go (ℕ_discrete o 1)
  where
    go : Dec (o ≡ 1) → eqb (bit_and x (bit_or g 252)) 0 ≡ slice_fits o l
    go (no y) = let k : g ≡ 255 = omega arith in let m : x ≡ l = omega arith in rw (k, m, ne_eqb o 1 y, and_mask l 8, mod_small l small)
    go (yes y) = let k : g ≡ 0 = omega arith in rw (k, eq-eqb o 1 y, high_bits x fits) (grind (arith, nat_tests))

-- a is the policy of a thread that does not exist, and w tells of the slice
pub wrong_turn : (e o l a w : ℕ) → OfAbsent e o a → WrongSlice o l w → WrongTurn e o l (bit_or a w)
wrong_turn e o l a w f s b low = rw (← or_none a w, f b, s low) (grind (arith, nat_tests))

-- ---- what is joined

-- the answer from the three bytes
abbrev pub answer : ℕ → ℕ → ℕ → ℕ → Bool
answer count rest least most = eqb rest 0 && ltb 0 least && ltb most count

joined : (count rest least most a b p : ℕ)
    → answer count (bit_or rest a) (min b least) (max p most) ≡ (answer count rest least most && answer count a b p)
joined count rest least most a b p = rw (← or_none rest a) (grind (arith, nat_tests))

-- ---- one thread

-- a thread's numbers are sound, and its flags 0 or 1
abbrev pub proper : ℕ → ℕ → ℕ → ℕ → ℕ → ℕ → ℕ → ℕ → Bool
proper count e r p n m o l =
    (leb e 1 && leb r 1)
    && cond (eqb e 1) (ltb p count && not (eqb m 0) && (leb o 1 && slice_fits o l)) (not (eqb r 1) && eqb p 0 && eqb n 0 && eqb m 0 && eqb o 0 && eqb l 0)

-- the test of one thread, f being its flags and its policy
abbrev tested : ℕ → ℕ → ℕ → ℕ → ℕ → Bool
tested count f rest least most = ltb f 2 && eqb rest 0 && ltb 0 least && ltb most count

-- a policy above 1 shows on both sides
high : (count e r p n m o l a b w : ℕ) → 1 < o → tested count (bit_or (bit_or e r) o) (bit_or a w) b p ≡ proper count e r p n m o l
high count e r p n m o l a b w h = rw (← or_below 1 (bit_or e r) o) (grind (arith, nat_tests))

answer_is : (count e r p n m o l a b w : ℕ) → 1 ≤ count → OfAbsent e (bit_or (bit_or (bit_or r p) n) m) a → OfExisting e m b → WrongTurn e o l w
    → tested count (bit_or (bit_or e r) o) (bit_or a w) b p ≡ proper count e r p n m o l
answer_is count e r p n m o l a b w h f g s = go (dec_lt 1 o) (ℕ_discrete e 0) (ℕ_discrete e 1)
  where
    go : Dec (1 < o) → Dec (e ≡ 0) → Dec (e ≡ 1) → tested count (bit_or (bit_or e r) o) (bit_or a w) b p ≡ proper count e r p n m o l
    go (yes z) x y = high count e r p n m o l a b w z
    go (no z) (yes x) y =
        rw (← or_below 1 (bit_or e r) o, ← or_below 1 e r, ← or_none a w, f (omega arith), g (omega arith), s (omega arith) (omega arith), x)
        (rw (← or_none (bit_or (bit_or r p) n) m, ← or_none (bit_or r p) n, ← or_none r p) (grind (arith, nat_tests)))
    go (no z) (no x) (yes y) =
        rw (← or_below 1 (bit_or e r) o, ← or_below 1 e r, ← or_none a w, f (omega arith), g (omega arith), s (omega arith) (omega arith), y)
        (grind (arith, nat_tests))
    go (no z) (no x) (no y) = rw (← or_below 1 (bit_or e r) o, ← or_below 1 e r, le-ltb e 2 (omega arith), lt-leb e 1 (omega arith))

-- ---- all threads

-- the test of thread t
abbrev pub fine : ℕ → Columns → ℕ → Bool
fine count ts t = (leb (get_or ts.exists t 0) 1 && leb (get_or ts.ready t 0) 1) && sound_thread count (thread_in ts t)

module _ (count : ℕ) (ts : Columns) where
  -- one thread more
  pub fine_more : (t rest least most a b w d : ℕ) → 1 ≤ count
      → OfAbsent (get_or ts.exists t 0) (bit_or (bit_or (bit_or (get_or ts.ready t 0) (get_or ts.partitions t 0)) (get_or ts.priorities t 0)) (get_or ts.masks t 0)) a
      → OfExisting (get_or ts.exists t 0) (get_or ts.masks t 0) b
      → WrongTurn (get_or ts.exists t 0) (get_or ts.policies t 0) (get_or ts.slices t 0) w
      → WrongFlag (bit_or (bit_or (get_or ts.exists t 0) (get_or ts.ready t 0)) (get_or ts.policies t 0)) d
      → answer count (bit_or rest (bit_or d (bit_or a w))) (min b least) (max (get_or ts.partitions t 0) most) ≡ (answer count rest least most && fine count ts t)
  unfolding sound_thread sound_slice
  fine_more t rest least most a b w d h f g s v =
      joined count rest least most (bit_or d (bit_or a w)) b (get_or ts.partitions t 0)
      ∙ ap (λ (z : Bool). answer count rest least most && z)
      (rw (← or_none d (bit_or a w), v) (answer_is count (get_or ts.exists t 0) (get_or ts.ready t 0) (get_or ts.partitions t 0) (get_or ts.priorities t 0) (get_or ts.masks t 0) (get_or ts.policies t 0) (get_or ts.slices t 0) a b w h f g s))

  pub fine_all : all (fine count ts) (below 64) ≡ sound_records count ts
  unfolding sound_records plain
  fine_all =
      all_both (λ t. leb (get_or ts.exists t 0) 1 && leb (get_or ts.ready t 0) 1) (λ t. sound_thread count (thread_in ts t)) 64
      ∙ ap (λ (z : Bool). z && all (λ t. sound_thread count (thread_in ts t)) (below 64)) (all_both (λ t. leb (get_or ts.exists t 0) 1) (λ t. leb (get_or ts.ready t 0) 1) 64)
