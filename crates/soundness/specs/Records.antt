-- The threads' records in their columns: when they are sound.
use Rattle.std.specs.Prelude.{◌≡◌, ℕ, ◌≤◌, Bool, cond, ◌&&◌, ◌==◌, nat_le, nat_lt}
use Rattle.lists.specs.Lists.{below, all}
use Rattle.model.specs.Arrays.{Columns, thread_in, flags_fit}
use Rattle.model.specs.Slices.{round_robin, full_slice}
use Rattle.model.specs.Sound.{sound_thread}

-- every flag is 0 or 1, and every record is sound, where there are `count` partitions
unfoldable pub sound_records : ℕ → Columns → Bool
sound_records count ts = flags_fit ts && all (λ t. sound_thread count (thread_in ts t)) (below 64)

-- x where the flag e of a thread is 0, and 0 where it is 1; and x where it is 1, and 255 where it is 0
abbrev pub OfAbsent : ℕ → ℕ → ℕ → Type 0
OfAbsent e x r = e ≤ 1 → r ≡ cond (e == 1) 0 x

abbrev pub OfExisting : ℕ → ℕ → ℕ → Type 0
OfExisting e x r = e ≤ 1 → r ≡ cond (e == 1) x 255

-- r is 0 where x is 0 or 1
abbrev pub WrongFlag : ℕ → ℕ → Type 0
WrongFlag x r = (r == 0) ≡ nat_lt x 2

-- a thread of the policy o may have the slice l; and r is 0 where it may
abbrev pub slice_fits : ℕ → ℕ → Bool
slice_fits o l = cond (o == round_robin) (nat_le 1 l && nat_le l full_slice) (l == 0)

abbrev pub WrongSlice : ℕ → ℕ → ℕ → Type 0
WrongSlice o l r = o ≤ 1 → (r == 0) ≡ slice_fits o l

-- and r is 0 where it may and the flag e of the thread is 1, and where both are 0 and the flag is 0
abbrev pub WrongTurn : ℕ → ℕ → ℕ → ℕ → Type 0
WrongTurn e o l r = e ≤ 1 → o ≤ 1 → (r == 0) ≡ cond (e == 1) (slice_fits o l) (o == 0 && l == 0)
