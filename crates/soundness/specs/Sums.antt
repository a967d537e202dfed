-- What the history's numbers add up to, by row and by slot, and when the books agree with it. Row p is the w numbers from place p × w.
use Rattle.std.specs.Prelude.{◌≡◌, ℕ, ◌+◌, ◌*◌, ◌%◌, ◌^◌, ◌<◌, ◌≤◌, Bool, ◌&&◌, ltb, leb, List, length, take, drop, nat_eq, nat_le, nat_lt, slice_index, true, false, Option}
use Rattle.std.specs.Option.{MatchOption}
use Rattle.lists.specs.Lists.{below, sum, total, all}
use Rattle.units.specs.declared.Cycles.{Cycles}

-- partition p's row
abbrev pub row_in : List ℕ → ℕ → ℕ → List ℕ
row_in h w p = take w (drop (p * w) h)

-- what n rows hold in slot k
abbrev pub slot_in : List ℕ → ℕ → ℕ → ℕ → ℕ
slot_in h w n k = total n (λ p. slice_index h (p * w + k))

-- ---- what is tested

-- "each total equal to its row's sum"
abbrev pub totals_agree : List ℕ → List ℕ → ℕ → ℕ → Bool
totals_agree h u w n = all (λ p. nat_eq (slice_index u p) (sum (row_in h w p))) (below n)

-- "each slot's sum over partitions at most 2 × C": here at most the given number
abbrev pub slots_within : List ℕ → ℕ → ℕ → ℕ → Bool
slots_within h w n most = all (λ k. leb (slot_in h w n k) most) (below w)

-- "slot below W", "each total equal to its row's sum; each slot's sum over partitions at most 2 × C, and the current slot's at most the time
-- since tick". What a slot may hold, and what the current one may, are given
unfoldable pub books_agree : List ℕ → List ℕ → ℕ → ℕ → ℕ → ℕ → ℕ → Bool
books_agree h u w n slot most current =
    nat_lt slot w && totals_agree h u w n && slots_within h w n most && nat_le (slot_in h w n slot) current

-- every number is below 2^22: then 400 of them, and 16, add up in 32 bits
unfoldable pub all_narrow : List ℕ → Bool
all_narrow l = all (λ i. ltb (slice_index l i) 4194304) (below (length l))

-- ---- what the functions ask for and leave. Sums are made in 32 bits, and are right where all numbers are narrow

-- k numbers of partition p's row, from slot a on
abbrev pub part_in : List ℕ → ℕ → ℕ → ℕ → ℕ → List ℕ
part_in h w a k p = take k (drop (p * w + a) h)

-- f k is added to number k of a list, for each k below n, in 32 bits
pub record Added (f : ℕ → ℕ) (l after : List ℕ) (n : ℕ) : Type 0 where
  pub long : length after ≡ length l
  pub done : (k : ℕ) → k < n → slice_index after k ≡ (slice_index l k + f k) % 2 ^ 32
  pub left : (k : ℕ) → n ≤ k → slice_index after k ≡ slice_index l k

-- a part of a row is added up, where its numbers are narrow, and each of them to its slot's sum
pub record RowAdded (row sums : List ℕ) (r : Option Cycles) (after : List ℕ) : Type 0 where
  pub told : MatchOption r (all_narrow row ≡ false) (λ total. (all_narrow row ≡ true) × (total.0 ≡ sum row % 2 ^ 32))
  pub slots : Added (λ k. slice_index row k) sums after (length row)

-- n rows of w numbers
pub record Rows (h : List ℕ) (w n : ℕ) : Type 0 where
  pub few : n ≤ 16
  pub short : w ≤ 400
  pub inside : n * w ≤ length h

-- and k of their w slots, from slot a on
pub record Block (w a k : ℕ) : Type 0 where
  pub small : k ≤ 100
  pub ends : a + k ≤ w

-- the parts of the rows are added to the rows' sums
abbrev pub RowsAdded : List ℕ → ℕ → ℕ → ℕ → ℕ → List ℕ → List ℕ → Type 0
RowsAdded h w n a k rows after = Added (λ p. sum (part_in h w a k p)) rows after n

-- what is found of a block: whether all its numbers are narrow, and if so its slots' sums, and the rows' sums as far as its end
pub record BlockAdded (h : List ℕ) (w n a k : ℕ) (rows sums : List ℕ) (narrow : Bool) (rows' sums' : List ℕ) : Type 0 where
  pub fine : narrow ≡ all (λ p. all_narrow (part_in h w a k p)) (below n)
  pub slots : narrow ≡ true → Added (λ i. slot_in h w n (a + i)) sums sums' k
  pub totals : narrow ≡ true → RowsAdded h w n a k rows rows'
