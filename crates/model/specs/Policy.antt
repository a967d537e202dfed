-- The decision: which thread runs, by the adaptive partitioning rules ("The decision" of document 01).
use Rattle.std.specs.Prelude.{ℕ, suc, zero, Bool, true, false, not, cond, ◌&&◌, List, map, ℤ, eqb}
use Rattle.std.proofs.Math.Option.{Option, none, some}
use Rattle.lists.specs.Lists.{below, any, keep, first, maximum}
use Rattle.units.specs.Units.{remaining_of, has_budget_of, compare_numbers, compare_flags, compare_fractions}
use Rattle.units.specs.declared.Comparison.{Comparison}
use Rattle.units.specs.declared.Comparison.TheVariants.{Better, Worse, Equal}
use Rattle.sheet.specs.Settings.{budget, need}
use Rattle.model.specs.State.{thread, queue_of, may_run, idle, used, State}

-- a decision in the paper's numbers
pub record Decided : Type 0 where
  pub mode : ℕ
  pub partition : ℕ
  pub thread : ℕ

-- ---- what each partition brings

-- the queued threads of partition p that this core may run, in the queue's order
unfoldable pub candidates : State → ℕ → List ℕ
candidates s p = keep (λ t. may_run (thread s t).partition (thread s t).mask p s.settings.core) (queue_of s)

-- "Competing: p has a thread in the line whose mask has this core's bit"
unfoldable pub competing : State → ℕ → Bool
competing s p = any (λ t. true) (candidates s p)

-- "Top priority: the highest among p's line threads that this core may run"
unfoldable pub top_priority : State → ℕ → ℕ
top_priority s p = maximum (map (λ t. (thread s t).priority) (candidates s p))

-- "Remaining is budget less used, a signed number below zero after an overrun"
unfoldable pub remaining : State → ℕ → ℤ
remaining s p = remaining_of (budget s.settings p) (used s p)

-- "Has budget: remaining is at least C / 4", or, in edition 2, "at least half a tick"
unfoldable pub has_budget : State → ℕ → Bool
has_budget s p = has_budget_of (remaining s p) (need s.settings)

-- ---- the mode

abbrev pub idle_mode : ℕ
idle_mode = 0

abbrev pub free_time : ℕ
free_time = 1

abbrev pub underload : ℕ
underload = 2

abbrev pub at_limit : ℕ
at_limit = 3

abbrev pub partitions : State → List ℕ
partitions s = below s.settings.count

-- "Mode, first that fits": none competes; some partition whose budget is above 0 isn't competing; some competing partition has budget; else
unfoldable pub mode : State → ℕ
mode s =
    cond (not (any (competing s) (partitions s))) idle_mode
    (cond (any (λ p. not (eqb (budget s.settings p) 0) && not (competing s p)) (partitions s)) free_time
    (cond (any (λ p. competing s p && has_budget s p) (partitions s)) underload
    at_limit))

-- ---- the order of partitions: "The comparison of two partitions shall say better, worse or equal"

-- what p is against q on has budget, on top priority, on the fraction used
unfoldable pub by_budget : State → ℕ → ℕ → Comparison
by_budget s p q = compare_flags (has_budget s p) (has_budget s q)

unfoldable pub by_priority : State → ℕ → ℕ → Comparison
by_priority s p q = compare_numbers (top_priority s p) (top_priority s q)

unfoldable pub by_fraction : State → ℕ → ℕ → Comparison
by_fraction s p q = compare_fractions (used s p) (budget s.settings p) (used s q) (budget s.settings q)

-- where the first comparison says equal, the rest decides
infixr 30 ◌then◌
unfoldable pub ◌then◌ : Comparison → Comparison → Comparison
Better then rest = Better
Worse then rest = Worse
Equal then rest = rest

-- policy 1, SCHEDPOL_RATIO
unfoldable pub ratio_policy : State → Bool
ratio_policy s = eqb s.settings.policy 1

-- the mode table's column "order of partitions": in mode m, what p is against q
unfoldable pub compare : State → ℕ → ℕ → ℕ → Comparison
compare s m p q =
    cond (eqb m at_limit) (by_fraction s p q)
    (cond (eqb m free_time && ratio_policy s) (by_budget s p q then by_fraction s p q)
    (by_budget s p q then by_priority s p q then by_fraction s p q))

-- ---- the winner and its thread

-- p is the favoured partition, if there is one
unfoldable pub favours : Option ℕ → ℕ → Bool
favours none p = false
favours (some f) p = eqb p f

-- whether one wins against another of lower number, from what it is against that, and whether it is the favoured one: "Among those tied for
-- best", the favoured one "wins, if it is one of them; otherwise the lowest number"
unfoldable pub wins : Comparison → Bool → Bool
wins Better favoured = true
wins Worse favoured = false
wins Equal favoured = favoured

-- of p and the best of lower number, where f is favoured
unfoldable pub better : State → Option ℕ → ℕ → Option ℕ → ℕ
better s f p none = p
better s f p (some b) = cond (wins (compare s (mode s) p b) (favours f p)) p b

-- "Only competing partitions are compared": the best of those below n; none where none of them competes
unfoldable pub best : State → Option ℕ → ℕ → Option ℕ
best s f zero = none
best s f (suc p) = cond (competing s p) (some (better s f p (best s f p))) (best s f p)

unfoldable pub winner : State → Option ℕ → Option ℕ
winner s f = best s f s.settings.count

-- "the first in the line with the top priority among threads this core may run"
unfoldable pub chosen : State → ℕ → ℕ
chosen s p = first (keep (λ t. eqb (thread s t).priority (top_priority s p)) (candidates s p)) idle

unfoldable pub decide_for : State → Option ℕ → Decided
decide_for s none = record { mode = idle_mode; partition = 0; thread = idle }
decide_for s (some p) = record { mode = mode s; partition = p; thread = chosen s p }

-- the decision, where the partition f is favoured, or none
unfoldable pub decide : State → Option ℕ → Decided
decide s f = decide_for s (winner s f)
