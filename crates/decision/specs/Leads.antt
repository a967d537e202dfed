-- What a partition would run, from the queued threads l that this core may run, in the queue's order, and their priorities f.
use Rattle.std.specs.Prelude.{ℕ, ◌+◌, Bool, true, cond, List, map, get_or, eqb, ltb}
use Rattle.lists.specs.Lists.{any, keep, first, maximum}
use Rattle.model.specs.State.{may_run}
use Rattle.decision.specs.declared.leads.Lead.{Lead}

-- the top priority, and the first thread that has it
abbrev pub top_of : (ℕ → ℕ) → List ℕ → ℕ
top_of f l = maximum (map f l)

abbrev pub lead_of : (ℕ → ℕ) → List ℕ → ℕ
lead_of f l = first (keep (λ t. eqb (f t) (top_of f l)) l) 255

-- there are such threads
abbrev pub any_of : List ℕ → Bool
any_of l = any (λ t. true) l

-- one more than the top priority; 0 where there is none
unfoldable pub level_of : (ℕ → ℕ) → List ℕ → ℕ
level_of f l = cond (any_of l) (top_of f l + 1) 0

-- both as they are kept
abbrev pub lead_in : (ℕ → ℕ) → List ℕ → Lead
lead_in f l = record { top = level_of f l; first = lead_of f l }

-- after one more thread at the tail: it leads only if its priority is higher
unfoldable pub raised_by : Lead → ℕ → ℕ → Lead
raised_by old priority t = cond (ltb old.top (priority + 1)) (record { top = priority + 1; first = t }) old

-- ---- as the partitions' leads are kept, one after the other

abbrev pub tops_of : List Lead → List ℕ
tops_of leads = map (λ x. x.top) leads

abbrev pub firsts_of : List Lead → List ℕ
firsts_of leads = map (λ x. x.first) leads

-- ---- in arrays of a number for each thread

abbrev pub numbers : List ℕ → ℕ → ℕ
numbers l t = get_or l t 0

-- the threads in the line that are partition p's and that the core may run
unfoldable pub runnable : ℕ → List ℕ → List ℕ → ℕ → List ℕ → List ℕ
runnable core partitions masks p line = keep (λ t. may_run (get_or partitions t 0) (get_or masks t 0) p core) line
