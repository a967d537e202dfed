-- Where a changed priority puts a thread: the whole ready queue after a set priority, on a given state. The lines of a run do not show all of it,
-- because the order of two threads shows only where their priorities are equal.
use Rattle.std.specs.Prelude.{ℕ, Bool, true, false, ◌&&◌, List, [], ◌∷◌, replicate, eqb}
use Rattle.lists.specs.Lists.{all}
use Rattle.model.specs.State.{State, queue_of}
use Rattle.model.specs.Step.{saved, with_thread, with_running, created, joins, answer}
use Rattle.model.specs.Run.{fresh_state}
use Rattle.cases.specs.Written.{halves, set_priority}
use Rattle.cases.specs.Computed.{lines}

-- threads of partition 0 by number, of the priorities 10, 20, 20, 30 and 10
abbrev pub known : State
known =
    with_thread (with_thread (with_thread (with_thread (with_thread (fresh_state (halves 2)) 0 (created 0 10 1 0)) 1 (created 0 20 1 0)) 2
    (created 0 20 1 0)) 3 (created 0 30 1 0)) 4 (created 0 10 1 0)

-- the line is 3, 0, 1, 2, and thread 3 is running; thread 4 is not ready
abbrev pub standing : State
standing = with_running (joins (joins (joins (joins known 3) 0) 1) 2) 3

-- a thread, the priority that it is set to, and the line after that
pub record Place : Type 0 where
  pub thread : ℕ
  pub priority : ℕ
  pub line : List ℕ

abbrev pub put : ℕ → ℕ → List ℕ → Place
put t n q = record { thread = t; priority = n; line = q }

abbrev pub line_after : Place → List ℕ
line_after p = queue_of (answer (saved standing (replicate 4 0)) (set_priority p.thread p.priority 0)).after.state

abbrev pub same_numbers : List ℕ → List ℕ → Bool
same_numbers [] [] = true
same_numbers [] (u ∷ us) = false
same_numbers (t ∷ ts) [] = false
same_numbers (t ∷ ts) (u ∷ us) = eqb t u && same_numbers ts us

abbrev pub stand : List Place → Bool
stand l = all (λ p. same_numbers (line_after p) p.line) l

abbrev pub places : List Place
places =
    -- "a ready thread that is raised goes to the tail of the line": behind those of lower priority too; by one; the running one; the last
    put 0 30 (3 ∷ 1 ∷ 2 ∷ 0 ∷ []) ∷ put 1 21 (3 ∷ 0 ∷ 2 ∷ 1 ∷ []) ∷ put 3 255 (0 ∷ 1 ∷ 2 ∷ 3 ∷ []) ∷ put 2 30 (3 ∷ 0 ∷ 1 ∷ 2 ∷ [])
    -- "one that is lowered goes to its head": ahead of those of higher priority too; by one; the last of all; the first, which is running
    ∷ put 2 10 (2 ∷ 3 ∷ 0 ∷ 1 ∷ []) ∷ put 1 19 (1 ∷ 3 ∷ 0 ∷ 2 ∷ []) ∷ put 0 0 (0 ∷ 3 ∷ 1 ∷ 2 ∷ []) ∷ put 3 10 (3 ∷ 0 ∷ 1 ∷ 2 ∷ [])
    -- "one set to the priority it has stays"
    ∷ put 1 20 (3 ∷ 0 ∷ 1 ∷ 2 ∷ []) ∷ put 3 30 (3 ∷ 0 ∷ 1 ∷ 2 ∷ []) ∷ put 2 20 (3 ∷ 0 ∷ 1 ∷ 2 ∷ [])
    -- "A thread that isn't ready only changes its number"
    ∷ put 4 255 (3 ∷ 0 ∷ 1 ∷ 2 ∷ []) ∷ put 4 0 (3 ∷ 0 ∷ 1 ∷ 2 ∷ []) ∷ put 4 10 (3 ∷ 0 ∷ 1 ∷ 2 ∷ [])
    ∷ []
