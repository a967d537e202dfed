-- What request (ii) of document 02 promises: "Where a thread stands after its priority changes". Both promises are of every accepted event that
-- sets a priority, from any state that the event door takes: that it takes the state is not asked, an accepted event shows it. The lengths are
-- those of every state that arrays of these types stand for.
use Rattle.std.specs.Prelude.{ℕ, ◌<◌, ◌≢◌, ◌≡◌, true, false, List}
use Rattle.model.specs.State.{thread, queue_of, State}
use Rattle.model.specs.Policy.{Decided, chosen}
use Rattle.model.specs.Typed.{Lengths}
use Rattle.model.specs.Event
use Rattle.model.specs.Event.{kind_of, thread_of, priority_of}
use Rattle.model.specs.Step.{Saved, to_tail, to_head, with_priority, answer}
use Rattle.guarantee.specs.Turns.{Equals}

-- the state s' is what becomes of s where the priority of thread t is set to n
pub record Stands (s s' : State) (t n : ℕ) : Type 0 where
  -- "a ready thread that is raised goes to the tail of the line"
  pub raised : (thread s t).ready ≡ true → (thread s t).priority < n → queue_of s' ≡ to_tail (queue_of s) t
  -- "one that is lowered goes to its head"
  pub lowered : (thread s t).ready ≡ true → n < (thread s t).priority → queue_of s' ≡ to_head (queue_of s) t
  -- "and one set to the priority it has stays"
  pub same : (thread s t).priority ≡ n → queue_of s' ≡ queue_of s
  -- "A thread that isn't ready only changes its number"
  pub unready : (thread s t).ready ≡ false → queue_of s' ≡ queue_of s
  -- all else of its record is as it was, its policy and what is left of its slice included; and so is every other thread's record
  pub number : thread s' t ≡ with_priority (thread s t) n
  pub others : (u : ℕ) → u ≢ t → thread s' u ≡ thread s u

-- THE PLACE: so stands a thread after every accepted event that sets its priority
abbrev pub Places : Type 0
Places =
    (v : Saved) → Lengths v.state → (b : List ℕ) → kind_of b ≡ Event.set_priority → (answer v b).refusal ≡ 0 →
    Stands v.state (answer v b).after.state (thread_of b) (priority_of b)

-- ---- what it means for who runs

-- the thread t is neither the one that its partition would run nor the one that the decision d names
abbrev pub PassedOver : State → Decided → ℕ → Type 0
PassedOver s d t = (chosen s (thread s t).partition ≢ t) × (d.thread ≢ t)

-- s' and d are the state and the decision after the priority of thread t is set to n in the state s; its equals are the ready threads of its
-- partition that have the priority n too, and that this core may run
pub record Ranked (s s' : State) (d : Decided) (t n : ℕ) : Type 0 where
  -- raised, it waits for each of them
  pub raised : (thread s t).priority < n → (u : ℕ) → Equals s' t u → PassedOver s' d t
  -- lowered, each of them waits for it
  pub lowered : n < (thread s t).priority → (u : ℕ) → Equals s' t u → PassedOver s' d u

-- AMONG EQUALS: so a raised thread comes after all threads of its new priority, and a lowered one before them
abbrev pub AmongEquals : Type 0
AmongEquals =
    (v : Saved) → Lengths v.state → (b : List ℕ) → kind_of b ≡ Event.set_priority → (answer v b).refusal ≡ 0 →
    Ranked v.state (answer v b).after.state (answer v b).decision (thread_of b) (priority_of b)
