-- What an action needs of the threads and the queue, and what it does to them.
use Rattle.std.specs.Prelude.{◌≡◌, true, ℕ, ◌≤◌, ◌<◌, List, get_or, take}
use Rattle.lists.specs.Lists.{member, distinct}
use Rattle.model.specs.State.{State}
use Rattle.model.specs.Arrays.{Columns, Regular, Tables, with_tables}
use Rattle.model.specs.Event.{kind_of, thread_of, create, ready, set_priority, end}
use Rattle.model.specs.Step.{act}
use Rattle.threads.specs.Entries.{QueueStored}

-- what an accepted event on a sound state has: a thread number below 64 where the kind names a thread, a queue without repeats,
-- room in it for a thread that becomes ready, and in it, if it is ready, the thread whose priority is set
pub record Able (ts : Columns) (q : List ℕ) (k : ℕ) (b : List ℕ) : Type 0 where
  pub thread_inside : create ≤ kind_of b → kind_of b ≤ end → thread_of b < 64
  pub sizes : Regular ts
  pub stored : QueueStored q k
  pub few : k ≤ 64
  pub once : distinct (take k q) ≡ true
  pub free : kind_of b ≡ ready → k < 64
  pub waits : kind_of b ≡ set_priority → get_or ts.ready (thread_of b) 0 ≡ 1 → member (thread_of b) (take k q) ≡ true

-- in any state that has the old threads and queue, the model's action gives the new ones and nothing else
abbrev pub Acted : Tables → Tables → List ℕ → Type 0
Acted old new b = (s : State) → with_tables s new ≡ act (with_tables s old) b
