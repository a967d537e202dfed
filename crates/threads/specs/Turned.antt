-- What a tick needs of the running thread, the slices and the queue, and what it does to them.
use Rattle.std.specs.Prelude.{◌≢◌, ◌≡◌, true, ℕ, ◌≤◌, ◌<◌, List, length, take}
use Rattle.lists.specs.Lists.{member, distinct}
use Rattle.model.specs.State.{idle, State}
use Rattle.model.specs.Arrays.{columns, tables_in, with_tables}
use Rattle.model.specs.Step.{sliced}
use Rattle.threads.specs.Entries.{QueueStored}

-- what a sound state has: a queue without repeats, and in it the running thread, one of the 64, if any runs
pub record Turning (l q : List ℕ) (k t : ℕ) : Type 0 where
  pub slices : length l ≡ 64
  pub stored : QueueStored q k
  pub few : k ≤ 64
  pub once : distinct (take k q) ≡ true
  pub inside : t ≢ idle → t < 64
  pub runs : t ≢ idle → member t (take k q) ≡ true

-- in any state that has the old threads and queue, the model's tick of t gives the new ones and nothing else; as many are queued as before
abbrev pub Turned : List ℕ → List ℕ → List ℕ → ℕ → List ℕ → List ℕ → ℕ → Type 0
Turned o l q k l' q' t =
    (e r p n m : List ℕ) (s : State)
    → with_tables s (tables_in (columns e r p n m o l') q' k) ≡ sliced (with_tables s (tables_in (columns e r p n m o l) q k)) t
