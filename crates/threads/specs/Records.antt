-- A thread's record, as the program's type and as the model's, and its store to the arrays.
use Rattle.std.specs.Prelude.{ℕ, ◌≡◌, set}
use Rattle.model.specs.State.{Thread}
use Rattle.model.specs.Arrays.{Columns, threads_in, Regular}
use Rattle.threads.specs.declared.actions.Thread as stored

abbrev pub thread_of : stored.Thread → Thread
thread_of x =
    record { exists = x.exists; ready = x.ready; partition = x.partition; priority = x.priority; mask = x.mask; policy = x.policy; slice = x.slice }

-- the record x stands in thread t's place, and the other records are as they were
pub record ThreadStored (old new : Columns) (t : ℕ) (x : Thread) : Type 0 where
  pub threads : threads_in new ≡ set (threads_in old) t x
  pub regular : Regular new
