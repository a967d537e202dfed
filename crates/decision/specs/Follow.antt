-- The leads after an accepted event's own action.
use Rattle.std.specs.Prelude.{◌≢◌, ◌≡◌, ℕ, ◌≤◌, ◌<◌, Bool, true, false, List, length, get_or, take}
use Rattle.sheet.specs.declared.Settings.{Settings}
use Rattle.model.specs.State.{queue_of, State}
use Rattle.model.specs.Event.{kind_of, thread_of}
use Rattle.model.specs.Step.{act}
use Rattle.model.specs.Facts.{Settled, Named}
use Rattle.model.specs.Arrays.{Columns, columns, Regular, threads_in, state_of}
use Rattle.model.specs.declared.Clock.{Clock}
use Rattle.event.specs.Kinds.{kind_number}
use Rattle.event.specs.declared.kinds.Action.{Action}
use Rattle.decision.specs.Leads.{tops_of, firsts_of}
use Rattle.decision.specs.Keeping.{KeptIn, Lined, Left, Changed}
use Rattle.decision.specs.declared.leads.Lead.{Lead}
use Rattle.decision.specs.declared.leads.ReadyQueue.{ReadyQueue}

-- a state as it stands in the arrays
pub record Before : Type 0 where
  pub settings : Settings
  pub totals : List ℕ
  pub clock : Clock
  pub threads : Columns
  pub queue : List ℕ

abbrev pub state_before : Before → State
state_before b = state_of b.settings b.totals b.clock b.threads b.queue

-- the threads' columns, of which four are lent
abbrev pub with_lent : Columns → List ℕ → List ℕ → List ℕ → List ℕ → Columns
with_lent ts r p n m = columns ts.exists r p n m ts.policies ts.slices

-- the arrays hold the threads and the queue that the model's action gives from a settled state before, of whose threads the event names one that it
-- may name, and of which the leads are kept; t is that thread, and p was its partition
pub record Followed (core : ℕ) (ready partitions priorities masks queue : List ℕ) (queued : ℕ) (tops firsts : List ℕ) (set : ℕ) (action : Action) (t p : ℕ) : Type 0 where
  pub before : Before
  pub history : List ℕ
  pub bytes : List ℕ
  pub others : Columns
  pub settled : Settled (state_before before) history
  pub names : Named (state_before before) bytes
  pub sizes : Regular before.threads
  pub still : Regular (with_lent others ready partitions priorities masks)
  pub full : length queue ≡ 64
  pub few : queued ≤ 64
  pub kind : kind_of bytes ≡ kind_number action
  pub named : t ≡ thread_of bytes
  pub home : p ≡ get_or before.threads.partitions t 0
  pub on : core ≡ before.settings.core
  pub threads : threads_in (with_lent others ready partitions priorities masks) ≡ (act (state_before before) bytes).threads
  pub line : take queued queue ≡ queue_of (act (state_before before) bytes)
  pub kept : KeptIn core before.threads.partitions before.threads.priorities before.threads.masks (queue_of (state_before before)) tops firsts set

-- what is left of it where the event set a priority: by the thread's flag, the leads are right, or they were with its old priority and
-- its old place
pub record FollowedPriority (core : ℕ) (ready partitions priorities masks queue : List ℕ) (queued : ℕ) (tops firsts : List ℕ) (set t : ℕ) : Type 0 where
  pub outside : get_or ready t 0 ≢ 1 → KeptIn core partitions priorities masks (take queued queue) tops firsts set
  pub inside : get_or ready t 0 ≡ 1
      → (t < 64) × Lined partitions queue queued core × Changed core partitions priorities masks (take queued queue) tops firsts set t

-- what a tick leaves: by whether the slice of the running thread t ended, the leads are right, or it left its place in the line
pub record FollowedTurn (core : ℕ) (partitions priorities masks queue : List ℕ) (queued : ℕ) (tops firsts : List ℕ) (set t : ℕ) (ended : Bool) : Type 0 where
  pub stays : ended ≡ false → KeptIn core partitions priorities masks (take queued queue) tops firsts set
  pub inside : ended ≡ true → t < 64
  pub home : ended ≡ true → get_or partitions t 0 < 16
  pub walkable : ended ≡ true → Lined partitions queue queued core
  pub moved : ended ≡ true → Left core partitions priorities masks (take queued queue) tops firsts set (get_or partitions t 0) t

-- ---- the same over the leads as they are kept, and the queue with its threads as it is lent

abbrev pub FollowedOf : List ℕ → ReadyQueue → List Lead → ℕ → Action → ℕ → ℕ → Type 0
FollowedOf ready q leads set action t p =
    Followed q.core ready q.partitions.now q.priorities.now q.masks.now q.queue.now q.queued (tops_of leads) (firsts_of leads) set action t p

abbrev pub FollowedPriorityOf : List ℕ → ReadyQueue → List Lead → ℕ → ℕ → Type 0
FollowedPriorityOf ready q leads set t =
    FollowedPriority q.core ready q.partitions.now q.priorities.now q.masks.now q.queue.now q.queued (tops_of leads) (firsts_of leads) set t

abbrev pub FollowedTurnOf : ReadyQueue → List Lead → ℕ → ℕ → Bool → Type 0
FollowedTurnOf q leads set t ended =
    FollowedTurn q.core q.partitions.now q.priorities.now q.masks.now q.queue.now q.queued (tops_of leads) (firsts_of leads) set t ended
