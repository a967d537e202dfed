-- The arrays of numbers that the program works on, and the state that they stand for.
use Rattle.std.specs.Prelude.{ℕ, ◌≡◌, Bool, true, cond, ◌&&◌, List, map, length, get_or, eqb, leb}
use Rattle.lists.specs.Lists.{all, below}
use Rattle.sheet.specs.declared.Settings.{Settings}
use Rattle.model.specs.State.{cycles, State, Thread}
use Rattle.model.specs.declared.Clock.{Clock}
use Rattle.model.specs.declared.StateMut.{StateMut}
use Rattle.model.specs.declared.StateRef.{StateRef}

-- a flag is a byte: 1 where it is on, 0 where it is off
abbrev pub flag : Bool → ℕ
flag b = cond b 1 0

-- the threads' records as they are stored: a column for each field, in which thread t has place t
pub record Columns : Type 0 where
  pub exists : List ℕ
  pub ready : List ℕ
  pub partitions : List ℕ
  pub priorities : List ℕ
  pub masks : List ℕ
  pub policies : List ℕ
  pub slices : List ℕ

abbrev pub columns : List ℕ → List ℕ → List ℕ → List ℕ → List ℕ → List ℕ → List ℕ → Columns
columns e r p n m o l = record { exists = e; ready = r; partitions = p; priorities = n; masks = m; policies = o; slices = l }

-- the columns of what is lent, to work on and to look at
abbrev pub columns_in : StateMut → Columns
columns_in x =
    columns x.exists.now x.ready.now x.partitions.now x.priorities.now x.masks.now x.policies.now x.slices.now

abbrev pub columns_seen : StateRef → Columns
columns_seen x =
    columns x.exists.now x.ready.now x.partitions.now x.priorities.now x.masks.now x.policies.now x.slices.now

-- what was lent is still lent: each reference is to the array that it was to
pub record SameLoan (x y : StateMut) : Type 0 where
  pub used : y.used.ghost_name ≡ x.used.ghost_name
  pub exists : y.exists.ghost_name ≡ x.exists.ghost_name
  pub ready : y.ready.ghost_name ≡ x.ready.ghost_name
  pub partitions : y.partitions.ghost_name ≡ x.partitions.ghost_name
  pub priorities : y.priorities.ghost_name ≡ x.priorities.ghost_name
  pub masks : y.masks.ghost_name ≡ x.masks.ghost_name
  pub policies : y.policies.ghost_name ≡ x.policies.ghost_name
  pub slices : y.slices.ghost_name ≡ x.slices.ghost_name
  pub queue : y.queue.ghost_name ≡ x.queue.ghost_name
  pub history : y.history.ghost_name ≡ x.history.ghost_name

-- the same numbers are seen
pub record Seen (x : StateMut) (y : StateRef) : Type 0 where
  pub used : y.used.now ≡ x.used.now
  pub threads : columns_seen y ≡ columns_in x
  pub queue : y.queue.now ≡ x.queue.now
  pub history : y.history.now ≡ x.history.now

-- the same with another column, or two
abbrev pub with_flag_columns : Columns → List ℕ → List ℕ → Columns
with_flag_columns ts e r = columns e r ts.partitions ts.priorities ts.masks ts.policies ts.slices

abbrev pub with_ready_column : Columns → List ℕ → Columns
with_ready_column ts r = with_flag_columns ts ts.exists r

abbrev pub with_partition_column : Columns → List ℕ → Columns
with_partition_column ts p = columns ts.exists ts.ready p ts.priorities ts.masks ts.policies ts.slices

abbrev pub with_priority_column : Columns → List ℕ → Columns
with_priority_column ts n = columns ts.exists ts.ready ts.partitions n ts.masks ts.policies ts.slices

abbrev pub with_slice_column : Columns → List ℕ → Columns
with_slice_column ts l = columns ts.exists ts.ready ts.partitions ts.priorities ts.masks ts.policies l

-- thread t's record
abbrev pub thread_in : Columns → ℕ → Thread
thread_in ts t =
    record {
      exists = eqb (get_or ts.exists t 0) 1;
      ready = eqb (get_or ts.ready t 0) 1;
      partition = get_or ts.partitions t 0;
      priority = get_or ts.priorities t 0;
      mask = get_or ts.masks t 0;
      policy = get_or ts.policies t 0;
      slice = get_or ts.slices t 0;
    }

unfoldable pub threads_in : Columns → List Thread
threads_in ts = map (thread_in ts) (below 64)

-- the state that settings c, totals u, a clock k, the threads' columns and a queue q stand for
abbrev pub state_of : Settings → List ℕ → Clock → Columns → List ℕ → State
state_of c u k ts q =
    record {
      settings = c;
      used = map cycles u;
      stamp = k.stamp;
      slot = k.slot;
      since = k.since;
      threads = threads_in ts;
      queue = q;
      queued = k.queued;
      running = k.running;
    }

-- every flag of a column is 0 or 1
unfoldable pub plain : List ℕ → Bool
plain l = all (λ t. leb (get_or l t 0) 1) (below 64)

-- each column has its 64 numbers
pub record Sized (ts : Columns) : Type 0 where
  pub exists : length ts.exists ≡ 64
  pub ready : length ts.ready ≡ 64
  pub partitions : length ts.partitions ≡ 64
  pub priorities : length ts.priorities ≡ 64
  pub masks : length ts.masks ≡ 64
  pub policies : length ts.policies ≡ 64
  pub slices : length ts.slices ≡ 64

-- every flag of the threads is 0 or 1
abbrev pub flags_fit : Columns → Bool
flags_fit ts = plain ts.exists && plain ts.ready

-- both
pub record Regular (ts : Columns) : Type 0 where
  pub sized : Sized ts
  pub flags : flags_fit ts ≡ true

-- what the actions of events work on: the threads and the ready queue
pub record Tables : Type 0 where
  pub threads : List Thread
  pub queue : List ℕ
  pub queued : ℕ

abbrev pub tables_in : Columns → List ℕ → ℕ → Tables
tables_in ts q k = record { threads = threads_in ts; queue = q; queued = k }

abbrev pub with_tables : State → Tables → State
with_tables s x =
    record {
      settings = s.settings;
      used = s.used;
      stamp = s.stamp;
      slot = s.slot;
      since = s.since;
      threads = x.threads;
      queue = x.queue;
      queued = x.queued;
      running = s.running;
    }
