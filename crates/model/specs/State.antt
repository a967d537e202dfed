-- The scheduler's state on one core, beside the lent history, as document 01 speaks of it, free of how it is stored (Arrays says what stands for
-- it); and its views: threads, the ready queue, the rows of the history.
use Rattle.std.specs.Prelude.{ℕ, ◌+◌, ◌*◌, ◌/◌, ◌%◌, ◌^◌, Bool, false, ◌&&◌, List, get_or, take, drop, eqb}
use Rattle.sheet.specs.Settings.{W}
use Rattle.units.specs.declared.Cycles.{Cycles}
use Rattle.units.specs.declared.Ticks.{Ticks}
use Rattle.sheet.specs.declared.Settings.{Settings}

-- "threads, each with a partition, a priority 0 to 255 and a run mask of 8 bits, one a core"; since request (i) of document 02 with a policy,
-- and with the ticks left of its slice
pub record Thread : Type 0 where
  pub exists : Bool
  pub ready : Bool
  pub partition : ℕ
  pub priority : ℕ
  pub mask : ℕ
  pub policy : ℕ
  pub slice : ℕ

pub record State : Type 0 where
  pub settings : Settings
  -- the paper's totals, used(p)
  pub used : List Cycles
  -- the stamp of the last accepted event, the current slot, the time since tick
  pub stamp : ℕ
  pub slot : Ticks
  pub since : Cycles
  pub threads : List Thread
  -- the ready queue, the paper's line, with zeros after its first `queued` entries
  pub queue : List ℕ
  pub queued : ℕ
  -- the running thread, 255 while idle
  pub running : ℕ

-- the record of a thread that does not exist
abbrev pub absent : Thread
absent = record { exists = false; ready = false; partition = 0; priority = 0; mask = 0; policy = 0; slice = 0 }

abbrev pub thread : State → ℕ → Thread
thread s t = get_or s.threads t absent

-- "The line holds every ready thread, the running one included, in order of becoming ready", or of having gone to its tail or its head: the ready
-- queue
abbrev pub queue_of : State → List ℕ
queue_of s = take s.queued s.queue

abbrev pub cycles : ℕ → Cycles
cycles n = record { 0 = n }

-- the run mask has the bit of core m
unfoldable pub allows : ℕ → ℕ → Bool
allows mask m = eqb (mask / 2 ^ m % 2) 1

-- a thread of this partition and this mask is one of p's that core m may run
abbrev pub may_run : ℕ → ℕ → ℕ → ℕ → Bool
may_run partition mask p m = eqb partition p && allows mask m

-- "Idle answers partition 0, thread 255"
abbrev pub idle : ℕ
idle = 255

-- the total of partition p
abbrev pub used : State → ℕ → ℕ
used s p = (get_or s.used p (record { 0 = 0 })).0

-- "partition p's row is the W numbers from place p × W": the place of its number for slot k
abbrev pub place : State → ℕ → ℕ → ℕ
place s p k = p * W s.settings + k

-- partition p's row
abbrev pub row : State → List ℕ → ℕ → List ℕ
row s h p = take (W s.settings) (drop (p * W s.settings) h)

-- how many numbers the history must have
abbrev pub wanted : State → ℕ
wanted s = s.settings.count * W s.settings
