-- What `sound`, and an event that is not refused, mean as facts; proofs/Meaning and proofs/Accepted show that they mean this.
-- A record for each part of the state, over just the fields that it speaks of, so that it passes unchanged where they are unchanged.
use Rattle.std.specs.Prelude.{◌≢◌, ◌≡◌, ℕ, ◌+◌, ◌*◌, ◌≤◌, ◌<◌, true, false, List, length, get_or, take, drop, eqb}
use Rattle.lists.specs.Lists.{all, sum, total, member, distinct}
use Rattle.sheet.specs.Settings.{W, C, share, Limits}
use Rattle.model.specs.State.{absent, thread, queue_of, allows, idle, wanted, Thread, State}
use Rattle.model.specs.Slices.{round_robin, full_slice}
use Rattle.model.specs.Event
use Rattle.model.specs.Event.{kind_of, thread_of, partition_of, mask_of, policy_of, elapsed_at, well_formed}
use Rattle.units.specs.declared.Cycles.{Cycles}
use Rattle.sheet.specs.declared.Settings.{Settings}

-- partition p's number among the totals u, and its number for slot k in the history h
abbrev pub used_at : List Cycles → ℕ → ℕ
used_at u p = (get_or u p (record { 0 = 0 })).0

abbrev pub charges : Settings → List ℕ → ℕ → ℕ → ℕ
charges c h k p = get_or h (p * W c + k) 0

-- the books: slot, time since tick and totals agree with the history
pub record Books (c : Settings) (u : List Cycles) (slot since : ℕ) (h : List ℕ) : Type 0 where
  pub inside : slot < W c
  pub since_high : since ≤ 2 * C c
  pub totals : (p : ℕ) → p < c.count → used_at u p ≡ sum (take (W c) (drop (p * W c) h))
  pub slots : (k : ℕ) → k < W c → total c.count (charges c h k) ≤ 2 * C c
  pub current : total c.count (charges c h slot) ≤ since

-- nothing past the last partition
pub record Rest (c : Settings) (u : List Cycles) : Type 0 where
  pub no_share : (p : ℕ) → p < 16 → c.count ≤ p → share c p ≡ 0
  pub no_total : (p : ℕ) → p < 16 → c.count ≤ p → used_at u p ≡ 0

-- a thread's policy, and what is left of its slice
pub record SliceFits (policy slice : ℕ) : Type 0 where
  pub known : policy ≤ round_robin
  pub low : policy ≡ round_robin → 1 ≤ slice
  pub high : policy ≡ round_robin → slice ≤ full_slice
  pub none : policy ≢ round_robin → slice ≡ 0

-- a thread's record
pub record Proper (count : ℕ) (r : Thread) : Type 0 where
  pub partition : r.exists ≡ true → r.partition < count
  pub mask : r.exists ≡ true → r.mask ≢ 0
  pub slice : SliceFits r.policy r.slice
  pub none : r.exists ≡ false → r ≡ absent

abbrev pub thread_at : List Thread → ℕ → Thread
thread_at ts t = get_or ts t absent

-- the ready queue q, beside the threads' records
pub record ReadyQueue (ts : List Thread) (q : List ℕ) : Type 0 where
  pub once : distinct q ≡ true
  pub inside : (t : ℕ) → member t q ≡ true → t < 64
  pub ready : (t : ℕ) → t < 64 → (thread_at ts t).ready ≡ member t q
  pub exists : (t : ℕ) → t < 64 → (thread_at ts t).ready ≡ true → (thread_at ts t).exists ≡ true

-- and how it is stored
pub record Stored (queue : List ℕ) (queued : ℕ) : Type 0 where
  pub few : queued ≤ 64
  pub zeros : all (eqb 0) (drop queued queue) ≡ true

-- the running thread t
pub record Runs (c : Settings) (ts : List Thread) (q : List ℕ) (t : ℕ) : Type 0 where
  pub queued : t ≢ idle → member t q ≡ true
  pub allowed : t ≢ idle → allows (thread_at ts t).mask c.core ≡ true

-- all but the running thread, which the decision sets anew
pub record Settled (s : State) (h : List ℕ) : Type 0 where
  pub limits : Limits s.settings
  pub rest : Rest s.settings s.used
  pub books : Books s.settings s.used s.slot.0 s.since.0 h
  pub proper : (t : ℕ) → t < 64 → Proper s.settings.count (thread_at s.threads t)
  pub queue : ReadyQueue s.threads (queue_of s)
  pub stored : Stored s.queue s.queued

pub record Sound (s : State) (h : List ℕ) : Type 0 where
  pub settled : Settled s h
  pub runs : Runs s.settings s.threads (queue_of s) s.running

-- ---- what a door has tested

-- the state and the history are not refused
pub record Fit (s : State) (h : List ℕ) : Type 0 where
  pub room : wanted s ≤ length h
  pub sound : Sound s h

-- of the thread that an event names, where its kind names one
pub record Named (s : State) (b : List ℕ) : Type 0 where
  pub thread_inside : Event.create ≤ kind_of b → kind_of b ≤ Event.end → thread_of b < 64
  pub absent : kind_of b ≡ Event.create → (thread s (thread_of b)).exists ≡ false
  pub exists : Event.ready ≤ kind_of b → kind_of b ≤ Event.end → (thread s (thread_of b)).exists ≡ true
  pub partition_inside : kind_of b ≡ Event.create → partition_of b < s.settings.count
  pub some_core : kind_of b ≡ Event.create → mask_of b ≢ 0
  pub known_policy : kind_of b ≡ Event.create → policy_of b ≤ round_robin
  pub not_ready : kind_of b ≡ Event.ready → (thread s (thread_of b)).ready ≡ false
  pub was_ready : kind_of b ≡ Event.block → (thread s (thread_of b)).ready ≡ true

-- an accepted event
pub record Accepted (s : State) (h b : List ℕ) : Type 0 where
  pub fit : Fit s h
  pub twelve : length b ≡ 12
  pub formed : well_formed b ≡ true
  pub short : kind_of b ≢ Event.resume → s.since.0 + elapsed_at s b ≤ 2 * C s.settings
  pub named : Named s b
