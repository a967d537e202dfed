-- What an accepted event does, in order ("Charging and the window" of document 01): the charge, the action of its kind, a new decision.
use Rattle.std.specs.Prelude.{ℕ, suc, zero, ◌+◌, ◌-◌, ◌*◌, Bool, true, false, not, cond, List, [], ◌∷◌, ◌++◌, length, get_or, set, drop, replicate, eqb, ltb}
use Rattle.std.proofs.Math.Option.{Option, none, some}
use Rattle.lists.specs.Lists.{keep}
use Rattle.units.specs.Units.{elapsed_of, next_of}
use Rattle.sheet.specs.Settings.{W}
use Rattle.model.specs.State.{cycles, absent, thread, queue_of, idle, used, place, wanted, Thread, State}
use Rattle.model.specs.Slices.{slice_for, with_slice, counted, ends}
use Rattle.model.specs.Policy.{Decided, decide}
use Rattle.model.specs.Event.{kind_of, thread_of, partition_of, priority_of, mask_of, policy_of, stamp_of, tick, create, ready, block, set_priority, end, resume, refused}
use Rattle.units.specs.declared.Cycles.{Cycles}

-- a state beside its history
pub record Saved : Type 0 where
  pub state : State
  pub history : List ℕ

abbrev pub saved : State → List ℕ → Saved
saved s h = record { state = s; history = h }

-- the state with other clock fields
abbrev pub with_clock : State → ℕ → ℕ → ℕ → State
with_clock s stamp slot since =
    record {
      settings = s.settings;
      used = s.used;
      stamp = stamp;
      slot = record { 0 = slot };
      since = cycles since;
      threads = s.threads;
      queue = s.queue;
      queued = s.queued;
      running = s.running;
    }

abbrev pub with_used : State → List Cycles → State
with_used s u =
    record {
      settings = s.settings;
      used = u;
      stamp = s.stamp;
      slot = s.slot;
      since = s.since;
      threads = s.threads;
      queue = s.queue;
      queued = s.queued;
      running = s.running;
    }

abbrev pub with_thread : State → ℕ → Thread → State
with_thread s t r =
    record {
      settings = s.settings;
      used = s.used;
      stamp = s.stamp;
      slot = s.slot;
      since = s.since;
      threads = set s.threads t r;
      queue = s.queue;
      queued = s.queued;
      running = s.running;
    }

-- the state whose queue is the given list, with zeros after it
abbrev pub with_queue : State → List ℕ → State
with_queue s ts =
    record {
      settings = s.settings;
      used = s.used;
      stamp = s.stamp;
      slot = s.slot;
      since = s.since;
      threads = s.threads;
      queue = ts ++ replicate (64 - length ts) 0;
      queued = length ts;
      running = s.running;
    }

abbrev pub with_running : State → ℕ → State
with_running s t =
    record {
      settings = s.settings;
      used = s.used;
      stamp = s.stamp;
      slot = s.slot;
      since = s.since;
      threads = s.threads;
      queue = s.queue;
      queued = s.queued;
      running = t;
    }

-- the partition that is charged: that of the running thread; "idle time goes to no account"
unfoldable pub billed : State → Option ℕ
billed s = cond (eqb s.running idle) none (some (thread s s.running).partition)

-- the favoured partition: "the partition for which the thread running until this event was working when the event came", which is the one
-- that is charged; none where the processor idled
abbrev pub favoured : State → Option ℕ
favoured s = billed s

-- the totals, and the history, with e more for a partition in the current slot
unfoldable pub add_used : State → Option ℕ → ℕ → List Cycles
add_used s none e = s.used
add_used s (some p) e = set s.used p (cycles (used s p + e))

unfoldable pub add_history : State → Option ℕ → ℕ → List ℕ → List ℕ
add_history s none e h = h
add_history s (some p) e h = set h (place s p s.slot.0) (get_or h (place s p s.slot.0) 0 + e)

-- 1. "Elapsed is charged to the running thread's partition in the current slot .. It is added to the time since tick, and the event's stamp is
-- the old one for the next event"
unfoldable pub charge : Saved → ℕ → Saved
charge v stamp =
    let s : State = v.state in
    let e : ℕ = elapsed_of stamp s.stamp in
    saved
    (with_clock (with_used s (add_used s (billed s) e)) stamp s.slot.0 (s.since.0 + e))
    (add_history s (billed s) e v.history)

-- the next slot
abbrev pub next : State → ℕ
next s = next_of s.slot.0 (W s.settings)

-- slot k of rows of w numbers is cleared for every partition below n
unfoldable pub clear_history : ℕ → ℕ → ℕ → List ℕ → List ℕ
clear_history w k zero h = h
clear_history w k (suc p) h = set (clear_history w k p h) (p * w + k) 0

-- and the totals u are lowered by what stood there
unfoldable pub lower_used : ℕ → ℕ → ℕ → List Cycles → List ℕ → List Cycles
lower_used w k zero u h = u
lower_used w k (suc p) u h = set (lower_used w k p u h) p (cycles ((get_or u p (cycles 0)).0 - get_or h (p * w + k) 0))

-- 2, a tick: "moves to the next slot, clears it for every partition and sets the time since tick to 0"
unfoldable pub move_slot : Saved → Saved
move_slot v =
    let s : State = v.state in
    let h : List ℕ = v.history in
    saved
    (with_clock (with_used s (lower_used (W s.settings) (next s) s.settings.count s.used h)) s.stamp (next s) 0)
    (clear_history (W s.settings) (next s) s.settings.count h)

-- the queue without thread t
unfoldable pub leaves : List ℕ → ℕ → List ℕ
leaves ts t = keep (λ u. not (eqb u t)) ts

-- the queue with thread t at its tail, and at its head
abbrev pub to_tail : List ℕ → ℕ → List ℕ
to_tail ts t = leaves ts t ++ (t ∷ [])

abbrev pub to_head : List ℕ → ℕ → List ℕ
to_head ts t = t ∷ leaves ts t

-- the queue after a tick that found the thread t, of the record r, running: "at zero .. the thread goes to the tail of the line"
unfoldable pub turned : Thread → ℕ → List ℕ → List ℕ
turned r t ts = cond (ends r) (to_tail ts t) ts

-- 2, a tick, to the running thread t: "the running thread's task block is counted down and its state changed, if it is round robin; at
-- zero the slice is refilled and the thread goes to the tail of the line, before the decision". While idle there is no such thread, its
-- record is `absent`, and nothing changes
unfoldable pub sliced : State → ℕ → State
sliced s t = with_queue (with_thread s t (counted (thread s t))) (turned (thread s t) t (queue_of s))

abbrev pub with_ready : Thread → Bool → Thread
with_ready r on =
    record { exists = r.exists; ready = on; partition = r.partition; priority = r.priority; mask = r.mask; policy = r.policy; slice = r.slice }

-- ready once more: "A thread that blocks and returns has a full slice"
abbrev pub returned : Thread → Thread
returned r = with_slice (with_ready r true) (slice_for r.policy)

abbrev pub with_priority : Thread → ℕ → Thread
with_priority r n =
    record { exists = r.exists; ready = r.ready; partition = r.partition; priority = n; mask = r.mask; policy = r.policy; slice = r.slice }

-- the queue after the priority of thread t, ready or not, changes from `old` to `new`: "a ready thread that is raised goes to the tail of the
-- line, one that is lowered goes to its head, and one set to the priority it has stays. A thread that isn't ready only changes its number"
unfoldable pub requeued : Bool → ℕ → ℕ → ℕ → List ℕ → List ℕ
requeued ready old new t ts = cond ready (cond (ltb old new) (to_tail ts t) (cond (ltb new old) (to_head ts t) ts)) ts

-- a new thread, not ready, with a full slice
abbrev pub created : ℕ → ℕ → ℕ → ℕ → Thread
created p n m o = record { exists = true; ready = false; partition = p; priority = n; mask = m; policy = o; slice = slice_for o }

-- thread t joins the queue at its tail; it leaves the queue, with the record r
abbrev pub joins : State → ℕ → State
joins s t = with_queue (with_thread s t (returned (thread s t))) (queue_of s ++ (t ∷ []))

abbrev pub goes : State → ℕ → Thread → State
goes s t r = with_queue (with_thread s t r) (leaves (queue_of s) t)

-- thread t has the priority n from now on, and stands in the queue where the change puts it
abbrev pub reprioritized : State → ℕ → ℕ → State
reprioritized s t n =
    with_queue (with_thread s t (with_priority (thread s t) n)) (requeued (thread s t).ready (thread s t).priority n t (queue_of s))

-- 2, the other kinds: what each does to the threads and the ready queue
unfoldable pub act : State → List ℕ → State
act s b =
    let t : ℕ = thread_of b in
    cond (eqb (kind_of b) create) (with_thread s t (created (partition_of b) (priority_of b) (mask_of b) (policy_of b)))
    (cond (eqb (kind_of b) ready) (joins s t)
    (cond (eqb (kind_of b) block) (goes s t (with_ready (thread s t) false))
    (cond (eqb (kind_of b) set_priority) (reprioritized s t (priority_of b))
    (cond (eqb (kind_of b) end) (goes s t absent)
    s))))

-- 3. "A new decision is made, and its thread is the running one"; f is favoured
unfoldable pub settle : Option ℕ → Saved → Saved
settle f v = saved (with_running v.state (decide v.state f).thread) v.history

-- the history with every row zero; the numbers after the last row stay
abbrev pub zero_rows : State → List ℕ → List ℕ
zero_rows s h = replicate (wanted s) 0 ++ drop (wanted s) h

-- "Resume charges nothing .. It takes the stamp as it is, clears all history, sets the slot and the time since tick to 0, and keeps the
-- threads and the line"
unfoldable pub restart : Saved → ℕ → Saved
restart v stamp =
    let s : State = v.state in
    saved
    (with_clock (with_used s (replicate 16 (cycles 0))) stamp 0 0)
    (zero_rows s v.history)

-- a tick, after the charge: the slot moves, and the slice of the thread that ran until the tick is counted
abbrev pub ticked : Saved → Saved
ticked v = saved (sliced (move_slot v).state v.state.running) (move_slot v).history

-- steps 1 and 2 of an accepted event, or a resume
unfoldable pub apply : Saved → List ℕ → Saved
apply v b =
    cond (eqb (kind_of b) resume) (restart v (stamp_of b))
    (cond (eqb (kind_of b) tick) (ticked (charge v (stamp_of b)))
    (saved (act (charge v (stamp_of b)).state b) (charge v (stamp_of b)).history))

-- the answer of the event door in the paper's numbers, with the state and the history that it leaves
pub record Answer : Type 0 where
  pub refusal : ℕ
  pub decision : Decided
  pub after : Saved

abbrev pub nothing : Decided
nothing = record { mode = 0; partition = 0; thread = 0 }

-- to an accepted event, where the partition f is favoured
abbrev pub accepted_with : Option ℕ → Saved → List ℕ → Answer
accepted_with f v b = record { refusal = 0; decision = decide (apply v b).state f; after = settle f (apply v b) }

-- "A refusal returns the given state and zeros for the rest, and lent memory is as before"
abbrev pub refused_by : ℕ → Saved → Answer
refused_by n v = record { refusal = n; decision = nothing; after = v }

-- where n is the number by which the event b is refused on v, or 0. Which partition is favoured, the given state says, whatever the event does to
-- the running thread: "when the event came"; and "After a resume the same rule holds"
abbrev pub answer_by : ℕ → Saved → List ℕ → Answer
answer_by n v b = cond (eqb n 0) (accepted_with (favoured v.state) v b) (refused_by n v)

unfoldable pub answer : Saved → List ℕ → Answer
answer v b = answer_by (refused v.state v.history b) v b
