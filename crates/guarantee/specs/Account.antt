-- DEMAND 2, the account: what the sheet's settings and the accepted events alone say of the threads, their slices, the ready queue, the
-- charges and the decision. The accepted events stand newest first; no state, history or answer goes into a definition, only into the
-- statements at the end.
use Rattle.std.specs.Prelude.{ℕ, suc, ◌+◌, ◌-◌, ◌*◌, ◌%◌, ◌<◌, ◌≡◌, false, not, cond, ◌&&◌, ◌||◌, List, [], ◌∷◌, ◌++◌, map, reverse, length, get_or, take, drop, replicate, eqb}
use Rattle.std.proofs.Math.Option.{Option, none, some}
use Rattle.lists.specs.Lists.{below, sum, keep}
use Rattle.units.specs.Units.{elapsed_of}
use Rattle.sheet.specs.Settings.{W}
use Rattle.sheet.specs.Sheet.{settings_of}
use Rattle.sheet.specs.declared.Settings.{Settings}
use Rattle.model.specs.State.{cycles, absent, thread, queue_of, idle, used, Thread, State}
use Rattle.model.specs.Slices.{counted}
use Rattle.model.specs.Policy.{Decided, idle_mode, decide}
use Rattle.model.specs.Event
use Rattle.model.specs.Event.{kind_of, thread_of, partition_of, priority_of, mask_of, policy_of, stamp_of}
use Rattle.model.specs.Step.{Saved, favoured, leaves, turned, with_ready, returned, with_priority, requeued, created}
use Rattle.model.specs.Run.{run, fresh, after}
use Rattle.model.specs.Doors.{refused_start}
use Rattle.guarantee.specs.Demand3.{accepted}
use Rattle.guarantee.specs.Ledger.{add_first, accepted_of}

-- ---- the threads and the ready queue

-- an accepted event on the record of the thread that it names
unfoldable pub record_named : List ℕ → Thread → Thread
record_named e r =
    cond (eqb (kind_of e) Event.create) (created (partition_of e) (priority_of e) (mask_of e) (policy_of e))
    (cond (eqb (kind_of e) Event.ready) (returned r)
    (cond (eqb (kind_of e) Event.block) (with_ready r false)
    (cond (eqb (kind_of e) Event.set_priority) (with_priority r (priority_of e))
    (cond (eqb (kind_of e) Event.end) absent
    r))))

-- an accepted event on the record r of thread t, where the thread `running` ran until then: "At each tick the running thread's task block
-- is counted down"
unfoldable pub record_by : List ℕ → ℕ → ℕ → Thread → Thread
record_by e running t r =
    cond (eqb (kind_of e) Event.tick) (cond (eqb running t) (counted r) r)
    (cond (eqb (thread_of e) t) (record_named e r) r)

-- an accepted event on the ready queue, where the thread `running` ran until then, and the threads had these records: at the end of its slice
-- it "goes to the tail of the line"; "ready: joins the line at its tail", "block: leaves the line", "end: leaves the line if in it"; and by a
-- set priority "a ready thread that is raised goes to the tail of the line, one that is lowered goes to its head, and one set to the priority
-- it has stays. A thread that isn't ready only changes its number"
unfoldable pub queue_by : List ℕ → ℕ → (ℕ → Thread) → List ℕ → List ℕ
queue_by e running records q =
    let r : Thread = records (thread_of e) in
    cond (eqb (kind_of e) Event.tick) (turned (records running) running q)
    (cond (eqb (kind_of e) Event.ready) (q ++ (thread_of e ∷ []))
    (cond (eqb (kind_of e) Event.block || eqb (kind_of e) Event.end) (leaves q (thread_of e))
    (cond (eqb (kind_of e) Event.set_priority) (requeued r.ready r.priority (priority_of e) (thread_of e) q)
    q)))

-- ---- the clock

-- the last accepted stamp
unfoldable pub stamp_from : List (List ℕ) → ℕ
stamp_from [] = 0
stamp_from (e ∷ es) = stamp_of e

-- the elapsed of the event e after the events es
abbrev pub elapsed_from : List (List ℕ) → List ℕ → ℕ
elapsed_from es e = elapsed_of (stamp_of e) (stamp_from es)

-- the time since the last tick or resume
unfoldable pub since_from : List (List ℕ) → ℕ
since_from [] = 0
since_from (e ∷ es) = cond (eqb (kind_of e) Event.tick || eqb (kind_of e) Event.resume) 0 (since_from es + elapsed_from es e)

-- the ticks since the last resume; each moves to the next slot, of which there are W
unfoldable pub ticks_from : List (List ℕ) → ℕ
ticks_from [] = 0
ticks_from (e ∷ es) = cond (eqb (kind_of e) Event.resume) 0 (cond (eqb (kind_of e) Event.tick) (suc (ticks_from es)) (ticks_from es))

abbrev pub slot_from : Settings → List (List ℕ) → ℕ
slot_from c es = ticks_from es % W c

-- ---- the decision and the charges

-- what a decision looks at beside the favoured partition: settings c, threads' records, a ready queue, totals. The rest of a state is zero
-- here: no decision looks at it
abbrev pub picture : Settings → (ℕ → Thread) → List ℕ → (ℕ → ℕ) → State
picture c threads queue totals =
    record {
      settings = c;
      used = map (λ p. cycles (totals p)) (below 16);
      stamp = 0;
      slot = record { 0 = 0 };
      since = cycles 0;
      threads = map threads (below 64);
      queue = queue ++ replicate (64 - length queue) 0;
      queued = length queue;
      running = idle;
    }

-- "what was charged to p in the present tick and the W − 1 before it", from its charges in each tick period, newest first
abbrev pub in_window : Settings → List ℕ → ℕ
in_window c periods = sum (take (W c) periods)

-- the favoured partition of the next decision: the one of which the decision d chose a thread, which runs until the next event
abbrev pub favoured_after : Decided → Option ℕ
favoured_after d = cond (eqb d.mode idle_mode) none (some d.partition)

-- x, if the decision d chose a thread of p; "idle time goes to no account"
unfoldable pub charge_by : Decided → ℕ → ℕ → ℕ
charge_by d p x = cond (not (eqb d.mode idle_mode) && eqb d.partition p) x 0

-- a partition's charges in each tick period, newest first, after the accepted event e, which charges x to it: a tick is charged to the
-- period that it ends, and opens a new one; a resume starts over
unfoldable pub periods_by : List ℕ → ℕ → List ℕ → List ℕ
periods_by e x ys =
    cond (eqb (kind_of e) Event.resume) (0 ∷ [])
    (cond (eqb (kind_of e) Event.tick) (0 ∷ add_first x ys)
    (add_first x ys))

-- ---- the account, one recursion over the list: who ran until an event decides who is charged, at a tick whose slice is counted, and which
-- partition is favoured; with that the records, the queue and the charges after it give the next decision

pub record Standing : Type 0 where
  -- the threads' records, their slices in them
  pub records : ℕ → Thread
  pub queue : List ℕ
  -- what each partition was charged in each tick period since the last resume, newest first
  pub periods : ℕ → List ℕ
  -- the partition that is favoured in the decision
  pub favoured : Option ℕ

unfoldable pub decision_of : Settings → Standing → Decided
decision_of c a = decide (picture c a.records a.queue (λ p. in_window c (a.periods p))) a.favoured

-- the accepted event e, whose elapsed is x, after the decision d
unfoldable pub standing_by : List ℕ → Decided → ℕ → Standing → Standing
standing_by e d x a =
    record {
      records = λ t. record_by e d.thread t (a.records t);
      queue = queue_by e d.thread a.records a.queue;
      periods = λ p. periods_by e (charge_by d p x) (a.periods p);
      favoured = favoured_after d;
    }

unfoldable pub standing : Settings → List (List ℕ) → Standing
standing c [] = record { records = λ t. absent; queue = []; periods = λ p. 0 ∷ []; favoured = none }
standing c (e ∷ es) = standing_by e (decision_of c (standing c es)) (elapsed_from es e) (standing c es)

-- what it says of each thread, the queue, each partition and the decision
abbrev pub record_from : Settings → List (List ℕ) → ℕ → Thread
record_from c es = (standing c es).records

abbrev pub queue_after : Settings → List (List ℕ) → List ℕ
queue_after c es = (standing c es).queue

abbrev pub periods_from : Settings → List (List ℕ) → ℕ → List ℕ
periods_from c es = (standing c es).periods

abbrev pub favoured_from : Settings → List (List ℕ) → Option ℕ
favoured_from c es = (standing c es).favoured

abbrev pub used_from : Settings → List (List ℕ) → ℕ → ℕ
used_from c es p = in_window c (periods_from c es p)

abbrev pub decision_from : Settings → List (List ℕ) → Decided
decision_from c es = decision_of c (standing c es)

-- the decisions after each of the accepted events bs, oldest first, which follow es
unfoldable pub decisions_from : Settings → List (List ℕ) → List (List ℕ) → List Decided
decisions_from c es [] = []
decisions_from c es (b ∷ bs) = decision_from c (b ∷ es) ∷ decisions_from c (b ∷ es) bs

-- how many ticks ago slot k was the current one
abbrev pub age_of : Settings → List (List ℕ) → ℕ → ℕ
age_of c es k = (slot_from c es + W c - k) % W c

-- ---- the statements

-- a state and a history are those of the account of the events es; `lent` is the history as it was lent
pub record Accounted (c : Settings) (lent : List ℕ) (es : List (List ℕ)) (v : Saved) : Type 0 where
  pub settings : v.state.settings ≡ c
  pub threads : (t : ℕ) → thread v.state t ≡ record_from c es t
  pub queue : queue_of v.state ≡ queue_after c es
  pub stamp : v.state.stamp ≡ stamp_from es
  pub since : v.state.since.0 ≡ since_from es
  pub slot : v.state.slot.0 ≡ slot_from c es
  pub totals : (p : ℕ) → used v.state p ≡ used_from c es p
  -- partition p's number for slot k is what it was charged in the tick period of that slot
  pub history : (p k : ℕ) → p < c.count → k < W c → get_or v.history (p * W c + k) 0 ≡ get_or (periods_from c es p) (age_of c es k) 0
  pub past : drop (c.count * W c) v.history ≡ drop (c.count * W c) lent
  pub size : length v.history ≡ length lent
  -- what the decision door answers
  pub decision : decide v.state (favoured v.state) ≡ decision_from c es
  pub running : v.state.running ≡ (decision_from c es).thread

-- DEMAND 2, the account: from a fresh start and after every list of events, the state and the history are those that the sheet and the accepted
-- ones of the events give
abbrev pub Account : Type 0
Account =
    (sheet h : List ℕ) → refused_start sheet h ≡ 0 → (events : List (List ℕ)) →
    Accounted (settings_of sheet) h (reverse (accepted_of (fresh (settings_of sheet) h) events)) (after (fresh (settings_of sheet) h) events)

-- DEMAND 2, the answers: mode, partition and thread of every answer to an accepted event are a function of the sheet and the accepted events
abbrev pub Answers : Type 0
Answers =
    (sheet h : List ℕ) → refused_start sheet h ≡ 0 → (events : List (List ℕ)) →
    map (λ e. e.answer.decision) (keep accepted (run (fresh (settings_of sheet) h) events))
    ≡ decisions_from (settings_of sheet) [] (accepted_of (fresh (settings_of sheet) h) events)
