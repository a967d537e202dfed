-- What is known where an accepted event is done, and what it leaves.
use Rattle.std.specs.Prelude.{◌≡◌, List, ℕ, ◌<◌, length}
use Rattle.units.specs.Units.{next_of}
use Rattle.sheet.specs.Settings.{W}
use Rattle.sheet.specs.declared.Settings.{Settings}
use Rattle.model.specs.declared.Clock.{Clock}
use Rattle.model.specs.declared.StateMut.{StateMut}
use Rattle.model.specs.Arrays.{Columns, columns_in, with_partition_column, Regular, state_of}
use Rattle.model.specs.Event.{stamp_of}
use Rattle.model.specs.Facts.{Accepted}
use Rattle.model.specs.Step.{Saved, saved, charge, move_slot, apply}
use Rattle.event.specs.Bytes.{bytes_of}
use Rattle.event.specs.declared.Event.{Event}
use Rattle.accounts.specs.Charged.{Payable, Charged}
use Rattle.accounts.specs.Lowered as Slots
use Rattle.decision.specs.Leads.{tops_of, firsts_of}
use Rattle.decision.specs.Upkeep.{HeldBy}
use Rattle.decision.specs.declared.kept.Cache.{Cache}
use Rattle.decision.specs.declared.kept.Sets.{Sets}

-- an accepted event, and what is kept
pub record Ready (c : Settings) (u : List ℕ) (k : Clock) (ts : Columns) (q h budgets tops firsts : List ℕ) (sets : Sets) (x : Event) : Type 0 where
  pub sixteen : length u ≡ 16
  pub shares : length c.shares ≡ 16
  pub sizes : Regular ts
  pub full : length q ≡ 64
  pub accepted : Accepted (state_of c u k ts q) h (bytes_of x)
  pub stamped : x.stamp ≡ stamp_of (bytes_of x)
  pub held : HeldBy c u k ts q budgets tops firsts sets

-- the model's two steps were done, and what is kept follows
pub record Applied (c : Settings) (v : Saved) (u : List ℕ) (k : Clock) (ts : Columns) (q h budgets tops firsts : List ℕ) (sets : Sets) (b : List ℕ) : Type 0 where
  pub state : saved (state_of c u k ts q) h ≡ apply v b
  pub sizes : Regular ts
  pub held : HeldBy c u k ts q budgets tops firsts sets

-- a tick's charge can be done, and after any charge the move
pub record Ticking (c : Settings) (u : List ℕ) (k : Clock) (p h : List ℕ) (stamp : ℕ) : Type 0 where
  pub payable : Payable c u k p h stamp
  pub movable : (u' : List ℕ) (k' : Clock) (h' : List ℕ) → Charged c u k p h u' k' h' stamp
      → (k'.slot.0 < W c) × Slots.Covered u' h' (W c) c.count (next_of k'.slot.0 (W c))

abbrev pub Ticked : Settings → List ℕ → Clock → List ℕ → List ℕ → List ℕ → Clock → List ℕ → ℕ → Type 0
Ticked c u k p h u' k' h' stamp =
    (ts : Columns) (q : List ℕ)
    → saved (state_of c u' k' (with_partition_column ts p) q) h' ≡ move_slot (charge (saved (state_of c u k (with_partition_column ts p) q) h) stamp)

-- ---- the same of what is lent, and of what is kept beside it

-- the state and the history that is lent, under a clock
abbrev pub saved_of : Settings → StateMut → Clock → Saved
saved_of c x k = saved (state_of c x.used.now k (columns_in x) x.queue.now) x.history.now

abbrev pub ReadyIn : Settings → StateMut → Clock → Cache → Event → Type 0
ReadyIn c x k cache e =
    Ready c x.used.now k (columns_in x) x.queue.now x.history.now cache.budgets (tops_of cache.leads) (firsts_of cache.leads) cache.sets e

abbrev pub AppliedIn : Settings → Saved → StateMut → Clock → Cache → List ℕ → Type 0
AppliedIn c v x k cache b =
    Applied c v x.used.now k (columns_in x) x.queue.now x.history.now cache.budgets (tops_of cache.leads) (firsts_of cache.leads) cache.sets b
