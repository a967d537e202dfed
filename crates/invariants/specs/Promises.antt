-- What is proved of the model beside the demands on lists of events (Ledger, Demand3): soundness is kept, what the decision is, and that ties
-- cause no switches.
use Rattle.std.specs.Prelude.{ℕ, ◌≤◌, ◌<◌, ◌≢◌, ◌⊎◌, ◌≡◌, Bool, true, false, ◌&&◌, List, [], ◌∷◌, ◌++◌, length, drop, eqb}
use Rattle.std.proofs.Math.Option.{Option, some}
use Rattle.lists.specs.Lists.{member}
use Rattle.units.specs.declared.Comparison.TheVariants.{Better}
use Rattle.sheet.specs.Sheet.{settings_of}
use Rattle.model.specs.State.{thread, queue_of, allows, idle, used, wanted, State, may_run}
use Rattle.model.specs.Typed.{Lengths, Words, Bytes, Typed}
use Rattle.model.specs.Policy.{Decided, competing, has_budget, idle_mode, mode, compare, decide}
use Rattle.model.specs.Choices.{Ordered, before, StrictWeak, Won}
use Rattle.model.specs.Sound.{sound}
use Rattle.model.specs.Event.{refused_state}
use Rattle.model.specs.Step.{Saved, Answer, billed, favoured, answer}
use Rattle.model.specs.Run.{fresh, after}
use Rattle.model.specs.Doors.{refused_start}

-- ---- soundness

-- a state and a history that every door takes: its settings within their limits, its history long enough, its state sound
pub record Taken (v : Saved) : Type 0 where
  pub typed : Typed v.state v.history
  pub taken : refused_state v.state v.history ≡ 0

-- events are lists of bytes
abbrev pub AllBytes : List (List ℕ) → Type 0
AllBytes [] = Unit {0}
AllBytes (b ∷ bs) = Bytes b × AllBytes bs

-- a fresh start is taken, and every event, accepted or refused, keeps it so
abbrev pub Starts : Type 0
Starts = (sheet h : List ℕ) → Words h → refused_start sheet h ≡ 0 → Taken (fresh (settings_of sheet) h)

abbrev pub Keeps : Type 0
Keeps = (v : Saved) (b : List ℕ) → Taken v → Bytes b → Taken (answer v b).after

-- "A run of many events may check this once"
abbrev pub RunKeeps : Type 0
RunKeeps = (v : Saved) (bs : List (List ℕ)) → Taken v → AllBytes bs → Taken (after v bs)

-- "Numbers after the last row are never touched"; settings and the history's length never change
abbrev pub Untouched : Type 0
Untouched =
    (v : Saved) (b : List ℕ) → Taken v →
    (drop (wanted v.state) (answer v b).after.history ≡ drop (wanted v.state) v.history)
    × (length (answer v b).after.history ≡ length v.history)
    × ((answer v b).after.state.settings ≡ v.state.settings)

-- used(p) is "At most 799,920,000"
abbrev pub TotalsFit : Type 0
TotalsFit = (v : Saved) → Taken v → (p : ℕ) → p < v.state.settings.count → used v.state p ≤ 799920000

-- ---- the decision

-- a queued thread that this core may run
pub record Allowed (s : State) (t : ℕ) : Type 0 where
  pub queued : member t (queue_of s) ≡ true
  pub allowed : allows (thread s t).mask s.settings.core ≡ true

abbrev pub NoneAllowed : State → Type 0
NoneAllowed s = (t : ℕ) → Allowed s t → ⊥

-- "Idle answers partition 0, thread 255"
abbrev pub idle_decision : Decided
idle_decision = record { mode = idle_mode; partition = 0; thread = idle }

-- idle exactly where no queued thread is allowed on this core; mode 0 alone, and thread 255 alone, say so. Whichever partition f is favoured
pub record IdleExactly (s : State) (f : Option ℕ) : Type 0 where
  pub when : NoneAllowed s → decide s f ≡ idle_decision
  pub by_mode : (decide s f).mode ≡ idle_mode → NoneAllowed s
  pub by_thread : (decide s f).thread ≡ idle → NoneAllowed s

abbrev pub Idles : Type 0
Idles = (s : State) (h : List ℕ) → sound s h ≡ true → (f : Option ℕ) → IdleExactly s f

-- "The comparison of two partitions shall say better, worse or equal": in each mode it is an order with ties
abbrev pub Compares : Type 0
Compares = (s : State) (m : ℕ) → Ordered (compare s m)

-- and "comes before" a strict weak order, so that there is a best
abbrev pub Orders : Type 0
Orders = (s : State) (m : ℕ) → StrictWeak (before s m)

-- l has t at a place before which the test holds of none
pub record FirstOf (test : ℕ → Bool) (l : List ℕ) (t : ℕ) : Type 0 where
  pub earlier : List ℕ
  pub later : List ℕ
  pub split : l ≡ earlier ++ (t ∷ later)
  pub holds : test t ≡ true
  pub not_earlier : (u : ℕ) → member u earlier ≡ true → test u ≡ false

-- thread t is one of partition p's that this core may run
abbrev pub runs_for : State → ℕ → ℕ → Bool
runs_for s p t = may_run (thread s t).partition (thread s t).mask p s.settings.core

-- "the first in the line with the top priority among threads this core may run"
pub record Choice (s : State) (p t : ℕ) : Type 0 where
  pub place : FirstOf (λ u. runs_for s p u && eqb (thread s u).priority (thread s t).priority) (queue_of s) t
  pub top : (u : ℕ) → member u (queue_of s) ≡ true → runs_for s p u ≡ true → (thread s u).priority ≤ (thread s t).priority

-- what a decision is that chooses a thread, where f is favoured
pub record Busy (s : State) (f : Option ℕ) (d : Decided) : Type 0 where
  pub mode_is : d.mode ≡ mode s
  pub mode_busy : d.mode ≢ idle_mode
  pub won : Won s f s.settings.count d.partition
  pub choice : Choice s d.partition d.thread

abbrev pub Chooses : Type 0
Chooses = (s : State) (h : List ℕ) → sound s h ≡ true → (f : Option ℕ) (t : ℕ) → Allowed s t → Busy s f (decide s f)

-- and there is only one such
abbrev pub ChoosesOne : Type 0
ChoosesOne = (s : State) (f : Option ℕ) (d e : Decided) → Busy s f d → Busy s f e → d ≡ e

-- where a partition that competes has budget, the one chosen has budget
abbrev pub BudgetFirst : Type 0
BudgetFirst =
    (s : State) (h : List ℕ) → sound s h ≡ true → (f : Option ℕ) (p : ℕ) → p < s.settings.count → competing s p ≡ true →
    has_budget s p ≡ true → ((decide s f).mode ≢ idle_mode) × (has_budget s (decide s f).partition ≡ true)

-- ---- ties: what request (iii) of document 02 promises, "Ties stop causing switches". Both promises are of every accepted event, from any state
-- that the event door takes: that it takes the state is not asked, an accepted event shows it. The lengths are those of every state that
-- arrays of these types stand for

-- the doors take the state that the answer a leaves, and there the decision, with the partition of its running thread favoured, is a's
pub record Repeated (a : Answer) : Type 0 where
  pub taken : refused_state a.after.state a.after.history ≡ 0
  pub decision : decide a.after.state (favoured a.after.state) ≡ a.decision

-- "The decision door takes the state's running thread for it": on the state that an accepted event left it repeats that event's answer
abbrev pub Repeats : Type 0
Repeats = (v : Saved) → Lengths v.state → (b : List ℕ) → (answer v b).refusal ≡ 0 → Repeated (answer v b)

-- in the state s, q comes strictly before p, or p no longer competes
abbrev pub GivesWay : State → ℕ → ℕ → Type 0
GivesWay s p q = (compare s (mode s) q p ≡ Better) ⊎ (competing s p ≡ false)

-- the processor works for the partition that is billed: an accepted event moves it from p to another one, q, only where p gives way to q in the
-- state that the event left; and q is the one that the answer names
abbrev pub Switches : Type 0
Switches =
    (v : Saved) → Lengths v.state → (b : List ℕ) → (answer v b).refusal ≡ 0 → (p q : ℕ) →
    billed v.state ≡ some p → billed (answer v b).after.state ≡ some q → p ≢ q →
    ((answer v b).decision.partition ≡ q) × GivesWay (answer v b).after.state p q
