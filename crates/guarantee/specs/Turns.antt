-- What request (i) of document 02 promises of equal threads ("Two screen threads share priority 10 and the first never lets go"): they take
-- turns. Both promises are of every list of events, accepted and refused, from any state that the event door takes, and what a list of events
-- leaves is such a state (`RunKeeps`). The lengths that they name are those of every state that arrays of these types stand for.
use Rattle.std.specs.Prelude.{ℕ, ◌+◌, ◌≤◌, ◌≢◌, ◌≡◌, Bool, true, not, cond, ◌&&◌, ◌||◌, List, [], ◌∷◌, eqb}
use Rattle.lists.specs.Lists.{all}
use Rattle.model.specs.State.{thread, State}
use Rattle.model.specs.Slices.{round_robin, full_slice, ends}
use Rattle.model.specs.Policy.{chosen}
use Rattle.model.specs.Typed.{Lengths}
use Rattle.model.specs.Event
use Rattle.model.specs.Event.{kind_of, thread_of, priority_of, refused_state}
use Rattle.model.specs.Step.{Saved, answer}
use Rattle.model.specs.Run.{Entry, run, after}
use Rattle.invariants.specs.Promises.{Allowed}
use Rattle.guarantee.specs.Demand3.{accepted, is_kind}

-- two ready threads of one partition and one priority, both allowed on this core
pub record Equals (s : State) (t u : ℕ) : Type 0 where
  pub two : t ≢ u
  pub one : Allowed s t
  pub other : Allowed s u
  pub partition : (thread s u).partition ≡ (thread s t).partition
  pub priority : (thread s u).priority ≡ (thread s t).priority

-- THE END OF A SLICE, "at zero the slice is refilled and the thread goes to the tail of the line, before the decision": where, after any list
-- of events, an accepted tick ends the slice of the running thread and another thread is its equal, the thread that its partition would run
-- next is not the one whose slice ended, and neither is the one that the decision names
abbrev pub SliceEnds : Type 0
SliceEnds =
    (v : Saved) → Lengths v.state → refused_state v.state v.history ≡ 0 → (events : List (List ℕ)) →
    let x : Saved = after v events in
    (b : List ℕ) → kind_of b ≡ Event.tick → (answer x b).refusal ≡ 0 →
    (t u : ℕ) → x.state.running ≡ t → ends (thread x.state t) ≡ true → Equals x.state t u →
    (chosen (answer x b).after.state (thread x.state t).partition ≢ t) × ((answer x b).decision.thread ≢ t)

-- ---- over lists of events

-- the event leaves the ready thread t ready, at the priority n that it has: it does not block or end it, nor set another priority
unfoldable pub keeps_ready : ℕ → ℕ → List ℕ → Bool
keeps_ready n t b =
    not (eqb (thread_of b) t
    && (eqb (kind_of b) Event.block || eqb (kind_of b) Event.end || (eqb (kind_of b) Event.set_priority && not (eqb (priority_of b) n))))

-- so does every accepted one of es
unfoldable pub stays_ready : ℕ → ℕ → List Entry → Bool
stays_ready n t es = all (λ e. not (accepted e) || keeps_ready n t e.event) es

-- how many accepted ticks of es find t running before a state of which the test holds; s is the state before es
unfoldable pub ticks_before : (State → Bool) → ℕ → State → List Entry → ℕ
ticks_before test t s [] = 0
ticks_before test t s (e ∷ es) =
    cond (test s) 0 (cond (is_kind Event.tick e && eqb s.running t) 1 0 + ticks_before test t e.answer.after.state es)

-- u is the thread that its partition would run; u runs
abbrev pub is_chosen : ℕ → State → Bool
is_chosen u s = eqb (chosen s (thread s u).partition) u

abbrev pub is_running : ℕ → State → Bool
is_running u s = eqb s.running u

-- at most n accepted ticks of es find t running before u is the thread that their partition would run; and no more before u runs, which may
-- be later: another partition may have the processor
pub record FoundAtMost (n : ℕ) (s : State) (t u : ℕ) (es : List Entry) : Type 0 where
  pub until_chosen : ticks_before (is_chosen u) t s es ≤ n
  pub until_running : ticks_before (is_running u) t s es ≤ n

-- TAKING TURNS, "A round-robin thread gets a slice of 4 ticks": while two equals stay ready at one priority, a round-robin one of them is found
-- running by at most 4 ticks before the other one's turn; by no more than were left of its slice
abbrev pub TakesTurns : Type 0
TakesTurns =
    (v : Saved) → Lengths v.state → refused_state v.state v.history ≡ 0 → (events : List (List ℕ)) (t u : ℕ) →
    Equals v.state t u → (thread v.state t).policy ≡ round_robin →
    stays_ready (thread v.state t).priority t (run v events) ≡ true → stays_ready (thread v.state t).priority u (run v events) ≡ true →
    FoundAtMost full_slice v.state t u (run v events) × FoundAtMost (thread v.state t).slice v.state t u (run v events)
