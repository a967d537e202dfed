-- Equal threads take turns, as the calls of the event door show it.
use mathlib.Core.Logic.{◌≢◌}
use mathlib.Core.Path.{◌≡◌, sym, subst}
use Prim.Native.Nat.{ℕ}
use mathlib.Core.Bool.{true}
use mathlib.Core.List.{List, [], ◌∷◌}
use native.Mathlib.Omega.{arith}
use Rattle.model.specs.State.{thread, State}
use Rattle.model.specs.Slices.{full_slice}
use Rattle.model.specs.Policy.{chosen}
use Rattle.model.specs.Step.{Answer}
use Rattle.model.specs.Run.{Entry, after}
use Rattle.model.specs.Lent.{Lent, state_in, saved_in}
use Rattle.guarantee.specs.Turns.{stays_ready, ticks_before, FoundAtMost}
use Rattle.guarantee.proofs.Turns.{slice_ends, takes_turns}
use Rattle.sessions.specs.Calls.{Call, left_by, given_to}
use Rattle.sessions.specs.Turns.{DoorSliceEnds, DoorTakesTurns}
use Rattle.sessions.proofs.Calls.{last_call, taken_call, call_is, call_accepted, lengths, not_refused, calls_are_run}

pub door_slice_ends : DoorSliceEnds
unfolding after
door_slice_ends x calls c q k yes_line t u on over m =
    let y : Lent = left_by x calls in
    let a = last_call x calls c q in
    subst (λ (w : Answer). (chosen w.after.state (thread (state_in y) t).partition ≢ t) × (w.decision.thread ≢ t)) (sym (call_is y c a yes_line))
    (slice_ends (saved_in y) (lengths y a.sizes) (not_refused y (taken_call y c a yes_line)) [] c.bytes k (call_accepted y c a yes_line) t u on over m)

-- no call, no tick
none : (n : ℕ) (s : State) (t u : ℕ) → FoundAtMost n s t u []
unfolding ticks_before
none n s t u = record { until_chosen = omega arith; until_running = omega arith }

pub door_takes_turns : DoorTakesTurns
door_takes_turns x [] q z t u m p a b = (none full_slice (state_in x) t u, none (thread (state_in x) t).slice (state_in x) t u)
door_takes_turns x (c ∷ cs) q z t u m p a b =
    let calls : List Call = c ∷ cs in
    let es = (calls_are_run x calls q z).0.entries in
    subst (λ (l : List Entry). FoundAtMost full_slice (state_in x) t u l × FoundAtMost (thread (state_in x) t).slice (state_in x) t u l) (sym es)
    (takes_turns (saved_in x) (lengths x q.0.sizes) (not_refused x z) (given_to calls) t u m p
    (subst (λ (l : List Entry). stays_ready (thread (state_in x) t).priority t l ≡ true) es a)
    (subst (λ (l : List Entry). stays_ready (thread (state_in x) t).priority u l ≡ true) es b))
