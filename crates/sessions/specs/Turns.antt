-- Taking turns (request (i) of document 02), of the calls of the event door: in terms of just the bytes that were given, the lines that were
-- answered, and what was lent, as each call left it.
use Rattle.std.specs.Prelude.{ℕ, ◌≢◌, ◌≡◌, true, List, [], ◌∷◌, ◌++◌}
use Rattle.model.specs.State.{thread, State}
use Rattle.model.specs.Slices.{round_robin, full_slice, ends}
use Rattle.model.specs.Policy.{chosen}
use Rattle.model.specs.Event
use Rattle.model.specs.Event.{kind_of}
use Rattle.model.specs.Lent.{Lent, state_in, refused_in}
use Rattle.guarantee.specs.Turns.{Equals, stays_ready, FoundAtMost}
use Rattle.sessions.specs.Calls.{Call, Calls, left_by, as_entries, accepts}

-- "at zero the slice is refilled and the thread goes to the tail of the line, before the decision": where, after any calls, an accepted tick c
-- ends the slice of the running thread t and another thread is its equal, neither the thread that its partition would run next nor the one
-- that the line names is t. That what was lent is not refused is not asked: an accepted tick shows it
abbrev pub DoorSliceEnds : Type 0
DoorSliceEnds =
    (x : Lent) (calls : List Call) (c : Call) → Calls x (calls ++ (c ∷ [])) → kind_of c.bytes ≡ Event.tick → accepts c ≡ true →
    let s : State = state_in (left_by x calls) in
    (t u : ℕ) → s.running ≡ t → ends (thread s t) ≡ true → Equals s t u →
    (chosen (state_in c.left) (thread s t).partition ≢ t) × (c.line.thread ≢ t)

-- "A round-robin thread gets a slice of 4 ticks": while two equals stay ready at one priority, a round-robin one of them is found running by at
-- most 4 ticks before the other one's turn; by no more than were left of its slice
abbrev pub DoorTakesTurns : Type 0
DoorTakesTurns =
    (x : Lent) (calls : List Call) → Calls x calls → refused_in x ≡ 0 →
    let s : State = state_in x in
    (t u : ℕ) → Equals s t u → (thread s t).policy ≡ round_robin →
    stays_ready (thread s t).priority t (as_entries calls) ≡ true → stays_ready (thread s t).priority u (as_entries calls) ≡ true →
    FoundAtMost full_slice s t u (as_entries calls) × FoundAtMost (thread s t).slice s t u (as_entries calls)
