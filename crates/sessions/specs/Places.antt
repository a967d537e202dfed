-- Where a thread stands after its priority changes (request (ii) of document 02), of the calls of the event door: after any calls, from whatever was
-- lent, a call that sets a priority and is accepted. That what was lent is not refused is not asked: the accepted call shows it.
use Rattle.std.specs.Prelude.{◌≡◌, true, List, [], ◌∷◌, ◌++◌}
use Rattle.model.specs.Event
use Rattle.model.specs.Event.{kind_of, thread_of, priority_of}
use Rattle.model.specs.Lent.{Lent, state_in}
use Rattle.guarantee.specs.Places.{Stands, Ranked}
use Rattle.sessions.specs.Calls.{Call, Calls, left_by, chosen_by, accepts}

-- "a ready thread that is raised goes to the tail of the line, one that is lowered goes to its head, and one set to the priority it has stays. A
-- thread that isn't ready only changes its number": the queue and the threads' records that the call left, beside those that it was lent
abbrev pub DoorPlaces : Type 0
DoorPlaces =
    (x : Lent) (calls : List Call) (c : Call) → Calls x (calls ++ (c ∷ [])) → kind_of c.bytes ≡ Event.set_priority → accepts c ≡ true →
    Stands (state_in (left_by x calls)) (state_in c.left) (thread_of c.bytes) (priority_of c.bytes)

-- and among the threads of its new priority: raised, it is neither the thread that its partition would run next nor the one that the line names,
-- where another is its equal; lowered, no equal of it is
abbrev pub DoorAmongEquals : Type 0
DoorAmongEquals =
    (x : Lent) (calls : List Call) (c : Call) → Calls x (calls ++ (c ∷ [])) → kind_of c.bytes ≡ Event.set_priority → accepts c ≡ true →
    Ranked (state_in (left_by x calls)) (state_in c.left) (chosen_by c.line) (thread_of c.bytes) (priority_of c.bytes)
