-- Where a thread stands after its priority changes, as the calls of the event door show it.
use mathlib.Core.Path.{sym, subst}
use Rattle.model.specs.Event.{thread_of, priority_of}
use Rattle.model.specs.Step.{Answer}
use Rattle.model.specs.Lent.{Lent, state_in, saved_in}
use Rattle.guarantee.specs.Places.{Stands, Ranked}
use Rattle.guarantee.proofs.Places.{places, among_equals}
use Rattle.sessions.specs.Calls.{left_by}
use Rattle.sessions.specs.Places.{DoorPlaces, DoorAmongEquals}
use Rattle.sessions.proofs.Calls.{last_call, call_is, call_accepted, lengths}

pub door_places : DoorPlaces
door_places x calls c q k yes_line =
    let y : Lent = left_by x calls in
    let a = last_call x calls c q in
    subst (λ (w : Answer). Stands (state_in y) w.after.state (thread_of c.bytes) (priority_of c.bytes)) (sym (call_is y c a yes_line))
    (places (saved_in y) (lengths y a.sizes) c.bytes k (call_accepted y c a yes_line))

pub door_among_equals : DoorAmongEquals
door_among_equals x calls c q k yes_line =
    let y : Lent = left_by x calls in
    let a = last_call x calls c q in
    subst (λ (w : Answer). Ranked (state_in y) w.after.state w.decision (thread_of c.bytes) (priority_of c.bytes))
    (sym (call_is y c a yes_line))
    (among_equals (saved_in y) (lengths y a.sizes) c.bytes k (call_accepted y c a yes_line))
