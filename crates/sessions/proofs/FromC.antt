-- Calls from C are calls of the event door.
use mathlib.Core.List.{[], ◌∷◌, map}
use Rattle.sessions.specs.FromC.{as_call, CCallsAreCalls, CDemand3, CDecides}
use Rattle.sessions.proofs.Calls.{door_demand3}
use Rattle.sessions.proofs.Decisions.{door_decides}

pub c_calls_are_calls : CCallsAreCalls
c_calls_are_calls x [] q = tt
c_calls_are_calls x (c ∷ cs) (q, qs) = (q, c_calls_are_calls c.left cs qs)

pub c_demand3 : CDemand3
c_demand3 x calls q = door_demand3 x (map as_call calls) (c_calls_are_calls x calls q)

pub c_decides : CDecides
c_decides x calls q = door_decides x (map as_call calls) (c_calls_are_calls x calls q)
