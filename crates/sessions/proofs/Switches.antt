-- Ties cause no switches, as the calls of the event door show it.
use mathlib.Core.Logic.{◌≢◌}
use mathlib.Core.Path.{◌≡◌, sym, subst}
use mathlib.Core.Option.{some}
use Rattle.model.specs.Step.{Answer, billed}
use Rattle.model.specs.Lent.{Lent, saved_in}
use Rattle.invariants.specs.Promises.{GivesWay}
use Rattle.invariants.proofs.Ties.{switches}
use Rattle.sessions.specs.Calls.{left_by}
use Rattle.sessions.specs.Switches.{DoorSwitches}
use Rattle.sessions.proofs.Calls.{last_call, call_is, call_accepted, lengths}

pub door_switches : DoorSwitches
door_switches x calls c q yes_line p r from =
    let y : Lent = left_by x calls in
    let a = last_call x calls c q in
    subst (λ (w : Answer). billed w.after.state ≡ some r → p ≢ r → (w.decision.partition ≡ r) × GivesWay w.after.state p r)
    (sym (call_is y c a yes_line))
    (switches (saved_in y) (lengths y a.sizes) c.bytes (call_accepted y c a yes_line) p r from)
