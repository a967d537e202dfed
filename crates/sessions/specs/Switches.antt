-- Ties cause no switches (request (iii) of document 02), of the calls of the event door: after any calls, from whatever was lent, a call that is
-- accepted. That what was lent is not refused is not asked: the accepted call shows it.
use Rattle.std.specs.Prelude.{ℕ, ◌≢◌, ◌≡◌, true, List, [], ◌∷◌, ◌++◌}
use Rattle.std.proofs.Math.Option.{some}
use Rattle.model.specs.Step.{billed}
use Rattle.model.specs.Lent.{Lent, state_in}
use Rattle.invariants.specs.Promises.{GivesWay}
use Rattle.sessions.specs.Calls.{Call, Calls, left_by, accepts}

-- the processor works for the partition that is billed. Where the call was lent a state in which that is p, and left one in which it is another
-- one, q, the line names q, and p gave way to q: in the state that the call left, q comes strictly before p, or p no longer competes
abbrev pub DoorSwitches : Type 0
DoorSwitches =
    (x : Lent) (calls : List Call) (c : Call) → Calls x (calls ++ (c ∷ [])) → accepts c ≡ true → (p q : ℕ) →
    billed (state_in (left_by x calls)) ≡ some p → billed (state_in c.left) ≡ some q → p ≢ q →
    (c.line.partition ≡ q) × GivesWay (state_in c.left) p q
