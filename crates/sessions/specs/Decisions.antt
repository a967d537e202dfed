-- What the accepted calls of the event door answer, from whatever was lent: the decision, and what demand 2 says of it, of the state that each call
-- left.
use Rattle.std.specs.Prelude.{ℕ, ◌<◌, ◌≡◌, true, List, [], ◌∷◌}
use Rattle.model.specs.State.{idle}
use Rattle.model.specs.Policy.{idle_mode, competing, has_budget, decide}
use Rattle.model.specs.Step.{favoured}
use Rattle.model.specs.Doors as Doors
use Rattle.model.specs.Lent.{Lent, state_in}
use Rattle.invariants.specs.Promises.{Allowed, NoneAllowed, idle_decision, Busy}
use Rattle.sessions.specs.Calls.{Call, Calls, chosen_by, accepts}

-- of each call that was accepted, beside what it was lent, which is x for the first and what the one before left for each other
abbrev pub EachAccepted : (Lent → Call → Type 0) → Lent → List Call → Type 0
EachAccepted P x [] = Unit {0}
EachAccepted P x (c ∷ cs) = (accepts c ≡ true → P x c) × EachAccepted P c.left cs

pub record Decides (x : Lent) (c : Call) : Type 0 where
  -- the decision for the state that the call left; which partition is favoured, the state that it was lent says: "when the event came"
  pub decision : chosen_by c.line ≡ decide (state_in c.left) (favoured (state_in x))
  -- the decision door, lent what the call left, repeats it
  pub repeated : Doors.decision c.left ≡ c.line
  -- "It idles exactly when no ready thread may run on this core": mode 0, partition 0, thread 255; mode 0 alone, and thread 255 alone, say so
  pub idles : NoneAllowed (state_in c.left) → chosen_by c.line ≡ idle_decision
  pub idle_mode : c.line.mode ≡ idle_mode → NoneAllowed (state_in c.left)
  pub idle_thread : c.line.thread ≡ idle → NoneAllowed (state_in c.left)
  -- otherwise it is the winner and its thread
  pub chooses : (t : ℕ) → Allowed (state_in c.left) t → Busy (state_in c.left) (favoured (state_in x)) (chosen_by c.line)
  -- where a competing partition has budget, the chosen one has
  pub budget_first :
      (p : ℕ) → p < (state_in c.left).settings.count → competing (state_in c.left) p ≡ true → has_budget (state_in c.left) p ≡ true →
      has_budget (state_in c.left) c.line.partition ≡ true

abbrev pub DoorDecides : Type 0
DoorDecides = (x : Lent) (calls : List Call) → Calls x calls → EachAccepted Decides x calls
