-- The event door called from C. The contract of `saplingloft_lent_event` is `Answered`, with the line in the four bytes of the one number that it
-- answers. Those of `saplingloft_lent_start` and `saplingloft_lent_run` are `Begun` and `Ran` as they stand, so a start from C may begin a `Session`,
-- and a run from C is a `Batch`; an event from C is a use too, `one (as_call c)`.
use Rattle.std.specs.Prelude.{ℕ, List, [], ◌∷◌, map}
use Rattle.model.specs.Lent.{Lent, state_in}
use Rattle.guarantee.specs.Demand3.{Served}
use Rattle.lines.specs.Numbers.{unpacked}
use Rattle.doors.specs.Doors.{Answered}
use Rattle.sessions.specs.Calls.{Call, Calls, as_entries}
use Rattle.sessions.specs.Decisions.{EachAccepted, Decides}

-- one call: the event's bytes, the number that was answered, and what was lent, as the call left it
pub record CCall : Type 0 where
  pub bytes : List ℕ
  pub word : ℕ
  pub left : Lent

-- calls one after the other, the first on x, each other on what the one before left; of each we have what the contract of `saplingloft_lent_event`
-- says, and nothing more
abbrev pub CCalls : Lent → List CCall → Type 0
CCalls x [] = Unit {0}
CCalls x (c ∷ cs) = Answered x c.bytes (unpacked c.word) c.left × CCalls c.left cs

-- the same call, with the line that the number holds
abbrev pub as_call : CCall → Call
as_call c = record { bytes = c.bytes; line = unpacked c.word; left = c.left }

-- so what is said of calls holds of those from C
abbrev pub CCallsAreCalls : Type 0
CCallsAreCalls = (x : Lent) (calls : List CCall) → CCalls x calls → Calls x (map as_call calls)

-- demand 3, and what an accepted call answers, from whatever was lent
abbrev pub CDemand3 : Type 0
CDemand3 = (x : Lent) (calls : List CCall) → CCalls x calls → Served (state_in x) (as_entries (map as_call calls))

abbrev pub CDecides : Type 0
CDecides = (x : Lent) (calls : List CCall) → CCalls x calls → EachAccepted Decides x (map as_call calls)
