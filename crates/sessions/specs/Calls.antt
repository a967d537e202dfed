-- The event door called again and again, and the demands on lists of events restated over just what such a caller has in hand: the bytes
-- that were given, the four numbers that were answered, and all that was lent, as each call left it. Whether the call came from Rattle or from
-- C, its contract is `Answered`. docs/PROOFS.md has the chain from the contract of `event` to here.
use Rattle.std.specs.Prelude.{ℕ, ◌*◌, ◌<◌, ◌≢◌, ◌≡◌, Bool, cond, List, [], ◌∷◌, ◌++◌, map, reverse, eqb, length, take, drop}
use Rattle.lists.specs.Lists.{sum, keep}
use Rattle.sheet.specs.Settings.{W}
use Rattle.sheet.specs.Sheet.{settings_of}
use Rattle.model.specs.State.{used}
use Rattle.model.specs.Policy.{Decided}
use Rattle.model.specs.Step.{Saved}
use Rattle.model.specs.Run.{Entry, run, after}
use Rattle.model.specs.Answers.{Line, answer_line, text_of}
use Rattle.model.specs.Lent.{Lent, state_in, saved_in, refused_in}
use Rattle.model.specs.Stream.{events_in}
use Rattle.model.specs.Doors.{taken_by}
use Rattle.guarantee.specs.Demand3.{Served}
use Rattle.guarantee.specs.Ledger.{ledger, ledger_of, last_in, periods_in}
use Rattle.guarantee.specs.Account.{Accounted, decisions_from}
use Rattle.doors.specs.Doors.{Begun, Answered, Ran}

-- ---- calls of the event door

-- one call: the event's bytes, the line that the door answered, and what was lent, as it left it
pub record Call : Type 0 where
  pub bytes : List ℕ
  pub line : Line
  pub left : Lent

-- calls one after the other, the first on x, each other on what the one before left; of each we have what the contract of `event` says, and
-- nothing more
abbrev pub Calls : Lent → List Call → Type 0
Calls x [] = Unit {0}
Calls x (c ∷ cs) = Answered x c.bytes c.line c.left × Calls c.left cs

-- what they leave
abbrev pub left_by : Lent → List Call → Lent
left_by x [] = x
left_by x (c ∷ cs) = left_by c.left cs

abbrev pub given_to : List Call → List (List ℕ)
given_to cs = map (λ c. c.bytes) cs

-- ---- a call as the demands' definitions take it: the same bytes, the line's numbers, the state and the history that were left

abbrev pub chosen_by : Line → Decided
chosen_by l = record { mode = l.mode; partition = l.partition; thread = l.thread }

abbrev pub entry_of : Call → Entry
entry_of c =
    record {
      event = c.bytes;
      answer = record { refusal = c.line.refusal; decision = chosen_by c.line; after = saved_in c.left };
    }

abbrev pub as_entries : List Call → List Entry
as_entries cs = map entry_of cs

-- an event is accepted where the line's refusal is 0
abbrev pub accepts : Call → Bool
accepts c = eqb c.line.refusal 0

-- the calls are the model's run on the same bytes: the same numbers in every line, the same states and histories
pub record IsRun (v : Saved) (calls : List Call) (last : Saved) : Type 0 where
  pub entries : as_entries calls ≡ run v (given_to calls)
  pub lines : map (λ c. c.line) calls ≡ map (λ e. answer_line e.answer) (run v (given_to calls))
  pub left : last ≡ after v (given_to calls)

-- what the first call takes, every later call takes too
abbrev pub CallsAreRun : Type 0
CallsAreRun =
    (x : Lent) (calls : List Call) → Calls x calls → refused_in x ≡ 0 →
    IsRun (saved_in x) calls (saved_in (left_by x calls)) × (refused_in (left_by x calls) ≡ 0)

-- and where what was lent is refused, every call is refused by the same number, and leaves all as it was
abbrev pub Unmoved : Lent → List Call → Type 0
Unmoved x [] = Unit {0}
Unmoved x (c ∷ cs) = (c.line.refusal ≡ refused_in x) × (c.left ≡ x) × Unmoved x cs

abbrev pub RefusedStays : Type 0
RefusedStays = (x : Lent) (calls : List Call) → Calls x calls → refused_in x ≢ 0 → Unmoved x calls

-- ---- demand 3

-- from whatever was lent. That it is not refused is not asked: an opening tick that is accepted shows it
abbrev pub DoorDemand3 : Type 0
DoorDemand3 = (x : Lent) (calls : List Call) → Calls x calls → Served (state_in x) (as_entries calls)

-- ---- demand 2

-- used(p), from whatever was lent and is not refused: the ledger of the calls, which goes on from what the given rows hold. Where what was lent is
-- refused nothing moves, as above
abbrev pub DoorTotalsFrom : Type 0
DoorTotalsFrom =
    (x : Lent) (calls : List Call) → Calls x calls → refused_in x ≡ 0 → (p : ℕ) → p < (state_in x).settings.count →
    used (state_in (left_by x calls)) p
    ≡ sum (take (W (state_in x).settings) (ledger p (last_in (state_in x)) (periods_in (state_in x) x.history p) (as_entries calls)))

-- the start door took the sheet, lent x, and left y; and then the event door was called
pub record Session (x : Lent) (sheet : List ℕ) (y : Lent) (calls : List Call) : Type 0 where
  pub begun : Begun x sheet 0 y
  pub called : Calls y calls

-- the calls that were accepted
abbrev pub accepted_calls : List Call → List Call
accepted_calls cs = keep accepts cs

-- the state and the history that the last call left are those of the account of the accepted events
abbrev pub DoorAccount : Type 0
DoorAccount =
    (x : Lent) (sheet : List ℕ) (y : Lent) (calls : List Call) → Session x sheet y calls →
    Accounted (settings_of sheet) x.history (reverse (given_to (accepted_calls calls))) (saved_in (left_by y calls))

-- and every decision is the account's
abbrev pub DoorAnswers : Type 0
DoorAnswers =
    (x : Lent) (sheet : List ℕ) (y : Lent) (calls : List Call) → Session x sheet y calls →
    map (λ c. chosen_by c.line) (accepted_calls calls) ≡ decisions_from (settings_of sheet) [] (given_to (accepted_calls calls))

-- used(p) is what the ledger of the calls says, which starts with nothing charged
abbrev pub DoorTotals : Type 0
DoorTotals =
    (x : Lent) (sheet : List ℕ) (y : Lent) (calls : List Call) → Session x sheet y calls →
    (p : ℕ) → p < (settings_of sheet).count →
    used (state_in (left_by y calls)) p ≡ sum (take (W (settings_of sheet)) (ledger_of p (as_entries calls)))

-- ---- a run of many events

-- the lines of the calls, one after the other
abbrev pub call_lines : List Call → List ℕ
call_lines [] = []
call_lines (c ∷ cs) = text_of c.line ++ call_lines cs

-- how many records a run took that answered this number
abbrev pub taken_of : ℕ → List ℕ → List ℕ → ℕ
taken_of number events out = cond (eqb number 0) (taken_by events (length out)) 0

-- a run lent x and `out`, that answered the number and left y and out', did what these calls of the event door do
pub record AsCalls (x : Lent) (events out : List ℕ) (number : ℕ) (y : Lent) (out' : List ℕ) (calls : List Call) : Type 0 where
  pub called : Calls x calls
  pub records : given_to calls ≡ events_in events (taken_of number events out)
  pub left : saved_in (left_by x calls) ≡ saved_in y
  pub lines : out' ≡ call_lines calls ++ drop (12 * taken_of number events out) out

-- by the contract of `run`: it did what some calls do, and what any calls on the records that it took do
abbrev pub RunIsCalls : Type 0
RunIsCalls =
    (x : Lent) (events out : List ℕ) (number : ℕ) (y : Lent) (out' : List ℕ) → Ran x events out number y out' →
    ((calls : List Call) × AsCalls x events out number y out' calls)
    × ((calls : List Call) → Calls x calls → given_to calls ≡ events_in events (taken_of number events out) → AsCalls x events out number y out' calls)
