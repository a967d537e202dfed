-- The event door and the run door used one after the other, in any order: runs alone, as the desk makes them, calls alone, or both. Over what their
-- user has in hand: the bytes given, what was answered and written, and all that was lent, as each use left it.
use Rattle.std.specs.Prelude.{ℕ, zero, suc, ◌<◌, ◌≡◌, List, [], ◌∷◌, ◌++◌, map, reverse, take, drop}
use Rattle.lists.specs.Lists.{sum, keep}
use Rattle.sheet.specs.Records.{number_from}
use Rattle.sheet.specs.Settings.{W}
use Rattle.sheet.specs.Sheet.{settings_of}
use Rattle.model.specs.State.{used}
use Rattle.model.specs.Answers.{Line, answer_line}
use Rattle.model.specs.Lent.{Lent, state_in, saved_in, refused_in}
use Rattle.model.specs.Run.{Entry, run, after}
use Rattle.model.specs.Step.{Saved}
use Rattle.model.specs.Stream.{events_in}
use Rattle.guarantee.specs.Demand3.{accepted, Served}
use Rattle.guarantee.specs.Ledger.{ledger, last_in, periods_in}
use Rattle.guarantee.specs.Account.{Accounted, decisions_from}
use Rattle.doors.specs.Doors.{Begun, Answered, Ran}
use Rattle.sessions.specs.Calls.{Call, Calls, left_by, given_to, taken_of}

-- ---- uses of the two doors

-- a run: the events' bytes, the bytes that were lent for lines, the number that was answered, and what was lent and the bytes for lines, as they
-- were left
pub record Batch : Type 0 where
  pub events : List ℕ
  pub room : List ℕ
  pub number : ℕ
  pub left : Lent
  pub text : List ℕ

pub data Use : Type 0 where
  one : Call → Use
  many : Batch → Use

-- of each use we have what the contract of its door says, and nothing more
abbrev pub Made : Lent → Use → Type 0
Made x (one c) = Answered x c.bytes c.line c.left
Made x (many r) = Ran x r.events r.room r.number r.left r.text

abbrev pub left_of : Use → Lent
left_of (one c) = c.left
left_of (many r) = r.left

-- one after the other, the first on x, each other on what the one before left
abbrev pub Uses : Lent → List Use → Type 0
Uses x [] = Unit {0}
Uses x (u ∷ us) = Made x u × Uses (left_of u) us

-- what they leave
abbrev pub left_after : Lent → List Use → Lent
left_after x [] = x
left_after x (u ∷ us) = left_after (left_of u) us

-- ---- the records that were taken, and their lines

-- how many records a run took
abbrev pub taken_in : Batch → ℕ
taken_in r = taken_of r.number r.events r.room

abbrev pub taken_records : Use → List (List ℕ)
taken_records (one c) = c.bytes ∷ []
taken_records (many r) = events_in r.events (taken_in r)

-- the number that decimal digits spell
abbrev pub spelt : List ℕ → ℕ
spelt digits = (number_from 0 digits).value

-- a line, read from its twelve bytes: "refusal in two digits, mode, partition in two digits, thread in three"
abbrev pub line_in : List ℕ → Line
line_in t =
    record {
      refusal = spelt (take 2 t);
      mode = spelt (take 1 (drop 3 t));
      partition = spelt (take 2 (drop 5 t));
      thread = spelt (take 3 (drop 8 t));
    }

-- the first n lines of a text
abbrev pub lines_in : ℕ → List ℕ → List Line
lines_in zero t = []
lines_in (suc n) t = line_in (take 12 t) ∷ lines_in n (drop 12 t)

-- of a call the line that it answered, of a run the lines that it wrote
abbrev pub lines_by : Use → List Line
lines_by (one c) = c.line ∷ []
lines_by (many r) = lines_in (taken_in r) r.text

-- of all of them, in order
abbrev pub all_records : List Use → List (List ℕ)
all_records [] = []
all_records (u ∷ us) = taken_records u ++ all_records us

abbrev pub all_lines : List Use → List Line
all_lines [] = []
all_lines (u ∷ us) = lines_by u ++ all_lines us

-- ---- what is said of them

-- they did what these calls of the event door do
pub record AsCalled (x : Lent) (uses : List Use) (calls : List Call) : Type 0 where
  pub called : Calls x calls
  pub records : given_to calls ≡ all_records uses
  pub lines : map (λ c. c.line) calls ≡ all_lines uses
  pub left : saved_in (left_by x calls) ≡ saved_in (left_after x uses)

-- from whatever was lent there are such calls; so what is said of calls holds of uses
abbrev pub UsesAreCalls : Type 0
UsesAreCalls = (x : Lent) (uses : List Use) → Uses x uses → (calls : List Call) × AsCalled x uses calls

-- they are the model's run on all the records: the same numbers in every line, the same state and history
pub record IsOneRun (v : Saved) (uses : List Use) (last : Saved) : Type 0 where
  pub lines : all_lines uses ≡ map (λ e. answer_line e.answer) (run v (all_records uses))
  pub left : last ≡ after v (all_records uses)

abbrev pub UsesAreRun : Type 0
UsesAreRun =
    (x : Lent) (uses : List Use) → Uses x uses → refused_in x ≡ 0 →
    IsOneRun (saved_in x) uses (saved_in (left_after x uses)) × (refused_in (left_after x uses) ≡ 0)

-- ---- the demands

-- entries that say what was seen: the records that were taken, and the lines that answered them. The demands look at nothing else in an entry. The
-- entries of the calls that UsesAreCalls gives are such
pub record ReadFrom (uses : List Use) (es : List Entry) : Type 0 where
  pub events : map (λ e. e.event) es ≡ all_records uses
  pub lines : map (λ e. answer_line e.answer) es ≡ all_lines uses

-- demand 3, from whatever was lent
abbrev pub UsesDemand3 : Type 0
UsesDemand3 = (x : Lent) (uses : List Use) → Uses x uses → (es : List Entry) → ReadFrom uses es → Served (state_in x) es

-- demand 2, the totals, from whatever was lent and is not refused: the ledger of the records and lines, which goes on from what the given rows hold
abbrev pub UsesTotals : Type 0
UsesTotals =
    (x : Lent) (uses : List Use) → Uses x uses → refused_in x ≡ 0 → (es : List Entry) → ReadFrom uses es → (p : ℕ) → p < (state_in x).settings.count →
    used (state_in (left_after x uses)) p
    ≡ sum (take (W (state_in x).settings) (ledger p (last_in (state_in x)) (periods_in (state_in x) x.history p) es))

-- the records that were accepted
abbrev pub accepted_in : List Entry → List (List ℕ)
accepted_in es = map (λ e. e.event) (keep accepted es)

-- demand 2, the account: the start door took the sheet, lent x, and left y; and then the two doors were used. What they left at the end is that of
-- the account of the accepted records, and every decision in their lines is the account's
pub record AccountOf (x : Lent) (sheet : List ℕ) (last : Saved) (es : List Entry) : Type 0 where
  pub state : Accounted (settings_of sheet) x.history (reverse (accepted_in es)) last
  pub answers : map (λ e. e.answer.decision) (keep accepted es) ≡ decisions_from (settings_of sheet) [] (accepted_in es)

abbrev pub UsesAccount : Type 0
UsesAccount =
    (x : Lent) (sheet : List ℕ) (y : Lent) (uses : List Use) → Begun x sheet 0 y → Uses y uses → (es : List Entry) → ReadFrom uses es →
    AccountOf x sheet (saved_in (left_after y uses)) es
