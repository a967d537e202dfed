-- The doors over what their caller lends: what each refuses, and what it answers. A refusal leaves lent memory as it was.
use Rattle.std.specs.Prelude.{ℕ, ◌*◌, ◌/◌, min, not, cond, List, ◌++◌, length, drop, pos, leb, ltb, eqb}
use Rattle.sheet.specs.Sheet.{settings_of, refused_sheet}
use Rattle.model.specs.State.{wanted}
use Rattle.model.specs.Policy.{remaining, decide}
use Rattle.model.specs.Step.{Saved, Answer, favoured, refused_by, answer}
use Rattle.model.specs.Run.{fresh_state, run, after}
use Rattle.model.specs.Answers.{Line, refusal_line, decision_line, Remainder}
use Rattle.model.specs.Lent.{Lent, state_in, saved_in, refused_in}
use Rattle.model.specs.Stream.{event_count, events_in, lines_of}

-- ---- start: from a sheet's bytes, beside a lent history

-- 1 to 6 as for the sheet, then 7 for a history too short, or 0
unfoldable pub refused_start : List ℕ → List ℕ → ℕ
refused_start sheet h =
    cond (not (eqb (refused_sheet sheet) 0)) (refused_sheet sheet)
    (cond (ltb (length h) (wanted (fresh_state (settings_of sheet)))) 7 0)

-- ---- event: the answer of Step, or the refusal of what was lent. "A refusal returns the given state and zeros for the rest"

unfoldable pub answer_to : Lent → List ℕ → Answer
answer_to x b =
    cond (eqb (refused_in x) 0) (answer (saved_in x) b) (refused_by (refused_in x) (saved_in x))

-- ---- run: many events, each record with a line

-- how many records are taken: each that there is room for a line for
unfoldable pub taken_by : List ℕ → ℕ → ℕ
taken_by events room = min (event_count events) (room / 12)

-- the state and the history after them; none is taken where what was lent is refused
unfoldable pub after_run : Lent → List ℕ → ℕ → Saved
after_run x events room =
    cond (eqb (refused_in x) 0) (after (saved_in x) (events_in events (taken_by events room))) (saved_in x)

-- what is left in the lent lines: those of the records taken, and after them what was there
unfoldable pub lines_after : Lent → List ℕ → List ℕ → List ℕ
lines_after x events lines =
    cond (eqb (refused_in x) 0)
    (lines_of (run (saved_in x) (events_in events (taken_by events (length lines)))) ++ drop (12 * taken_by events (length lines)) lines)
    lines

-- ---- decision: "mode, partition and thread as the rules give them for the state". "The decision door takes the state's running thread" for
-- the one whose partition is favoured

unfoldable pub decision : Lent → Line
decision x = cond (eqb (refused_in x) 0) (decision_line (decide (state_in x) (favoured (state_in x)))) (refusal_line (refused_in x))

-- ---- remaining: "one partition's remaining"

unfoldable pub refused_remaining : Lent → ℕ → ℕ
refused_remaining x p =
    cond (not (eqb (refused_in x) 0)) (refused_in x)
    (cond (leb (state_in x).settings.count p) 12 0)

unfoldable pub remainder : Lent → ℕ → Remainder
remainder x p =
    record { refusal = refused_remaining x p; remaining = cond (eqb (refused_remaining x p) 0) (remaining (state_in x) p) (pos 0) }
