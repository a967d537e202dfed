-- What the doors are held to, over all that their caller lends (Lent of the model): x is what was lent, y what it is afterwards.
use Rattle.std.specs.Prelude.{◌≢◌, ◌≡◌, ℕ, List, length}
use Rattle.sheet.specs.Sheet.{settings_of}
use Rattle.model.specs.Answers.{Line, answer_line}
use Rattle.model.specs.Doors.{refused_start, answer_to, after_run, lines_after}
use Rattle.model.specs.Arrays.{columns_in, columns_seen}
use Rattle.model.specs.Lent.{Lent, lent, saved_in, refused_in}
use Rattle.model.specs.Run.{fresh}
use Rattle.model.specs.declared.StateMut.{StateMut}
use Rattle.model.specs.declared.StateRef.{StateRef}

-- the numbers of settings, shares and clock, and a state's arrays, lent to be worked on and lent to be looked at
abbrev pub lent_in : List ℕ → List ℕ → List ℕ → StateMut → Lent
lent_in a b k x = lent a b x.used.now k (columns_in x) x.queue.now x.history.now

abbrev pub lent_seen : List ℕ → List ℕ → List ℕ → StateRef → Lent
lent_seen a b k x = lent a b x.used.now k (columns_seen x) x.queue.now x.history.now

-- what every array that is lent has, by its type
pub record Sizes (x : Lent) : Type 0 where
  pub used : length x.used ≡ 16
  pub queue : length x.queue ≡ 64

-- the start door, for the sheet's bytes: it answered a number, and 0 is no refusal
pub record Begun (x : Lent) (sheet : List ℕ) (number : ℕ) (y : Lent) : Type 0 where
  pub refusal : number ≡ refused_start sheet x.history
  pub after : number ≡ 0 → saved_in y ≡ fresh (settings_of sheet) x.history
  -- the next door takes it
  pub taken : number ≡ 0 → refused_in y ≡ 0
  pub still : number ≢ 0 → y ≡ x

-- the event door, for the event b: it answered the four numbers of a line
pub record Answered (x : Lent) (b : List ℕ) (l : Line) (y : Lent) : Type 0 where
  pub line : l ≡ answer_line (answer_to x b)
  pub after : saved_in y ≡ (answer_to x b).after
  -- what was not refused is not refused afterwards
  pub taken : refused_in x ≡ 0 → refused_in y ≡ 0
  pub still : (answer_to x b).refusal ≢ 0 → y ≡ x
  pub sizes : Sizes x

-- the run door, for the events' bytes and the lent lines
pub record Ran (x : Lent) (events lines : List ℕ) (number : ℕ) (y : Lent) (lines' : List ℕ) : Type 0 where
  pub refusal : number ≡ refused_in x
  pub after : saved_in y ≡ after_run x events (length lines)
  pub written : lines' ≡ lines_after x events lines
  pub taken : refused_in x ≡ 0 → refused_in y ≡ 0
  pub still : refused_in x ≢ 0 → y ≡ x
  pub sizes : Sizes x
