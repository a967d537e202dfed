-- Ties on given states: what the decision door answers, and the event door at a tick and at a resume. Only a given state tells who wins a tie where
-- the processor idled: in a run from a fresh start the event that finds it idle makes at most one thread ready.
use Rattle.std.specs.Prelude.{ℕ, Bool, List, [], ◌∷◌, replicate}
use Rattle.lists.specs.Lists.{all}
use Rattle.model.specs.Arrays.{columns}
use Rattle.model.specs.Lent.{Lent}
use Rattle.model.specs.Answers.{Line, answer_line}
use Rattle.model.specs.Doors.{answer_to, decision}
use Rattle.cases.specs.Written.{tick, resume}
use Rattle.cases.specs.Runs.{under, same_lines}

-- three threads, each ready in the partition of its number: their priorities, which one is running, or 255, and which one must run then
pub record Tie : Type 0 where
  pub priorities : List ℕ
  pub running : ℕ
  pub winner : ℕ

-- what the first three have, and n zeros
abbrev pub three : ℕ → ℕ → ℕ → ℕ → List ℕ
three n a b c = a ∷ b ∷ c ∷ replicate n 0

abbrev pub tie : ℕ → ℕ → ℕ → ℕ → ℕ → Tie
tie a b c running winner = record { priorities = three 61 a b c; running = running; winner = winner }

-- what is lent for it: W 2, C 1000, nothing is used; the line is 2, 1, 0
abbrev pub lent_for : Tie → Lent
lent_for x =
    record {
      settings = 2 ∷ 1000 ∷ 0 ∷ 0 ∷ 1 ∷ 0 ∷ 3 ∷ [];
      shares = three 13 34 33 33;
      used = replicate 16 0;
      clock = 0 ∷ 0 ∷ 0 ∷ 3 ∷ x.running ∷ [];
      threads =
          columns (three 61 1 1 1) (three 61 1 1 1) (three 61 0 1 2) x.priorities (three 61 1 1 1) (replicate 64 0) (replicate 64 0);
      queue = three 61 2 1 0;
      history = replicate 6 0;
    }

abbrev pub answers_of : Tie → List Line
answers_of x =
    decision (lent_for x) ∷ answer_line (answer_to (lent_for x) (tick 0)) ∷ answer_line (answer_to (lent_for x) (resume 0)) ∷ []

abbrev pub lines_of : Tie → List Line
lines_of x = replicate 3 (under x.winner x.winner)

abbrev pub won : List Tie → Bool
won l = all (λ x. same_lines (answers_of x) (lines_of x)) l

abbrev pub given : List Tie
given =
    -- all three are tied: the one that is running; where the processor idled, "the lowest number"
    tie 10 10 10 0 0 ∷ tie 10 10 10 1 1 ∷ tie 10 10 10 2 2 ∷ tie 10 10 10 255 0
    -- two are, and the third is worse: it wins nowhere
    ∷ tie 10 20 20 0 1 ∷ tie 10 20 20 1 1 ∷ tie 10 20 20 2 2 ∷ tie 10 20 20 255 1
    ∷ tie 20 10 20 0 0 ∷ tie 20 10 20 1 0 ∷ tie 20 10 20 2 2 ∷ tie 20 10 20 255 0
    ∷ tie 20 20 10 0 0 ∷ tie 20 20 10 1 1 ∷ tie 20 20 10 2 0 ∷ tie 20 20 10 255 0
    -- there is no tie
    ∷ tie 10 10 20 0 2 ∷ tie 20 10 10 2 0 ∷ tie 10 20 10 255 1
    ∷ []
