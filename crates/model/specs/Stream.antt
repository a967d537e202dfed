-- A stream of events: the records of a slice of bytes, and the lines of their answers.
use Rattle.std.specs.Prelude.{ℕ, ◌+◌, ◌*◌, ◌/◌, List, [], ◌∷◌, ◌++◌, map, length, take, drop}
use Rattle.lists.specs.Lists.{below}
use Rattle.model.specs.Run.{Entry}
use Rattle.model.specs.Answers.{answer_line, text_of}

-- the records of a stream: whole ones of twelve bytes, and what is left of a cut one at the end
abbrev pub event_count : List ℕ → ℕ
event_count bytes = (length bytes + 11) / 12

abbrev pub event_at : List ℕ → ℕ → List ℕ
event_at bytes i = take 12 (drop (12 * i) bytes)

-- the first n of them
abbrev pub events_in : List ℕ → ℕ → List (List ℕ)
events_in bytes n = map (event_at bytes) (below n)

-- the lines of the answers, one after the other
unfoldable pub lines_of : List Entry → List ℕ
lines_of [] = []
lines_of (e ∷ es) = text_of (answer_line e.answer) ++ lines_of es
