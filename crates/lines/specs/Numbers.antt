-- The four numbers of an answer, as a line of the desk program.
use Rattle.std.specs.Prelude.{ℕ, ◌/◌, ◌%◌}
use Rattle.model.specs.Answers.{Line}
use Rattle.lines.specs.declared.numbers.Numbers.{Numbers}

-- the line that four numbers are
abbrev pub numbers_of : Numbers → Line
numbers_of n = record { refusal = n.refusal; mode = n.mode; partition = n.partition; thread = n.thread }

-- the line that a number holds in its four bytes, the refusal in the lowest
abbrev pub unpacked : ℕ → Line
unpacked n = record { refusal = n % 256; mode = n / 256 % 256; partition = n / 65536 % 256; thread = n / 16777216 }
