use Rattle.std.proofs.Common.{◌≡◌, ◌++◌, length, drop}
use Rattle.sheet.specs.Records.{digits_of}
use Rattle.sheet.proofs.records.write_digits.Given as goal

abbrev pub invariant-loop-i : goal.invariant-loop-i
invariant-loop-i l = digits_of (length l.initial.out) l.value ≡ digits_of l.i l.rest ++ drop l.i l.out
