use Rattle.std.proofs.Common.{◌≡◌, ◌*◌, ◌++◌, get_or, drop}
use Rattle.sheet.specs.Order.{records_of}
use Rattle.sheet.proofs.order.write_records.Given as goal

abbrev pub invariant-loop-i : goal.invariant-loop-i
invariant-loop-i l = l.buffer ≡ records_of l.head (λ j. get_or l.values j 0) l.i ++ drop (12 * l.i) l.initial.buffer
