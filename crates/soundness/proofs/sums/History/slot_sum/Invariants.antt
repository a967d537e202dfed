-- `slot_sum` adds up what the rows hold in a slot.
use Rattle.std.proofs.Common.{◌≡◌, ◌%◌, ◌^◌}
use Rattle.soundness.specs.Sums.{slot_in}
use Rattle.soundness.proofs.sums.History.slot_sum.Given as goal

abbrev pub invariant-loop-p : goal.invariant-loop-p
invariant-loop-p l = l.sum ≡ slot_in l.self.numbers.now l.self.window.0 l.p l.slot % 2 ^ 32
