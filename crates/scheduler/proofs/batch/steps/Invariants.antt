use mathlib.Core.Path.{◌≡◌}
use mathlib.Core.List.{◌++◌}
use Prim.Native.Nat.{◌*◌}
use lib.ListN.{drop}
use Rattle.model.specs.Arrays.{SameLoan}
use Rattle.model.specs.Run as Run
use Rattle.model.specs.Stream.{events_in, lines_of}
use Rattle.scheduler.specs.Effects.{saved_of}
use Rattle.scheduler.specs.Stepping.{WholeIn}
use Rattle.scheduler.proofs.Cutting.{Cut}
use Rattle.scheduler.proofs.batch.steps.Given as goal

abbrev pub invariant-loop-i : goal.invariant-loop-i
invariant-loop-i l =
    let v = saved_of l.fn.settings l.fn.state l.fn.clock in
    let taken = events_in l.events l.i-iterator.count in
    record {
      cut : Cut l.events l.n l.i-iterator;
      after : saved_of l.settings l.state l.clock ≡ Run.after v taken;
      lines : l.out ≡ lines_of (Run.run v taken) ++ drop (12 * l.i-iterator.count) l.fn.out;
      whole : WholeIn l.settings l.state l.clock l.cache l.favoured;
      priced : l.cache.budgets ≡ l.fn.cache.budgets;
      loan : SameLoan l.fn.state l.state;
    }
