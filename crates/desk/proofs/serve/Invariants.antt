use Rattle.std.proofs.Common.{◌<◌}
use Rattle.desk.proofs.serve.Given as goal

abbrev pub invariant-loop : goal.invariant-loop
invariant-loop g l = l.kept < 12
