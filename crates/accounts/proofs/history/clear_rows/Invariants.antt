use mathlib.Core.Path.{◌≡◌}
use mathlib.Core.List.{◌++◌}
use Prim.Native.Nat.{◌*◌}
use lib.ListN.{drop, replicate}
use Rattle.accounts.proofs.history.clear_rows.Given as goal

abbrev pub invariant-loop-p : goal.invariant-loop-p
invariant-loop-p l =
    l.history ≡ replicate (l.p * l.w) 0 ++ drop (l.p * l.w) l.initial.history
