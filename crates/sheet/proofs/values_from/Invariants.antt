use Rattle.std.proofs.Common.{◌≡◌, ℕ, ◌+◌, ◌-◌, cond, List, ◌++◌, map, get_or}
use Rattle.std.proofs.Math.ListN.{replicate}
use lib.Dec.{leb}
use Rattle.lists.specs.Lists.{below}
use Rattle.units.specs.declared.Percent.{Percent}
use Rattle.sheet.specs.Limits.{percent_at}
use Rattle.sheet.proofs.values_from.Given as goal

-- the values that are stored first, as far as they stand before the first S, then the shares
abbrev pub valueBy : ℕ → List ℕ → List Percent → ℕ → ℕ
valueBy head first shares i = cond (leb head i) (percent_at shares (i - head)) (get_or first i 0)

abbrev pub invariant-loop-p : goal.invariant-loop-p
invariant-loop-p l =
    l.values ≡ map (valueBy l.head l.initial.values l.fn.settings.shares) (below (l.head + l.p)) ++ replicate (21 - (l.head + l.p)) 0
