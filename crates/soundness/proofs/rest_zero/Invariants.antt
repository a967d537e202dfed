-- `rest_zero` tests what lies past the last partition.
use Rattle.std.proofs.Common.{◌≡◌, ℕ, Bool, ◌||◌, ◌&&◌, eqb, ltb, List, get_or}
use Rattle.lists.specs.Lists.{all, below}
use Rattle.sheet.specs.Settings.{share}
use Rattle.sheet.specs.declared.Settings.{Settings}
use Rattle.soundness.proofs.rest_zero.Given as goal

abbrev pub none : Settings → List ℕ → ℕ → Bool
none c u p = ltb p c.count || (eqb (share c p) 0 && eqb (get_or u p 0) 0)

abbrev pub invariant-loop-p : goal.invariant-loop-p
invariant-loop-p l = eqb l.bits 0 ≡ all (none l.settings l.used) (below l.p)
