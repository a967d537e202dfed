-- `add_rows` adds the parts of the rows to the rows' sums and to the slots'.
use Rattle.std.proofs.Common.{◌≡◌, ℕ, ◌+◌, Bool, List, true}
use Rattle.lists.specs.Lists
use Rattle.lists.specs.Lists.{all, below}
use Rattle.soundness.specs.Sums.{slot_in, all_narrow, part_in, Added}
use Rattle.soundness.proofs.sums.History.add_rows.Given as goal

abbrev pub small : List ℕ → ℕ → ℕ → ℕ → ℕ → Bool
small h w a k p = all_narrow (part_in h w a k p)

abbrev pub held : List ℕ → ℕ → ℕ → ℕ → ℕ → ℕ
held h w a k p = Lists.sum (part_in h w a k p)

abbrev pub invariant-loop-p : goal.invariant-loop-p
invariant-loop-p l =
    let h = l.self.numbers.now in
    let w = l.self.window.0 in
    record {
      narrow : all (small h w l.from l.size) (below l.p) ≡ true;
      slots : Added (λ i. slot_in h w l.p (l.from + i)) l.initial.sums l.sums l.size;
      totals : Added (held h w l.from l.size) l.initial.rows l.rows l.p;
    }
