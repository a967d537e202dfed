-- `books_agree` is the test of the books.
use Rattle.std.proofs.Common.{◌≡◌, ℕ, ◌-◌, ◌≤◌, Bool, true, leb, List, replicate}
use Rattle.lists.specs.Lists.{all, below}
use Rattle.soundness.specs.Sums.{slot_in, Added}
use Rattle.soundness.proofs.Books.{rows_to}
use Rattle.soundness.proofs.sums.History.books_agree.Given as goal

abbrev pub fits : List ℕ → ℕ → ℕ → ℕ → ℕ → Bool
fits h w n most k = leb (slot_in h w n k) most

abbrev pub invariant-loop-from : goal.invariant-loop-from
invariant-loop-from l =
    let h = l.self.numbers.now in
    let w = l.self.window.0 in
    let n = l.self.count in
    record {
      inside : l.from ≤ w;
      within : all (fits h w n l.most.0) (below l.from) ≡ true;
      rows : Added (rows_to h w l.from) (replicate 16 0) l.rows n;
    }

abbrev pub decreases-loop-from : goal.decreases-loop-from
decreases-loop-from l = l.from-end - l.from
