use Rattle.std.proofs.Common.{◌≡◌, ℕ, ◌+◌, ◌<◌, Bool, true, false, List, sym, refl, subst, arith}
use Rattle.lists.specs.Lists.{all, below}
use Rattle.lists.proofs.Tests.{clash}
use Rattle.lists.proofs.All.{all_below}
use Rattle.lists.proofs.Loops.{all_next}
use Rattle.soundness.specs.Sums.{slot_in, Added}
use Rattle.soundness.proofs.Passes.{added_none, added_zeros, added_more}
use Rattle.soundness.proofs.Rows.{rows_in, slots_more}
use Rattle.soundness.proofs.sums.History.add_rows.Goals as goal
use Rattle.soundness.proofs.sums.History.add_rows.Invariants.{small, held}

pub loop-p-init : goal.loop-p-init
unfolding all below
loop-p-init c =
    let a = c.args in
    let slots = λ (i : ℕ). slot_in a.self.numbers.now a.self.window.0 0 (a.from + i) in
    record {
      narrow = refl;
      slots = subst (λ (l : List ℕ). Added slots l l a.size) (sym c.requires.1) (added_zeros slots 100 a.size c.requires.0.small (λ i. refl));
      totals = added_none (held a.self.numbers.now a.self.window.0 a.from a.size) a.rows.now;
    }

-- one that fails
fails : (t : ℕ → Bool) (n p : ℕ) → p < n → t p ≡ false → false ≡ all t (below n)
fails t n p h e = go (all t (below n)) refl
  where
    go : (z : Bool) → all t (below n) ≡ z → false ≡ z
    go true w = clash (all_below t n w p h) e
    go false w = refl

pub returns-in_default : goal.returns-in_default
returns-in_default c =
    let a = c.args in
    record {
      fine = fails (small a.self.numbers.now a.self.window.0 a.from a.size) a.self.count c.loop-p.p c.loop-p-test.true (rw c.part.ensures at c.in_default.ensures.told);
      slots = λ e. clash e refl;
      totals = λ e. clash e refl;
    }

pub loop-p-preserved : goal.loop-p-preserved
loop-p-preserved c =
    let turn = c.loop-p in
    let a = c.args in
    let h = a.self.numbers.now in
    let w = a.self.window.0 in
    let fits = c.requires.0 in
    let part = c.part.ensures in
    let sum = c.in-Some.ensures.told in
    record {
      narrow = rw (turn.invariant.narrow, rw part at sum.0) at (sym (all_next (small h w a.from a.size) turn.p));
      slots = slots_more h w a.self.count (rows_in a.self) a.from a.size fits.ends a.sums.now turn.sums c.add_row.new.sums turn.p c.loop-p-test.true
          turn.invariant.slots (rw part at c.add_row.ensures.slots);
      totals = added_more (held h w a.from a.size) a.rows.now turn.rows turn.p _ (omega (arith, turn.invariant.totals.long)) (omega (arith, rw part at sum.1)) turn.invariant.totals;
    }
