use Rattle.std.proofs.Common.{◌≡◌, ◌<◌, length, get_or, ltb, refl, ◌∙◌, sym, arith, lt-ltb, le-ltb}
use lib.Seq.{take-length}
use Rattle.lists.specs.Lists.{all, below}
use Rattle.lists.proofs.Loops.{all_next}
use Rattle.lists.proofs.Union.{or_below}
use Rattle.soundness.specs.Sums.{all_narrow}
use Rattle.soundness.proofs.Passes.{sum_wraps, added_none, added_more}
use Rattle.soundness.proofs.sums.add_row.Goals as goal

pub loop-k-init : goal.loop-k-init
unfolding all below
loop-k-init c = record { narrow = refl; total = refl; slots = added_none (λ i. get_or c.args.row.now i 0) c.args.sums.now }

pub loop-k-preserved : goal.loop-k-preserved
loop-k-preserved c =
    let turn = c.loop-k in
    let l = c.args.row.now in
    let here : turn.k < length l = omega arith in
    record {
      narrow = rw (← or_below 22 turn.bits (get_or l turn.k 0), turn.invariant.narrow) (all_next (λ i. ltb (get_or l i 0) 4194304) turn.k);
      total = sum_wraps l turn.k turn.sum _ here turn.invariant.total refl;
      slots = added_more (λ i. get_or l i 0) c.args.sums.now turn.sums turn.k _ (omega arith) refl turn.invariant.slots;
    }

pub returns-then-narrow : goal.returns-then-narrow
unfolding all_narrow
returns-then-narrow c =
    let turn = c.loop-k in
    let l = c.args.row.now in
    let e : turn.k ≡ length l = omega arith in
    record {
      told = (sym (rw e at turn.invariant.narrow) ∙ lt-ltb turn.bits 4194304 c.if-narrow.true, rw (e, take-length l) at turn.invariant.total);
      slots = rw e at turn.invariant.slots;
    }

pub returns-else-narrow : goal.returns-else-narrow
unfolding all_narrow
returns-else-narrow c =
    let turn = c.loop-k in
    let l = c.args.row.now in
    let e : turn.k ≡ length l = omega arith in
    record {
      told = sym (rw e at turn.invariant.narrow) ∙ le-ltb turn.bits 4194304 c.if-narrow.false;
      slots = rw e at turn.invariant.slots;
    }
