use Rattle.std.proofs.Common.{◌≡◌, ℕ, ◌<◌, ◌&&◌, eqb, ltb, List, length, get_or, take, sym, refl, subst, arith}
use Rattle.lists.specs.Lists.{all, distinct}
use Rattle.lists.proofs.Loops.{all_take}
use Rattle.lists.proofs.Union.{or_below}
use Rattle.soundness.specs.Queue.{Seen, SeenOnce}
use Rattle.soundness.proofs.Marking.{rests, seen_none, again_more, seen_more, marked}
use Rattle.soundness.proofs.queue.mark.Goals as goal

pub loop-i-init : goal.loop-i-init
unfolding all distinct
loop-i-init c =
    let q = c.args.queue.now in
    record { once = refl; low = refl; marks = subst (λ (l : List ℕ). Seen l (take 0 (rests q))) (sym c.requires.1) (seen_none q) }

pub loop-i-preserved : goal.loop-i-preserved
loop-i-preserved c =
    let turn = c.loop-i in
    let q = c.args.queue.now in
    let here : turn.i < length q = omega arith in
    record {
      once = again_more q turn.i turn.seen here turn.invariant.marks turn.again turn.invariant.once;
      low = rw (← or_below 6 turn.bits (get_or q turn.i 0), turn.invariant.low) (all_take (λ t. ltb t 64) q turn.i here);
      marks = seen_more q turn.i turn.seen here turn.invariant.marks (omega arith);
    }

pub returns : goal.returns
returns c =
    let turn = c.loop-i in
    let q = c.args.queue.now in
    let e : turn.i ≡ c.args.n = omega arith in
    subst (λ (k : ℕ). SeenOnce (take k q) (eqb turn.again 0 && ltb turn.bits 64) turn.seen) e
    (marked turn.i q turn.seen _ _ turn.invariant.once turn.invariant.low turn.invariant.marks)
