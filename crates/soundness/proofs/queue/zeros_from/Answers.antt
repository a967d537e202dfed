use Rattle.std.proofs.Common.{eqb, get_or, sym, ◌∙◌, arith}
use mathlib.Core.Bool.{and-true}
use Rattle.lists.proofs.Loops.{all_drop, all_past}
use Rattle.lists.proofs.Union.{or_none}
use Rattle.soundness.proofs.Parts.{zero_same}
use Rattle.soundness.proofs.queue.zeros_from.Goals as goal

pub loop-i-preserved : goal.loop-i-preserved
loop-i-preserved c =
    let turn = c.loop-i in
    let q = c.args.queue.now in
    let x = get_or q turn.i 0 in
    rw (← or_none turn.bits x, zero_same x) (all_drop (eqb 0) q turn.i (eqb turn.bits 0) (omega arith)) ∙ turn.invariant

pub returns : goal.returns
returns c =
    let turn = c.loop-i in
    sym (and-true (eqb turn.bits 0)) ∙ (rw (all_past (eqb 0) c.args.queue.now turn.i (omega arith)) at turn.invariant)
