use mathlib.Core.Path.{sym, ◌∙◌}
use Prim.Native.Nat.{◌+◌, ◌*◌, ◌-◌}
use native.Mathlib.Omega.{arith}
use Rattle.threads.proofs.Searches.{passed}
use Rattle.threads.proofs.queue.skip.Goals as goal

pub loop-i-preserved : goal.loop-i-preserved
loop-i-preserved c =
    let i = c.loop-i.i in
    passed c.args.entries.now c.args.t i (16 * i + 16 - 16 * i) (omega arith) c.loop-i.invariant (sym c.contains.ensures.value ∙ c.if-contains.false)
