-- `sound_queue` is the test of the ready queue.
use borrow.Author.Tests.{le-leb}
use Rattle.soundness.proofs.Parts.{queue_parts}
use Rattle.soundness.proofs.queue.sound_queue.Goals as goal

pub returns : goal.returns
returns c =
    let a = c.args in
    queue_parts a.ready.now a.queue.now a.queued _ _ _ _ (le-leb a.queued 64 c.if-queued-gt64.false)
    c.mark-once.ensures c.equal.ensures c.zeros_from.ensures
