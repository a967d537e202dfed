use mathlib.Core.Path.{sym, ap, ◌∙◌}
use lib.ListN.{length, length-set}
use Rattle.threads.proofs.TurnsLaws.{turned_last}
use Rattle.threads.proofs.turns.turn.Goals as goal

pub returns-then-last : goal.returns-then-last
returns-then-last c =
    let a = c.args in
    let on = c.requires.1.inside c.if-running-eq-IDLE.false in
    let last = sym c.is_spent-last.ensures ∙ c.if-last.true in (
      c.is_spent-last.ensures,
      turned_last a.policies.now a.slices.now a.queue.now a.queued a.running _ c.requires.1.slices on c.count_running.ensures _ last c.to_tail.ensures,
      ap length c.count_running.ensures ∙ length-set a.slices.now a.running _ ∙ c.requires.1.slices,
    )
