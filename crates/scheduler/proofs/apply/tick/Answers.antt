use mathlib.Core.Path.{sym, ap, subst, transport, ◌∙◌}
use Prim.Native.Nat.{ℕ}
use lib.ListN.{take}
use Rattle.sheet.specs.Settings.{need}
use Rattle.model.specs.Arrays.{columns_in, with_slice_column, state_of}
use Rattle.model.specs.Step.{saved}
use Rattle.event.specs.Bytes.{bytes_of}
use Rattle.accounts.specs.Solvency.{Reweighed}
use Rattle.decision.specs.Keeping.{KeptIn}
use Rattle.decision.specs.Leads.{tops_of, firsts_of}
use Rattle.decision.specs.Follow.{FollowedTurn}
use Rattle.decision.specs.declared.kept.Cache.{Cache}
use Rattle.scheduler.specs.Effects.{Ready, Applied, Ticked}
use Rattle.scheduler.proofs.EffectsLaws.{not_resume, ticking, turning, followed_turn, tick_applied, to_queue, of_queue}
use Rattle.scheduler.proofs.apply.tick.Goals as goal
use Rattle.scheduler.proofs.apply.tick.Goals.{After-advance-after}

-- what was ready is ready among the threads and the queue as the charge and the move left them, and what these did they did among those
ready : (c : After-advance-after) → let a = c.args in let x = a.state.now in let y = c.advance-after.new.state in
    Ready a.settings x.used.now a.clock (columns_in y) y.queue.now x.history.now a.cache.now.budgets (tops_of a.cache.now.leads) (firsts_of a.cache.now.leads) a.cache.now.sets a.event
ready c =
    let a = c.args in
    let x = a.state.now in
    let d = c.advance-after.ensures in
    transport (λ i. Ready a.settings x.used.now a.clock (sym d.threads i) (sym d.queue i) x.history.now a.cache.now.budgets (tops_of a.cache.now.leads) (firsts_of a.cache.now.leads) a.cache.now.sets a.event) c.requires.0

ticked : (c : After-advance-after) → let a = c.args in let x = a.state.now in let y = c.advance-after.new.state in
    Ticked a.settings x.used.now a.clock y.partitions.now x.history.now y.used.now c.advance-after.result y.history.now a.event.stamp
ticked c =
    let a = c.args in
    let x = a.state.now in
    let y = c.advance-after.new.state in
    let d = c.advance-after.ensures in
    transport (λ i. Ticked a.settings x.used.now a.clock (sym d.threads i).partitions x.history.now y.used.now c.advance-after.result y.history.now a.event.stamp) d.ticked

pub advance-after-requires : goal.advance-after-requires
advance-after-requires c = ticking c.requires.0 (not_resume c.args.event c.requires.1)

pub turn-ended-requires : goal.turn-ended-requires
turn-ended-requires c = turning (ready (goal.at.turn-ended-requires c).After-advance-after)

pub follow_turn-requires : goal.follow_turn-requires
follow_turn-requires c =
    let t = (goal.at.follow_turn-requires c).After-advance-after in
    let a = t.args in
    let d = t.advance-after in
    let y = d.new.state in
    let f = c.turn-ended in
    to_queue c.seen.ensures c.of-queue.ensures
    (λ core p n m q k. FollowedTurn core p n m q k (tops_of d.new.cache.leads) (firsts_of d.new.cache.leads) d.new.cache.sets.competing a.clock.running f.result)
    (subst (λ (z : Cache). FollowedTurn a.settings.core y.partitions.now y.priorities.now y.masks.now f.new.queue a.clock.queued (tops_of z.leads) (firsts_of z.leads) z.sets.competing a.clock.running f.result) (sym d.ensures.kept)
    (followed_turn (ready t) t.requires.1 _ _ _ (ticked t) _ _ f.ensures.1 f.ensures.2 f.result f.ensures.0))

pub returns-clause-applied : goal.returns-clause-applied
returns-clause-applied c =
    let t = (goal.at.returns-clause-applied c).After-advance-after in
    let a = t.args in
    let x = a.state.now in
    let d = t.advance-after in
    let e = d.ensures in
    let y = d.new.state in
    let f = c.turn-ended in
    let l = c.follow_turn in
    let z = l.new.self in
    transport (λ i. Applied a.settings (saved (state_of a.settings x.used.now a.clock (e.threads i) (e.queue i)) x.history.now) y.used.now d.result (with_slice_column (columns_in y) f.new.slices) f.new.queue y.history.now z.budgets (tops_of z.leads) (firsts_of z.leads) z.sets (bytes_of a.event))
    (tick_applied (ready t) t.requires.1 _ _ _ (ticked t) _ _ f.ensures.1 f.ensures.2
    (l.ensures.rest.budgets ∙ ap (λ (z : Cache). z.budgets) e.kept) (l.ensures.rest.paying ∙ ap (λ (z : Cache). z.sets.paying) e.kept)
    (subst (λ (n : ℕ). Reweighed x.used.now y.used.now a.cache.now.budgets (need a.settings) a.cache.now.sets.solvent n) (sym l.ensures.rest.solvent) e.weighed)
    (of_queue c.seen.ensures c.of-queue.ensures (λ core p n m q k. KeptIn core p n m (take k q) (tops_of z.leads) (firsts_of z.leads) z.sets.competing) l.ensures.kept))
