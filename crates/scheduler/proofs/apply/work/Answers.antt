use mathlib.Core.Path.{refl, sym, ap, subst}
use Prim.Native.Nat.{ℕ}
use mathlib.Core.List.{List}
use lib.ListN.{take, get_or}
use Rattle.sheet.specs.Settings.{need}
use Rattle.model.specs.Arrays.{Columns, columns}
use Rattle.accounts.specs.Solvency.{Reweighed}
use Rattle.decision.specs.Keeping.{KeptIn}
use Rattle.decision.specs.Leads.{tops_of, firsts_of}
use Rattle.decision.specs.Follow.{Followed}
use Rattle.scheduler.proofs.EffectsLaws.{inside, payable, able, followed, applied, to_queue, of_queue}
use Rattle.scheduler.proofs.apply.work.Goals as goal
use Rattle.scheduler.proofs.apply.work.Goals.{After-act-queued}

-- the threads as the action left them
abbrev acted : After-act-queued → Columns
acted c =
    let y = c.act-queued.new in
    columns y.exists y.ready y.partitions y.priorities y.masks y.policies y.slices

pub bounds-state-event : goal.bounds-state-event
bounds-state-event c = let g = c.requires in inside g.0 g.1 g.2

pub pay-paid-requires : goal.pay-paid-requires
pay-paid-requires c = let g = c.requires in payable g.0 g.2

pub act-queued-requires : goal.act-queued-requires
act-queued-requires c = let g = c.requires in able g.0 g.1 g.2

pub follow-requires : goal.follow-requires
follow-requires c =
    let a = c.args in
    let g = c.requires in
    let d = c.pay-paid in
    let f = c.act-queued in
    let y = f.new in
    let s = c.seen-seen in
    let k = a.cache.now in
    let home = get_or a.state.now.partitions.now a.event.thread 0 in
    to_queue s.ensures c.of.ensures
    (λ core p n m q i. Followed core s.result.ready.now p n m q i (tops_of k.leads) (firsts_of k.leads) k.sets.competing a.event.action a.event.thread home)
    (subst (λ (r : List ℕ). Followed a.settings.core r y.partitions y.priorities y.masks y.queue f.result (tops_of k.leads) (firsts_of k.leads) k.sets.competing a.event.action a.event.thread home)
    (sym (ap (λ (t : Columns). t.ready) s.ensures.threads))
    (followed g.0 g.1 g.2 d.new.used d.result.clock d.new.history (acted (goal.at.follow-requires c).After-act-queued) y.queue f.result d.ensures.0 f.ensures.acted f.ensures.regular a.event.action a.event.thread home refl refl refl))

pub returns-clause-applied : goal.returns-clause-applied
returns-clause-applied c =
    let a = c.args in
    let x = a.state.now in
    let g = c.requires in
    let d = c.pay-paid in
    let f = c.act-queued in
    let l = c.follow in
    let z = l.new.self in
    applied g.0 g.1 g.2 d.new.used d.result.clock d.new.history (acted (goal.at.returns-clause-applied c).After-act-queued) f.new.queue f.result d.ensures.0
    f.ensures.acted f.ensures.regular l.ensures.rest.budgets l.ensures.rest.paying
    (subst (λ (n : ℕ). Reweighed x.used.now d.new.used a.cache.now.budgets (need a.settings) a.cache.now.sets.solvent n) (sym l.ensures.rest.solvent) d.ensures.1)
    (of_queue c.seen-seen.ensures c.of.ensures (λ core p n m q i. KeptIn core p n m (take i q) (tops_of z.leads) (firsts_of z.leads) z.sets.competing) l.ensures.kept)
