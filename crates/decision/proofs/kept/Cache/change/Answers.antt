use mathlib.Core.Path.{sym, ◌∙◌}
use Prim.Native.Nat.{◌+◌, ◌<◌, ◌≤◌}
use lib.ListN.{get_or, take}
use Rattle.decision.specs.Leads.{tops_of, firsts_of}
use Rattle.decision.proofs.LeadsArray.{tops_set, firsts_set, top_at, first_at}
use Rattle.decision.proofs.LeadsLaws.{change_none, change_up, change_other, change_same, change_stale}
use Rattle.decision.proofs.kept.Cache.change.Goals as goal
use Rattle.decision.proofs.kept.Cache.change.Goals.{else-lead-t-via-then-lead-t+else-lead-level-2, else-lead-t-via-else-lead-t}

pub returns-then-not-allowed-clause-kept : goal.returns-then-not-allowed-clause-kept
returns-then-not-allowed-clause-kept c =
    let q = c.args.queue in
    change_none q.core q.partitions.now q.priorities.now q.masks.now (take q.queued q.queue.now) (tops_of c.args.self.now.leads) (firsts_of c.args.self.now.leads)
    c.args.self.now.sets.competing c.args.t c.requires.2 (sym c.allowed.ensures ∙ c.if-not-allowed.true)

pub returns-then-lead-level-clause-kept : goal.returns-then-lead-level-clause-kept
returns-then-lead-level-clause-kept c =
    let q = c.args.queue in
    let leads = c.args.self.now.leads in
    let p = get_or q.partitions.now c.args.t 0 in
    let level = c.level_of-level.ensures in
    let up : get_or (tops_of leads) p 0 < get_or q.priorities.now c.args.t 0 + 1 = rw (top_at leads p, ← level) c.if-lead-level.true in
    rw (tops_set leads p _, firsts_set leads p _, level)
    (change_up q.core q.partitions.now q.priorities.now q.masks.now (take q.queued q.queue.now) (tops_of leads) (firsts_of leads)
    c.args.self.now.sets.competing c.args.t c.requires.2 (sym c.allowed.ensures ∙ c.if-not-allowed.false) up)

pub returns-else-lead-t-clause-kept : goal.returns-else-lead-t-clause-kept
returns-else-lead-t-clause-kept c =
    let q = c.args.queue in
    let leads = c.args.self.now.leads in
    let p = get_or q.partitions.now c.args.t 0 in
    let level = c.level_of-level.ensures in
    let ok = sym c.allowed.ensures ∙ c.if-not-allowed.false in
    let low : get_or q.priorities.now c.args.t 0 + 1 ≤ get_or (tops_of leads) p 0 = rw (top_at leads p, ← level) c.if-lead-level.false in
    elim c.else-lead-t.branch [
      | else-lead-t-via-then-lead-t+else-lead-level-2 w ↦
          change_same q.core q.partitions.now q.priorities.now q.masks.now (take q.queued q.queue.now) (tops_of leads) (firsts_of leads)
          c.args.self.now.sets.competing c.args.t c.requires.2 ok (first_at leads p ∙ w.if-lead-t.true) (sym level ∙ sym w.if-lead-level-2.false ∙ sym (top_at leads p))
      | else-lead-t-via-else-lead-t w ↦
          change_other q.core q.partitions.now q.priorities.now q.masks.now (take q.queued q.queue.now) (tops_of leads) (firsts_of leads)
          c.args.self.now.sets.competing c.args.t c.requires.2 ok low (rw (first_at leads p) w.if-lead-t.false)
    ]

pub renew-requires : goal.renew-requires
renew-requires c =
    let q = c.args.queue in
    let leads = c.args.self.now.leads in
    let p = get_or q.partitions.now c.args.t 0 in
    let low : get_or q.priorities.now c.args.t 0 + 1 ≤ get_or (tops_of leads) p 0 = rw (top_at leads p, ← c.level_of-level.ensures) c.if-lead-level.false in (
      c.requires.1,
      change_stale q.core q.partitions.now q.priorities.now q.masks.now (take q.queued q.queue.now) (tops_of leads) (firsts_of leads)
          c.args.self.now.sets.competing c.args.t c.requires.2 (sym c.allowed.ensures ∙ c.if-not-allowed.false) low c.only.result c.only.ensures,
    )
