use mathlib.Core.Path.{◌≡◌, refl, sym, ap, ◌∙◌}
use mathlib.Core.List.{List, [], ◌∷◌, ◌++◌, append_assoc, append-nil}
use Prim.Native.Nat.{ℕ}
use native.Mathlib.Omega.{arith}
use lib.ListN.{length, get_or, take}
use Rattle.decision.specs.Leads.{lead_in, numbers, runnable, tops_of, firsts_of}
use Rattle.decision.proofs.LeadsArray.{alone_none, alone_then, tops_set, firsts_set, top_at}
use Rattle.decision.proofs.LeadsLaws.{stale_none, stale_step, walk_none, walk_past, walk_here, walk_stop, next_inside}
use Rattle.decision.proofs.kept.Cache.renew.Goals as goal
use Rattle.decision.proofs.kept.Cache.renew.Goals.{in_default, in-Some-next+then-may_run+then-best-ceiling}

none_left : (l : List ℕ) → length l ≡ 0 → l ≡ []
none_left [] e = refl
none_left (x ∷ l) e = let z : ⊥ = omega (arith, e) in absurd z

pub loop-t-init : goal.loop-t-init
loop-t-init c =
    let q = c.args.queue in
    ([], c.iter-line.ensures.rest ∙ c.line.ensures, walk_none q.core q.partitions.now q.priorities.now q.masks.now c.in-Some.p)

pub bounds-queue-at : goal.bounds-queue-at
bounds-queue-at c =
    let (seen, e, f) = c.loop-t.invariant in
    next_inside _ _ _ _ c.requires.0 seen _ _ _ e c.in-Some-next.ensures.steps

pub bounds-queue-at-in-loop-t : goal.bounds-queue-at-in-loop-t
bounds-queue-at-in-loop-t c =
    let (seen, e, f) = c.loop-t.invariant in
    next_inside _ _ _ _ c.requires.0 seen _ _ _ e c.in-Some-next.ensures.steps

pub bounds-queue-at-then-may_run : goal.bounds-queue-at-then-may_run
bounds-queue-at-then-may_run c =
    let (seen, e, f) = c.loop-t.invariant in
    next_inside _ _ _ _ c.requires.0 seen _ _ _ e c.in-Some-next.ensures.steps

pub loop-t-preserved-else-best-ceiling : goal.loop-t-preserved-else-best-ceiling
loop-t-preserved-else-best-ceiling c =
    let q = c.args.queue in
    let t = c.in-Some-next.t.now in
    let (seen, e, f) = c.loop-t.invariant in (
      seen ++ (t ∷ []),
      append_assoc seen (t ∷ []) _ ∙ ap (λ (l : List ℕ). seen ++ l) (sym c.in-Some-next.ensures.steps) ∙ e,
      walk_here q.core q.partitions.now q.priorities.now q.masks.now c.in-Some.p seen t c.loop-t.best c.raise-best.result
          (sym c.may_run.ensures ∙ c.if-may_run.true) f c.raise-best.ensures,
    )

pub loop-t-preserved : goal.loop-t-preserved
loop-t-preserved c =
    let q = c.args.queue in
    let t = c.in-Some-next.t.now in
    let (seen, e, f) = c.loop-t.invariant in (
      seen ++ (t ∷ []),
      append_assoc seen (t ∷ []) _ ∙ ap (λ (l : List ℕ). seen ++ l) (sym c.in-Some-next.ensures.steps) ∙ e,
      walk_past q.core q.partitions.now q.priorities.now q.masks.now c.in-Some.p seen t c.loop-t.best (sym c.may_run.ensures ∙ c.if-may_run.false) f,
    )

pub loop-p-preserved : goal.loop-p-preserved
loop-p-preserved c =
    let q = c.args.queue in
    let leads = c.loop-p.self.leads in
    let p = c.in-Some.p in
    let step = c.in-Some.ensures.steps in
    let line = take q.queued q.queue.now in
    let (seen, e, f) = c.loop-t.invariant in
    let lead : c.match-next-2.lead ≡ lead_in (numbers q.priorities.now) (runnable q.core q.partitions.now q.masks.now p line) =
    elim c.match-next-2.branch [
      | in_default w ↦
          let whole : seen ≡ line = sym (append-nil seen) ∙ ap (λ (l : List ℕ). seen ++ l) (sym (none_left _ w.in_default.ensures.steps.0)) ∙ e in
          w.lead-is ∙ f ∙ ap (λ (l : List ℕ). lead_in (numbers q.priorities.now) (runnable q.core q.partitions.now q.masks.now p l)) whole
      | in-Some-next+then-may_run+then-best-ceiling w ↦
          let t = w.in-Some-next.t.now in
          let rest = c.next-in-loop-t.new.self.rest.now in
          let here = walk_here q.core q.partitions.now q.priorities.now q.masks.now p seen t c.loop-t.best w.raise-best.result
          (sym w.may_run.ensures ∙ w.if-may_run.true) f w.raise-best.ensures in
          let whole : (seen ++ (t ∷ [])) ++ rest ≡ line = append_assoc seen (t ∷ []) rest ∙ ap (λ (l : List ℕ). seen ++ l) (sym w.in-Some-next.ensures.steps) ∙ e in
          w.lead-is ∙ walk_stop q.core q.partitions.now q.priorities.now q.masks.now p (seen ++ (t ∷ [])) rest (get_or (tops_of leads) p 0) w.raise-best.result
          here (w.if-best-ceiling.true ∙ sym (top_at leads p)) (rw whole (c.loop-p.invariant.1.below p step.0.inside step.0.here))
          ∙ ap (λ (l : List ℕ). lead_in (numbers q.priorities.now) (runnable q.core q.partitions.now q.masks.now p l)) whole
    ] in
    let stale = stale_step q.core q.partitions.now q.priorities.now q.masks.now line (tops_of leads) (firsts_of leads) c.loop-p.self.sets.competing
    c.loop-p.p-iterator.0 p c.next.new.self.0 c.mark-self.result c.match-next-2.lead step.0 (step.1.1 p step.0) lead c.mark-self.ensures c.loop-p.invariant.1 in
    (alone_then c.loop-p.invariant.0 (alone_none _ _), rw (tops_set leads p c.match-next-2.lead, firsts_set leads p c.match-next-2.lead) stale)

pub returns : goal.returns
returns c =
    let q = c.args.queue in
    let x = c.loop-p.self in
    record {
      kept =
          stale_none q.core q.partitions.now q.priorities.now q.masks.now (take q.queued q.queue.now) (tops_of x.leads) (firsts_of x.leads) x.sets.competing
          c.loop-p.p-iterator.0 c.in-None.ensures.steps.0 c.loop-p.invariant.1;
      rest = c.loop-p.invariant.0;
    }
