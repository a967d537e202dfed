use mathlib.Core.Path.{◌≡◌, subst, ◌∙◌}
use mathlib.Core.List.{List, [], ◌∷◌, ◌++◌}
use Prim.Native.Nat.{ℕ, ◌+◌}
use native.Mathlib.Numerals.{add-one}
use lib.ListN.{get_or, take}
use lib.Seq.{take-suc}
use Rattle.std.proofs.lemmas.List.{take_all}
use Rattle.decision.specs.Leads.{tops_of, firsts_of}
use Rattle.decision.specs.Keeping.{KeptIn}
use Rattle.decision.proofs.LeadsArray.{alone_none, alone_then}
use Rattle.decision.proofs.LeadsLaws.{kept_none}
use Rattle.decision.proofs.kept.Cache.build.Goals as goal

pub loop-t-init : goal.loop-t-init
loop-t-init c = let q = c.args.queue in (alone_none _ 0, kept_none q.core q.partitions.now q.priorities.now q.masks.now)

pub loop-t-preserved : goal.loop-t-preserved
loop-t-preserved c =
    let q = c.args.queue in
    let turn = c.loop-t in
    let l = c.line-t-items.result.now in
    let i = turn.t-index in
    let x = c.join.new.self in
    let e : take i l ++ (get_or l i 0 ∷ []) ≡ take (i + 1) l = rw (add-one, take-suc l i 0 c.loop-t-test.true) in (
      alone_then turn.invariant.0 c.join.ensures.rest,
      subst (λ (k : List ℕ). KeptIn q.core q.partitions.now q.priorities.now q.masks.now k (tops_of x.leads) (firsts_of x.leads) x.sets.competing) e
          (c.join.ensures.joined (take i l) turn.invariant.1),
    )

pub returns : goal.returns
returns c =
    let q = c.args.queue in
    let l = c.line-t-items.result.now in
    let x = c.loop-t.self in
    let e : take c.loop-t.t-index l ≡ take q.queued q.queue.now = take_all c.loop-t.t-index l c.loop-t-test.false ∙ c.line-t-items.ensures in
    record {
      kept = subst (λ (k : List ℕ). KeptIn q.core q.partitions.now q.priorities.now q.masks.now k (tops_of x.leads) (firsts_of x.leads) x.sets.competing) e c.loop-t.invariant.1;
      rest = c.loop-t.invariant.0;
    }
