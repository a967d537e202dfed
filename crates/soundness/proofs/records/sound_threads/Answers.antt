use Rattle.std.proofs.Common.{◌≡◌, ℕ, ◌+◌, Bool, ◌&&◌, ap, ◌∙◌, arith, lt-ltb}
use Rattle.lists.specs.Lists.{all, below}
use Rattle.lists.proofs.Loops.{all_next}
use Rattle.model.specs.Arrays.{Columns, columns}
use Rattle.soundness.specs.Records.{sound_records}
use Rattle.soundness.proofs.Clauses.{fine, fine_more, fine_all}
use Rattle.soundness.proofs.records.sound_threads.Goals as goal

-- one thread more, and all 64
module _ (count : ℕ) (ts : Columns) (t : ℕ) (x : Bool) (e : x ≡ all (fine count ts) (below t)) where
  more : {y : Bool} → y ≡ (x && fine count ts t) → y ≡ all (fine count ts) (below (t + 1))
  more f = f ∙ rw e (all_next (fine count ts) t)

  last : t ≡ 64 → x ≡ sound_records count ts
  last f = e ∙ ap (λ (k : ℕ). all (fine count ts) (below k)) f ∙ fine_all count ts

pub loop-t-init : goal.loop-t-init
unfolding all below
loop-t-init c = lt-ltb 0 c.args.count c.requires

pub loop-t-preserved : goal.loop-t-preserved
loop-t-preserved c =
    let turn = c.loop-t in
    let a = c.args in
    let ts = columns a.exists.now a.ready.now a.partitions.now a.priorities.now a.masks.now a.policies.now a.slices.now in
    rw (c.max-most.ensures, c.min-least.ensures) (more a.count ts turn.t _ turn.invariant (fine_more a.count ts turn.t turn.rest turn.least turn.most _ _ _ _
    c.requires c.of_absent.ensures c.of_existing.ensures c.wrong_turn.ensures c.wrong_flag.ensures))

pub returns : goal.returns
returns c =
    let turn = c.loop-t in
    let a = c.args in
    let ts = columns a.exists.now a.ready.now a.partitions.now a.priorities.now a.masks.now a.policies.now a.slices.now in
    last a.count ts turn.t _ turn.invariant (omega arith)
