use Rattle.std.proofs.Common.{◌≡◌, ℕ, get_or, refl, ap, ◌∙◌, arith}
use Rattle.lists.specs.Lists.{all, below}
use Rattle.lists.proofs.Loops.{all_next}
use Rattle.sheet.specs.Settings.{share}
use Rattle.soundness.specs.Refused.{rest_zero}
use Rattle.soundness.proofs.Whole.{none_past}
use Rattle.soundness.proofs.rest_zero.Goals as goal
use Rattle.soundness.proofs.rest_zero.Invariants.{none}

pub loop-p-init : goal.loop-p-init
unfolding all below
loop-p-init c = refl

pub loop-p-preserved : goal.loop-p-preserved
loop-p-preserved c =
    let a = c.args in
    let turn = c.loop-p in
    none_past turn.p a.settings.now.count (share a.settings.now turn.p) (get_or a.used.now turn.p 0) turn.bits _ c.past-bits.ensures
    ∙ rw turn.invariant (all_next (none a.settings.now a.used.now) turn.p)

pub returns : goal.returns
unfolding rest_zero
returns c =
    let a = c.args in
    let e : c.loop-p.p ≡ 16 = omega arith in
    c.loop-p.invariant ∙ ap (λ (i : ℕ). all (none a.settings.now a.used.now) (below i)) e
