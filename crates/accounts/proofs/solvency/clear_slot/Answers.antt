use mathlib.Core.Path.{refl, ap, ◌∙◌}
use Prim.Native.Nat.{◌+◌, ◌-◌, ◌*◌, ◌≤◌, ◌<◌}
use native.Mathlib.Omega.{arith}
use borrow.Rule.Slice.PartMut.{put_mid}
use lib.ListN.{length, length-take, length-drop}
use Rattle.lists.proofs.Parts.{row_end}
use Rattle.model.specs.Step.{clear_history}
use Rattle.accounts.specs.Lowered.{lowered}
use Rattle.accounts.proofs.SolvencyLaws.{reweighed_twice, clear_covers, clear_total, clear_place}
use Rattle.accounts.proofs.solvency.clear_slot.Goals as goal

pub loop-p-init : goal.loop-p-init
unfolding lowered clear_history
loop-p-init c = (refl, refl, λ n few h. h)

pub clear_in_row-set-requires : goal.clear_in_row-set-requires
clear_in_row-set-requires c =
    let a = c.args in
    let turn = c.loop-p in
    let at = turn.p * a.window.0 in
    -- the row of this turn's partition lies within the history
    let ends : at + a.window.0 ≤ length turn.history = omega (arith, row_end turn.p a.count a.window.0 c.loop-p-test.true) in
    let inside : a.slot.0 < at + a.window.0 - at = omega (arith, c.requires.inside) in (
      omega arith,
      simp (length-take, length-drop) (omega arith),
      clear_covers a.window.0 a.slot.0 a.used.now a.history.now turn.p (at + a.window.0 - at) turn.used turn.history c.requires.inside inside
          turn.invariant.0 turn.invariant.1 (c.requires.covers turn.p c.loop-p-test.true),
    )

pub loop-p-preserved : goal.loop-p-preserved
loop-p-preserved c =
    let a = c.args in
    let turn = c.loop-p in
    let row = c.clear_in_row-set in
    let at = turn.p * a.window.0 in
    let n = at + a.window.0 - at in
    let inside : a.slot.0 < n = omega (arith, c.requires.inside) in (
      row.ensures.0 ∙ clear_total a.window.0 a.slot.0 a.used.now a.history.now turn.p n turn.used turn.history c.requires.inside inside turn.invariant.0 turn.invariant.1,
      ap (put_mid at n turn.history) row.ensures.1
          ∙ clear_place a.window.0 a.slot.0 a.used.now a.history.now turn.p n turn.used turn.history c.requires.inside inside turn.invariant.0 turn.invariant.1,
      reweighed_twice a.used.now turn.used row.new.used a.budgets.now a.need.0 a.solvent turn.set row.result turn.invariant.2 row.ensures.2,
    )
