use mathlib.Core.Path.{◌≡◌, refl, ap, ◌∙◌}
use Prim.Native.Nat.{ℕ, ◌≤◌, ◌-◌, ◌*◌, ◌+◌}
use native.Mathlib.Omega.{arith}
use borrow.Rule.Slice.PartMut.{put_mid}
use lib.ListN.{length, take, drop, replicate, length-take, length-drop}
use Rattle.lists.proofs.Parts.{row_end}
use Rattle.accounts.proofs.HistoryLaws.{cleared_more}
use Rattle.accounts.proofs.history.clear_rows.Goals as goal

pub loop-p-preserved : goal.loop-p-preserved
loop-p-preserved c =
    let turn = c.loop-p in
    let w = c.args.window.0 in
    let at = turn.p * w in
    let n = at + w - at in
    -- this turn's row lies within the history
    let ends : at + w ≤ length turn.history = omega (arith, row_end turn.p c.args.count w c.loop-p-test.true) in
    let size : n ≡ w = omega arith in
    let long : length (take n (drop at turn.history)) ≡ w = simp (length-take, length-drop) (omega arith) in
    let row : c.clear_row.new.row ≡ replicate w 0 = c.clear_row.ensures ∙ ap (λ (k : ℕ). replicate k 0) long in
    ap (put_mid at n turn.history) row ∙ cleared_more w turn.p n c.args.history.now turn.history (replicate w 0) size refl turn.invariant
