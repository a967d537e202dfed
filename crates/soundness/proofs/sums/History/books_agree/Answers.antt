use Rattle.std.proofs.Common.{◌≡◌, ℕ, ◌+◌, Bool, true, List, replicate, refl, sym, ◌∙◌, arith}
use Rattle.lists.specs.Lists.{all, below}
use Rattle.soundness.specs.Sums.{slots_within, Added, RowsAdded}
use Rattle.soundness.proofs.Books.{slot_outside, block_high, block_next, rows_to, rows_none, rows_next, books_parts}
use Rattle.soundness.proofs.Rows.{rows_in}
use Rattle.soundness.proofs.sums.History.books_agree.Goals as goal
use Rattle.soundness.proofs.sums.History.books_agree.Goals.{else-loop-from-test, then-loop-from-test+else-not-block_within+else-from-end-from-gt100}
use Rattle.soundness.proofs.sums.History.books_agree.Invariants.{fits}

pub returns-then-self-slot : goal.returns-then-self-slot
returns-then-self-slot c =
    let a = c.args in
    let x = a.self in
    slot_outside x.numbers.now a.totals.now x.window.0 x.count a.slot.0 a.most.0 a.current.0 c.if-self-slot.true

pub loop-from-init : goal.loop-from-init
unfolding all below
loop-from-init c =
    let x = c.args.self in
    record { inside = omega arith; within = refl; rows = rows_none x.numbers.now x.window.0 x.count x.few }

pub returns-then-not-block_within : goal.returns-then-not-block_within
returns-then-not-block_within c =
    let a = c.args in
    let x = a.self in
    block_high x.numbers.now a.totals.now x.window.0 x.count a.slot.0 a.most.0 a.current.0 c.loop-from.from c.min-size.result (omega (arith, c.min-size.ensures))
    (sym c.block_within.ensures.within ∙ c.if-not-block_within.true)

-- a block of k slots more, which ends at place b
module _ (h : List ℕ) (w n most a k b : ℕ) (e : a + k ≡ b) where
  more : (r s : List ℕ) (ok : Bool) → all (fits h w n most) (below a) ≡ true → Added (rows_to h w a) (replicate 16 0) r n
      → ok ≡ all (λ i. fits h w n most (a + i)) (below k) → (ok ≡ true → RowsAdded h w n a k r s) → ok ≡ true
      → (all (fits h w n most) (below b) ≡ true) × Added (rows_to h w b) (replicate 16 0) s n
  more r s ok f g x y z = (rw e at (block_next (fits h w n most) a k f (sym x ∙ z)), rw e at (rows_next h w n a k r s g (y z)))

pub loop-from-preserved : goal.loop-from-preserved
loop-from-preserved c =
    let x = c.args.self in
    let turn = c.loop-from in
    let block = c.block_within in
    let next = more x.numbers.now x.window.0 x.count c.args.most.0 turn.from c.min-size.result (turn.from + 100) (omega arith) turn.rows block.new.rows
    block.result turn.invariant.within turn.invariant.rows block.ensures.within block.ensures.rows c.if-not-block_within.false in
    record { inside = omega arith; within = next.0; rows = next.1 }

pub returns : goal.returns
returns c =
    let a = c.args in
    let x = a.self in
    let h = x.numbers.now in
    let done : (slots_within h x.window.0 x.count a.most.0 ≡ true) × Added (rows_to h x.window.0 x.window.0) (replicate 16 0) c.loop-from-test.rows x.count =
    elim c.loop-from-test.branch [
      | else-loop-from-test w ↦
          let turn = c.loop-from in
          let e : turn.from ≡ x.window.0 = omega (arith, w.loop-from-test.false) in
          rw w.rows-is (rw e at turn.invariant.within, rw e at turn.invariant.rows)
      | then-loop-from-test+else-not-block_within+else-from-end-from-gt100 w ↦
          let turn = c.loop-from in
          let block = w.block_within in
          rw w.rows-is (more h x.window.0 x.count a.most.0 turn.from w.min-size.result x.window.0 (omega arith) turn.rows block.new.rows
          block.result turn.invariant.within turn.invariant.rows block.ensures.within block.ensures.rows w.if-not-block_within.false)
    ] in
    books_parts h x.window.0 x.count a.most.0 (rows_in x) c.requires done.0 a.totals.now c.loop-from-test.rows a.slot.0 a.current.0 c.slot_sum.result _
    c.if-self-slot.false done.1 (omega arith) c.eq.ensures c.slot_sum.ensures
