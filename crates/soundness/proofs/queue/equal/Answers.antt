use Rattle.std.proofs.Common.{◌≡◌, ℕ, eqb, get_or, refl, arith, eq-eqb, ne_eqb}
use lib.Bits.{bit_xor, xor_self, xor_add_and, and_le_l, and_le_r}
use native.Mathlib.Decide.{ℕ_discrete}
use Rattle.lists.specs.Lists.{all, below}
use Rattle.lists.proofs.Loops.{all_next}
use Rattle.lists.proofs.Union.{or_none}
use Rattle.soundness.proofs.queue.equal.Goals as goal
use Rattle.soundness.proofs.queue.equal.Invariants.{agrees}

xor_none : (x y : ℕ) → eqb (bit_xor x y) 0 ≡ eqb x y
xor_none x y = go (ℕ_discrete x y)
  where
    go : Dec (x ≡ y) → eqb (bit_xor x y) 0 ≡ eqb x y
    go (yes e) = rw (eq-eqb x y e, e, xor_self y)
    go (no n) = rw (ne_eqb x y n, ne_eqb (bit_xor x y) 0 (λ e. n (omega (arith, xor_add_and x y, and_le_l x y, and_le_r x y))))

pub loop-t-init : goal.loop-t-init
unfolding all below
loop-t-init c = refl

pub loop-t-preserved : goal.loop-t-preserved
loop-t-preserved c =
    let turn = c.loop-t in
    let x = get_or c.args.a.now turn.t 0 in
    let y = get_or c.args.b.now turn.t 0 in
    rw (← or_none turn.bits (bit_xor x y), xor_none x y, turn.invariant) (all_next (agrees c.args.a.now c.args.b.now) turn.t)
