-- What is kept of the arrays is kept of the state; the set of the favoured partition.
use mathlib.Core.Logic.{◌≢◌}
use mathlib.Core.Path.{◌≡◌, refl, sym, ap}
use Prim.Native.Nat.{ℕ}
use mathlib.Core.Bool.{cond}
use mathlib.Core.Option.{none, some}
use mathlib.Core.List.{List}
use lib.Dec.{eqb}
use native.Mathlib.Omega.{arith}
use borrow.Author.Tests.{eq-eqb, ne_eqb}
use Rattle.sets.specs.Bits.{Only}
use Rattle.sets.proofs.Laws as bits
use Rattle.sheet.specs.declared.Settings.{Settings}
use Rattle.model.specs.State.{idle}
use Rattle.model.specs.Policy.{favours}
use Rattle.model.specs.Step.{billed, favoured}
use Rattle.model.specs.Facts.{Settled, Sound}
use Rattle.model.specs.Arrays.{Columns, Regular, state_of}
use Rattle.model.specs.declared.Clock.{Clock}
use Rattle.accounts.specs.Kept.{Kept}
use Rattle.decision.proofs.States.{partition_is, valid, led}
use Rattle.accounts.proofs.States.{totals, weighed}
use Rattle.decision.specs.Decides.{Favoured}
use Rattle.decision.specs.Upkeep.{HeldBy, works_for, worked_for, Works}
use Rattle.decision.specs.declared.kept.Sets.{Sets}

pub kept : (c : Settings) (u : List ℕ) (k : Clock) (ts : Columns) (q h budgets tops firsts : List ℕ) (sets : Sets) → Regular ts
    → Settled (state_of c u k ts q) h → HeldBy c u k ts q budgets tops firsts sets
    → Kept (state_of c u k ts q) u budgets tops firsts c.policy sets.paying sets.competing sets.solvent
kept c u k ts q h budgets tops firsts sets sized settled held = record {
  spent = totals c u k ts q;
  priced = held.priced;
  led = led c u k ts q sized h settled tops firsts sets.competing held.led;
  weighed = weighed c u k ts q budgets sets.paying sets.solvent held.priced held.weighed;
  ruled = refl;
}

-- ---- the favoured partition

module _ (running f : ℕ) where
  pub favours_none : running ≡ idle → Favoured (works_for running f) 0
  unfolding favours
  favours_none e = λ p b. rw (eq-eqb running idle e) (bits.none p)

  pub favours_one : running ≢ idle → (set : ℕ) → Only 16 f set → Favoured (works_for running f) set
  unfolding favours
  favours_one n set only = λ p b. rw (ne_eqb running idle n) (only p b)

module _ (c : Settings) (u : List ℕ) (k : Clock) (ts : Columns) (q : List ℕ) (sized : Regular ts) where
  -- the partition that the running thread works for is the state's favoured one
  pub favoured_is : worked_for ts.partitions k.running ≡ favoured (state_of c u k ts q)
  unfolding billed
  favoured_is = ap (λ (p : ℕ). cond (eqb k.running idle) none (some p)) (sym (partition_is c u k ts q sized k.running))

  -- and in a sound state it is a partition's number
  pub works : (h : List ℕ) → Sound (state_of c u k ts q) h → Works ts.partitions k.running
  works h g n =
      let m = g.runs.queued n in
      (g.settled.queue.inside k.running m, omega (arith, valid c u k ts q sized h g.settled k.running m, g.settled.limits.count_high))
