-- The whole invariant of a run, over the arrays that stand for the state; and the decision under it.
use Rattle.std.specs.Prelude.{◌≢◌, ◌≡◌, ℕ, ◌<◌, cond, List, get_or, take, eqb}
use Rattle.std.proofs.Math.Option.{Option, none, some}
use Rattle.sheet.specs.Settings.{need}
use Rattle.sheet.specs.declared.Settings.{Settings}
use Rattle.model.specs.Answers.{decided_of}
use Rattle.model.specs.Facts.{Settled}
use Rattle.model.specs.State.{idle}
use Rattle.model.specs.Policy.{decide}
use Rattle.model.specs.Arrays.{Columns, Regular, state_of}
use Rattle.model.specs.declared.Clock.{Clock}
use Rattle.model.specs.declared.Decision.{Decision}
use Rattle.accounts.specs.Kept.{Priced}
use Rattle.decision.specs.Leads.{tops_of, firsts_of}
use Rattle.decision.specs.Keeping.{KeptIn}
use Rattle.decision.specs.Decides.{Favoured}
use Rattle.accounts.specs.Solvency.{WeighedIn}
use Rattle.decision.specs.declared.kept.Sets.{Sets}
use Rattle.decision.specs.declared.kept.Cache.{Cache}
use Rattle.decision.specs.declared.leads.ReadyQueue.{ReadyQueue}

-- what is kept beside settings, totals, the threads' partitions, priorities and masks, and the line
pub record Held (c : Settings) (totals partitions priorities masks line budgets tops firsts : List ℕ) (sets : Sets) : Type 0 where
  pub priced : Priced c budgets sets.paying
  pub led : KeptIn c.core partitions priorities masks line tops firsts sets.competing
  pub weighed : WeighedIn totals budgets (need c) c.count sets.solvent

-- the same beside a clock, the threads' columns and the queue
abbrev pub HeldBy : Settings → List ℕ → Clock → Columns → List ℕ → List ℕ → List ℕ → List ℕ → Sets → Type 0
HeldBy c u k ts q budgets tops firsts sets = Held c u ts.partitions ts.priorities ts.masks (take k.queued q) budgets tops firsts sets

-- the same as it is kept, and beside the queue with its threads as it is lent
abbrev pub HeldIn : Settings → List ℕ → Clock → Columns → List ℕ → Cache → Type 0
HeldIn c u k ts q x = HeldBy c u k ts q x.budgets (tops_of x.leads) (firsts_of x.leads) x.sets

abbrev pub HeldOf : Settings → List ℕ → ReadyQueue → Cache → Type 0
HeldOf c u q x =
    Held c u q.partitions.now q.priorities.now q.masks.now (take q.queued q.queue.now) x.budgets (tops_of x.leads) (firsts_of x.leads) x.sets

-- of what is kept no more than the leads and who competes may have changed
pub record LeadsAlone (x y : Cache) : Type 0 where
  pub budgets : y.budgets ≡ x.budgets
  pub paying : y.sets.paying ≡ x.sets.paying
  pub solvent : y.sets.solvent ≡ x.sets.solvent

-- the partition p of the running thread; none while idle
abbrev pub works_for : ℕ → ℕ → Option ℕ
works_for running p = cond (eqb running idle) none (some p)

abbrev pub worked_for : List ℕ → ℕ → Option ℕ
worked_for partitions running = works_for running (get_or partitions running 0)

-- the running thread is a thread's number, and its partition a partition's; or nothing runs
abbrev pub Works : List ℕ → ℕ → Type 0
Works partitions running = running ≢ idle → (running < 64) × (get_or partitions running 0 < 16)

-- the decision for every settled state of which these are kept, for whichever partition the set of the favoured one holds
abbrev pub DecidesKept : Settings → List ℕ → List ℕ → List ℕ → List ℕ → Sets → ℕ → Decision → Type 0
DecidesKept c totals budgets tops firsts sets favoured d =
    (k : Clock) (ts : Columns) (q h : List ℕ) (f : Option ℕ) → Regular ts → Settled (state_of c totals k ts q) h
    → HeldBy c totals k ts q budgets tops firsts sets → Favoured f favoured → decided_of d ≡ decide (state_of c totals k ts q) f

abbrev pub DecidesWith : Settings → List ℕ → Cache → ℕ → Decision → Type 0
DecidesWith c totals x favoured d = DecidesKept c totals x.budgets (tops_of x.leads) (firsts_of x.leads) x.sets favoured d
