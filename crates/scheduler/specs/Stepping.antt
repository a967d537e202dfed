-- The invariant of a run over the lent arrays, and what a step is held to.
use Rattle.std.specs.Prelude.{◌≢◌, ◌≡◌, List, ℕ, length, Result}
use Rattle.refusals.specs.declared.Refusal.{Refusal}
use Rattle.sheet.specs.declared.Settings.{Settings}
use Rattle.model.specs.Answers.{line_of, answer_line}
use Rattle.model.specs.Event.{refused_state}
use Rattle.model.specs.Arrays.{Columns, columns_in, Regular, state_of}
use Rattle.model.specs.Step.{Saved, saved, answer}
use Rattle.model.specs.declared.Clock.{Clock}
use Rattle.model.specs.declared.Decision.{Decision}
use Rattle.model.specs.declared.StateMut.{StateMut}
use Rattle.decision.specs.Decides.{Favoured}
use Rattle.decision.specs.Leads.{tops_of, firsts_of}
use Rattle.decision.specs.Upkeep.{HeldBy, worked_for}
use Rattle.decision.specs.declared.kept.Cache.{Cache}
use Rattle.decision.specs.declared.kept.Sets.{Sets}
use Rattle.scheduler.specs.declared.Stepped.{Stepped}

-- the arrays have their lengths, the state that they stand for is not refused, and what is kept beside it is right, the set of the favoured
-- partition among it
pub record Whole (c : Settings) (u : List ℕ) (k : Clock) (ts : Columns) (q h budgets tops firsts : List ℕ) (sets : Sets) (favoured : ℕ) : Type 0 where
  pub sixteen : length u ≡ 16
  pub shares : length c.shares ≡ 16
  pub sizes : Regular ts
  pub full : length q ≡ 64
  pub taken : refused_state (state_of c u k ts q) h ≡ 0
  pub held : HeldBy c u k ts q budgets tops firsts sets
  pub favours : Favoured (worked_for ts.partitions k.running) favoured

-- the event b was answered on v as the model says, and the invariant holds again
pub record StepAnswered (c : Settings) (v : Saved) (b : List ℕ) (x : Result Decision Refusal) (u : List ℕ) (k : Clock) (ts : Columns) (q h budgets tops firsts : List ℕ) (sets : Sets) (favoured : ℕ) : Type 0 where
  pub line : line_of x ≡ answer_line (answer v b)
  pub after : saved (state_of c u k ts q) h ≡ (answer v b).after
  pub whole : Whole c u k ts q h budgets tops firsts sets favoured

-- "lent memory is as before" where the event was refused
pub record Same (u : List ℕ) (k : Clock) (ts : Columns) (q h u' : List ℕ) (k' : Clock) (ts' : Columns) (q' h' : List ℕ) : Type 0 where
  pub totals : u' ≡ u
  pub clock : k' ≡ k
  pub threads : ts' ≡ ts
  pub queue : q' ≡ q
  pub history : h' ≡ h

abbrev pub Still : Saved → List ℕ → List ℕ → Clock → Columns → List ℕ → List ℕ → List ℕ → Clock → Columns → List ℕ → List ℕ → Type 0
Still v b u k ts q h u' k' ts' q' h' = (answer v b).refusal ≢ 0 → Same u k ts q h u' k' ts' q' h'

-- ---- the same of what is lent, and of what is kept beside it

abbrev pub WholeIn : Settings → StateMut → Clock → Cache → ℕ → Type 0
WholeIn c x k cache favoured =
    Whole c x.used.now k (columns_in x) x.queue.now x.history.now cache.budgets (tops_of cache.leads) (firsts_of cache.leads) cache.sets favoured

abbrev pub StepAnsweredIn : Settings → Saved → List ℕ → StateMut → Cache → Stepped → Type 0
StepAnsweredIn c v b x cache s =
    StepAnswered c v b s.verdict x.used.now s.clock (columns_in x) x.queue.now x.history.now
    cache.budgets (tops_of cache.leads) (firsts_of cache.leads) cache.sets s.favoured

abbrev pub StillIn : Saved → List ℕ → StateMut → Clock → StateMut → Clock → Type 0
StillIn v b x k y k' =
    Still v b x.used.now k (columns_in x) x.queue.now x.history.now y.used.now k' (columns_in y) y.queue.now y.history.now
