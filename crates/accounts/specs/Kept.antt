-- What a run keeps beside the state: for each partition its top priority and the thread that it would run, its budget, and three sets of
-- partitions. Each is what the definitions of the decision (crates/model/specs/Policy) say of the state.
use Rattle.std.specs.Prelude.{◌≡◌, ℕ, ◌+◌, ◌≤◌, ◌<◌, true, not, cond, ◌&&◌, List, get_or, eqb, ltb}
use Rattle.sets.specs.Bits.{in_set}
use Rattle.sheet.specs.Settings.{budget}
use Rattle.sheet.specs.declared.Settings.{Settings}
use Rattle.model.specs.State.{used, State}
use Rattle.model.specs.Policy.{competing, top_priority, chosen, has_budget}

-- one more than the top priority of partition p; 0 where it does not compete
unfoldable pub level : State → ℕ → ℕ
level s p = cond (competing s p) (top_priority s p + 1) 0

-- what the ready queue says: the top priorities, the first threads that have them, and who competes
pub record Led (s : State) (tops firsts : List ℕ) (set : ℕ) : Type 0 where
  pub top : (p : ℕ) → p < 16 → get_or tops p 0 ≡ level s p
  pub thread : (p : ℕ) → p < 16 → get_or firsts p 0 ≡ chosen s p
  pub competes : (p : ℕ) → p < 16 → in_set set p ≡ competing s p
  pub inside : (p : ℕ) → competing s p ≡ true → p < s.settings.count

-- who has budget
abbrev pub Weighed : State → ℕ → Type 0
Weighed s set = (p : ℕ) → p < s.settings.count → in_set set p ≡ has_budget s p

-- the budgets, and whose is above 0
pub record Priced (c : Settings) (budgets : List ℕ) (set : ℕ) : Type 0 where
  pub few : c.count ≤ 16
  pub amount : (p : ℕ) → p < c.count → get_or budgets p 0 ≡ budget c p
  pub pays : (p : ℕ) → p < 16 → in_set set p ≡ (ltb p c.count && not (eqb (budget c p) 0))

-- the totals as numbers
abbrev pub TotalsAre : State → List ℕ → Type 0
TotalsAre s totals = (p : ℕ) → p < s.settings.count → get_or totals p 0 ≡ used s p

-- all that the decision looks at
pub record Kept (s : State) (totals budgets tops firsts : List ℕ) (policy paying set solvent : ℕ) : Type 0 where
  pub spent : TotalsAre s totals
  pub priced : Priced s.settings budgets paying
  pub led : Led s tops firsts set
  pub weighed : Weighed s solvent
  pub ruled : policy ≡ s.settings.policy
