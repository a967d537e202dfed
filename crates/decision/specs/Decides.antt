-- What the decision over kept data promises.
use Rattle.std.specs.Prelude.{◌≡◌, ℕ, ◌<◌, List}
use Rattle.std.proofs.Math.Option.{Option}
use Rattle.sets.specs.Bits.{in_set}
use Rattle.accounts.specs.Kept.{Kept}
use Rattle.model.specs.Answers.{decided_of}
use Rattle.model.specs.Policy.{favours, decide}
use Rattle.model.specs.declared.Decision.{Decision}
use Rattle.model.specs.State.{State}

-- the set holds the favoured partition f alone, or nothing where there is none
abbrev pub Favoured : Option ℕ → ℕ → Type 0
Favoured f set = (p : ℕ) → p < 16 → in_set set p ≡ favours f p

-- it is the paper's decision of every state of which the data are kept, for whichever partition the set of the favoured one holds
abbrev pub Decides : List ℕ → List ℕ → List ℕ → List ℕ → ℕ → ℕ → ℕ → ℕ → ℕ → Decision → Type 0
Decides totals budgets tops firsts policy paying set solvent favoured d =
    (s : State) (f : Option ℕ) → Kept s totals budgets tops firsts policy paying set solvent → Favoured f favoured → decided_of d ≡ decide s f
