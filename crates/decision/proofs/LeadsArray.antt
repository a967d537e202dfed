-- The leads as they are kept, one after the other, are two lists of numbers.
use mathlib.Core.Path.{◌≡◌, refl, sym, ◌∙◌}
use Prim.Native.Nat.{ℕ}
use mathlib.Core.List.{List}
use lib.ListN.{get_or, set, get_or-map}
use Rattle.std.proofs.lemmas.List.{map-set}
use Rattle.decision.specs.Leads.{tops_of, firsts_of}
use Rattle.decision.specs.Upkeep.{LeadsAlone}
use Rattle.decision.specs.declared.leads.Lead.{Lead}
use Rattle.decision.specs.declared.kept.Cache.{Cache}

pub tops_set : (l : List Lead) (p : ℕ) (x : Lead) → tops_of (set l p x) ≡ set (tops_of l) p x.top
tops_set l p x = map-set (λ y. y.top) l p x

pub firsts_set : (l : List Lead) (p : ℕ) (x : Lead) → firsts_of (set l p x) ≡ set (firsts_of l) p x.first
firsts_set l p x = map-set (λ y. y.first) l p x

pub top_at : (l : List Lead) (p : ℕ) → get_or (tops_of l) p 0 ≡ (get_or l p (record { top = 0; first = 0 })).top
top_at l p = get_or-map (λ (x : Lead). x.top) l p (record { top = 0; first = 0 })

pub first_at : (l : List Lead) (p : ℕ) → get_or (firsts_of l) p 0 ≡ (get_or l p (record { top = 0; first = 0 })).first
first_at l p = get_or-map (λ (x : Lead). x.first) l p (record { top = 0; first = 0 })

-- both of one partition
pub lead_at : (l : List Lead) (p : ℕ)
    → get_or l p (record { top = 0; first = 0 }) ≡ record { top = get_or (tops_of l) p 0; first = get_or (firsts_of l) p 0 }
lead_at l p i = record { top = sym (top_at l p) i; first = sym (first_at l p) i }

-- ---- beside what else is kept

pub alone_none : {x : Cache} (leads : List Lead) (set : ℕ)
    → LeadsAlone x (record { budgets = x.budgets; leads = leads; sets = record { paying = x.sets.paying; competing = set; solvent = x.sets.solvent } })
alone_none leads set = record { budgets = refl; paying = refl; solvent = refl }

pub alone_then : {x y z : Cache} → LeadsAlone x y → LeadsAlone y z → LeadsAlone x z
alone_then a b = record { budgets = b.budgets ∙ a.budgets; paying = b.paying ∙ a.paying; solvent = b.solvent ∙ a.solvent }
