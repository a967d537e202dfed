-- A set stays right where one partition is weighed anew.
use mathlib.Core.Logic.{◌≢◌}
use mathlib.Core.Path.{◌≡◌, sym, ap, ap₂, ◌∙◌}
use Prim.Native.Nat.{ℕ, ◌+◌, ◌-◌, ◌*◌, ◌≤◌, ◌<◌}
use mathlib.Core.Bool.{Bool, not, ◌&&◌}
use mathlib.Core.List.{List, ◌++◌}
use lib.ListN.{length, get_or, set, take, drop}
use lib.Seq.{get_or-set_same, get_or-set_other}
use lib.Dec.{eqb, ltb}
use borrow.Author.Count.{below_more}
use Rattle.std.proofs.lemmas.Bool.Decides.{nat_tests}
use native.Mathlib.Omega.{arith}
use native.Mathlib.Numerals.{add-one}
use Rattle.lists.proofs.Parts.{part_at, part_set}
use Rattle.sets.proofs.Laws as bits
use Rattle.sheet.specs.Settings.{budget}
use Rattle.sheet.specs.declared.Settings.{Settings}
use Rattle.model.specs.Step.{clear_history}
use Rattle.accounts.specs.Lowered.{lowered}
use Rattle.accounts.proofs.SlotsLaws.{later_total, later_place}
use native.Mathlib.Decide.{ℕ_discrete}
use borrow.Author.Tests.{eq-eqb, ne_eqb, lt-ltb, le-ltb}
use Rattle.sets.specs.Bits.{in_set, Marked}
use Rattle.accounts.specs.Solvency.{has_at, Reweighed}

-- a set that is right for f but at p, once p is marked as f has it
marked_as : (f : ℕ → Bool) (w p r : ℕ) → Marked 16 w p (f p) r → (q : ℕ) → q < 16 → (q ≢ p → in_set w q ≡ f q) → in_set r q ≡ f q
marked_as f w p r m q low others = go (ℕ_discrete q p)
  where
    go : Dec (q ≡ p) → in_set r q ≡ f q
    go (yes e) = m q low ∙ rw (eq-eqb q p e, e)
    go (no n) = m q low ∙ rw (ne_eqb q p n) (others n)

module _ (old new budgets : List ℕ) (need set₀ set' p : ℕ) where
  -- the others' totals are as they were
  pub reweighed : ((q : ℕ) → q ≢ p → get_or new q 0 ≡ get_or old q 0) → Marked 16 set₀ p (has_at new budgets need p) set' → Reweighed old new budgets need set₀ set'
  reweighed same m n few h q b =
      marked_as (has_at new budgets need) set₀ p set' m q (omega arith) (λ k. rw (same q k) (h q b))

-- one change after another
pub reweighed_twice : (a b c budgets : List ℕ) (need x y z : ℕ) → Reweighed a b budgets need x y → Reweighed b c budgets need y z → Reweighed a c budgets need x z
reweighed_twice a b c budgets need x y z f g = λ n few h. g n few (f n few h)

-- ---- a slot is cleared, one partition more

module _ (w k : ℕ) (totals history : List ℕ) (p m : ℕ) (u h : List ℕ) (inside : k < w) (part : k < m) (e : u ≡ lowered w k p totals history) (f : h ≡ clear_history w k p history) where
  there : get_or (take m (drop (p * w) h)) k 0 ≡ get_or history (p * w + k) 0
  there = part_at h (p * w) m k part ∙ ap (λ (l : List ℕ). get_or l (p * w + k) 0) f ∙ later_place w k history p p inside (omega arith)

  had : get_or u p 0 ≡ get_or totals p 0
  had = ap (λ (l : List ℕ). get_or l p 0) e ∙ later_total w k history p p totals (omega arith)

  pub clear_covers : get_or history (p * w + k) 0 ≤ get_or totals p 0 → get_or (take m (drop (p * w) h)) k 0 ≤ get_or u p 0
  clear_covers c = rw (there, had) c

  pub clear_total : set u p (get_or u p 0 - get_or (take m (drop (p * w) h)) k 0) ≡ lowered w k (p + 1) totals history
  unfolding lowered
  clear_total = ap₂ (λ (x y : ℕ). set u p (x - y)) had there ∙ ap (λ (l : List ℕ). set l p (get_or totals p 0 - get_or history (p * w + k) 0)) e ∙ rw add-one

  pub clear_place : take (p * w) h ++ (set (take m (drop (p * w) h)) k 0 ++ drop m (drop (p * w) h)) ≡ clear_history w k (p + 1) history
  unfolding clear_history
  clear_place = rw (part_set h (p * w) m k 0 part, f, add-one)

-- ---- the budgets, one partition more

module _ (c : Settings) (p : ℕ) where
  pub amounts_more : (l : List ℕ) (v : ℕ) → p < length l → v ≡ budget c p → ((q : ℕ) → q < p → get_or l q 0 ≡ budget c q)
      → (q : ℕ) → q < p + 1 → get_or (set l p v) q 0 ≡ budget c q
  amounts_more l v within e h =
      below_more _ _ (λ q b. get_or-set_other l p q v 0 (omega arith) ∙ h q b) (get_or-set_same l p v 0 within ∙ e)

  pub paying_more : (set₀ set' v : ℕ) → v ≡ budget c p → Marked 16 set₀ p (not (eqb v 0)) set'
      → ((q : ℕ) → q < 16 → in_set set₀ q ≡ (ltb q p && not (eqb (budget c q) 0)))
      → (q : ℕ) → q < 16 → in_set set' q ≡ (ltb q (p + 1) && not (eqb (budget c q) 0))
  paying_more set₀ set' v e m h q b =
      marked_as (λ j. ltb j (p + 1) && not (eqb (budget c j) 0)) set₀ p set' (rw (lt-ltb p (p + 1) (omega arith), ← e) m) q b
      (λ n. h q b ∙ ap (λ (z : Bool). z && not (eqb (budget c q) 0)) (wider n))
    where
      wider : q ≢ p → ltb q p ≡ ltb q (p + 1)
      wider n = grind (arith, nat_tests)

pub paying_none : (c : Settings) (q : ℕ) → in_set 0 q ≡ (ltb q 0 && not (eqb (budget c q) 0))
paying_none c q = bits.none q ∙ sym (ap (λ (z : Bool). z && not (eqb (budget c q) 0)) (le-ltb q 0 (omega arith)))
