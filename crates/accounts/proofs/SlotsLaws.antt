-- What is not yet reached stays, and the lowered numbers stand for the model's lowered totals.
use mathlib.Core.Path.{◌≡◌, refl, sym, ap, ◌∙◌}
use Prim.Native.Nat.{ℕ, zero, suc, ◌+◌, ◌-◌, ◌*◌, ◌≤◌, ◌<◌}
use mathlib.Core.List.{List, map}
use native.Mathlib.Omega.{arith}
use lib.ListN.{get_or, set}
use lib.Seq.{get_or-set_other}
use Rattle.model.specs.State.{cycles}
use Rattle.lists.proofs.Parts.{row_end}
use Rattle.units.specs.declared.Cycles.{Cycles}
use Rattle.model.specs.Step.{clear_history, lower_used}
use Rattle.std.proofs.lemmas.List.{map-set}
use Rattle.accounts.proofs.ChargingLaws.{used_at_law}
use Rattle.accounts.specs.Lowered.{lowered}

module _ (w k : ℕ) (h : List ℕ) where
  pub later_total : (n p : ℕ) (u : List ℕ) → n ≤ p → get_or (lowered w k n u h) p 0 ≡ get_or u p 0
  unfolding lowered
  later_total zero p u b = refl
  later_total (suc n) p u b =
      get_or-set_other (lowered w k n u h) n p _ 0 (λ e. let z : ⊥ = omega arith in absurd z) ∙ later_total n p u (omega arith)

  pub later_place : (n p : ℕ) → k < w → n ≤ p → get_or (clear_history w k n h) (p * w + k) 0 ≡ get_or h (p * w + k) 0
  unfolding clear_history
  later_place zero p b c = refl
  later_place (suc n) p b c =
      get_or-set_other (clear_history w k n h) (n * w + k) (p * w + k) 0 0 (λ e. let z : ⊥ = omega (arith, row_end n p w c) in absurd z)
      ∙ later_place n p b (omega arith)

  -- the totals that the lowered numbers stand for
  pub lowered_totals : (n : ℕ) (u : List ℕ) → map cycles (lowered w k n u h) ≡ lower_used w k n (map cycles u) h
  unfolding lowered lower_used
  lowered_totals zero u = refl
  lowered_totals (suc n) u =
      map-set cycles (lowered w k n u h) n (get_or u n 0 - get_or h (n * w + k) 0)
      ∙ ap (λ (l : List Cycles). set l n (cycles (get_or u n 0 - get_or h (n * w + k) 0))) (lowered_totals n u)
      ∙ ap (λ (x : ℕ). set (lower_used w k n (map cycles u) h) n (cycles (x - get_or h (n * w + k) 0))) (sym (used_at_law u n))
