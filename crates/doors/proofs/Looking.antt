-- The doors that only look: what each answers, by what it refuses.
use mathlib.Core.Path.{◌≡◌, sym, ap, subst, ◌∙◌}
use Prim.Native.Nat.{ℕ, ◌≤◌, ◌<◌, ◌^◌}
use lib.IntN.{ℤ, pos}
use lib.ListN.{get_or}
use borrow.Author.Tests.{le-leb, lt-leb, ne_eqb}
use native.Mathlib.Decide.{ℕ_discrete, dec_le}
use native.Mathlib.Omega.{arith}
use Rattle.refusals.specs.Refusals.{number_of}
use Rattle.refusals.specs.declared.Refusal.{Refusal}
use Rattle.refusals.proofs.Laws.{never_zero}
use Rattle.units.specs.Units.{budget_of, remaining_of, Narrow}
use Rattle.units.proofs.Laws.{remaining_narrow}
use Rattle.sheet.specs.Settings.{W, C, share, budget, Limits}
use Rattle.sheet.specs.declared.Settings.{Settings}
use Rattle.sheet.proofs.Within.{budget_fits}
use Rattle.model.specs.State.{used}
use Rattle.model.specs.Arrays.{state_of}
use Rattle.model.specs.Answers.{Remainder, decision_line, refusal_line}
use Rattle.model.specs.Doors.{decision, refused_remaining, remainder}
use Rattle.model.specs.Facts.{Fit}
use Rattle.model.specs.Lent.{Lent, lent_settings, lent_clock, state_in, refused_in}
use Rattle.model.specs.Policy.{Decided, decide, remaining}
use Rattle.model.specs.Step.{favoured}
use Rattle.model.proofs.Accepted.{fit_of}
use Rattle.model.proofs.Bounds.{total_fits}
use Rattle.model.proofs.Flags.{accepted}
use Rattle.accounts.proofs.ChargingLaws.{used_at_law}
use Rattle.doors.specs.Inner.{opened_from}
use Rattle.doors.specs.declared.opening.Opened.{Opened}

-- what was lent and is not refused fits together
fit_in : (x : Lent) → refused_in x ≡ 0 → Fit (state_in x) x.history
fit_in x z =
    fit_of (state_in x) x.history (accepted (lent_settings x) x.used (lent_clock x) x.threads x.queue x.history z).1

module _ (x : Lent) where
  -- ---- decision

  pub decision_no : (r : Refusal) → refused_in x ≡ number_of r → refusal_line (number_of r) ≡ decision x
  unfolding decision
  decision_no r z = rw (z, never_zero r)

  pub decision_yes : refused_in x ≡ 0 → (i : Opened) → i ≡ opened_from x → (d : Decided)
      → d ≡ decide (state_of i.settings x.used i.clock x.threads x.queue) (favoured (state_of i.settings x.used i.clock x.threads x.queue)) → decision_line d ≡ decision x
  unfolding decision
  decision_yes z i f d e =
      let same : d ≡ decide (state_in x) (favoured (state_in x)) =
      subst (λ (j : Opened). d ≡ decide (state_of j.settings x.used j.clock x.threads x.queue) (favoured (state_of j.settings x.used j.clock x.threads x.queue))) f e in
      rw (z, ← same)

  -- ---- remaining

  pub remaining_no : (p : ℕ) (r : Refusal) → refused_in x ≡ number_of r → ◌≡◌ {A = Remainder} (record { refusal = number_of r; remaining = pos 0 }) (remainder x p)
  unfolding remainder refused_remaining
  remaining_no p r z = rw (z, never_zero r, never_zero r)

  module _ (c : Settings) (e : c ≡ lent_settings x) (z : refused_in x ≡ 0) where
    fine : Fit (state_in x) x.history
    fine = fit_in x z

    pub limits : Limits c
    limits = rw e fine.sound.settled.limits

    module _ (p : ℕ) where
      pub remaining_place : c.count ≤ p → ◌≡◌ {A = Remainder} (record { refusal = 12; remaining = pos 0 }) (remainder x p)
      unfolding remainder refused_remaining
      remaining_place l =
          let out : (lent_settings x).count ≤ p = rw e at l in
          rw (z, le-leb (lent_settings x).count p out)

      pub used_low : p < c.count → get_or x.used p 0 < 2 ^ 32
      used_low l =
          let inside : p < (lent_settings x).count = rw e at l in
          let s = fine.sound.settled in
          omega (arith, total_fits (state_in x) x.history fine.room s p 0 inside (omega (arith, s.books.since_high)), used_at_law x.used p)

      pub remaining_yes : p < c.count → (r : ℤ) (b : ℕ) → b ≡ budget_of (share c p) (W c) (C c) → r ≡ remaining_of b (get_or x.used p 0)
          → ◌≡◌ {A = Remainder} (record { refusal = 0; remaining = r }) (remainder x p)
      unfolding remainder refused_remaining remaining budget
      remaining_yes l r b g f =
          let inside : p < (lent_settings x).count = rw e at l in
          let whole : b ≡ budget_of (share (lent_settings x) p) (W (lent_settings x)) (C (lent_settings x)) = g ∙ ap (λ (a : Settings). budget_of (share a p) (W a) (C a)) e in
          let told : r ≡ remaining_of (budget_of (share (lent_settings x) p) (W (lent_settings x)) (C (lent_settings x))) (used (state_in x) p) =
          f ∙ ap (λ (n : ℕ). remaining_of n (get_or x.used p 0)) whole ∙ ap (remaining_of _) (sym (used_at_law x.used p)) in
          rw (z, lt-leb (lent_settings x).count p inside, told)

-- ---- what remains fits 32 bits

module _ (x : Lent) (p : ℕ) (e : refused_remaining x p ≡ 0) where
  none_refused : refused_in x ≡ 0
  unfolding refused_remaining
  none_refused = go (ℕ_discrete (refused_in x) 0)
    where
      go : Dec (refused_in x ≡ 0) → refused_in x ≡ 0
      go (yes z) = z
      go (no n) = rw (ne_eqb (refused_in x) 0 n) at e

  one_of_them : p < (lent_settings x).count
  unfolding refused_remaining
  one_of_them = go (dec_le (lent_settings x).count p)
    where
      go : Dec ((lent_settings x).count ≤ p) → p < (lent_settings x).count
      go (yes l) = let z : ◌≡◌ {A = ℕ} 12 0 = rw (none_refused, le-leb (lent_settings x).count p l) at e in omega arith
      go (no n) = omega arith

  -- the budget is at most 399,960,000, and no more than 801,919,800 is used
  accepted_narrow : Narrow (remainder x p).remaining
  unfolding remainder remaining
  accepted_narrow =
      let fit = fit_in x none_refused in
      let s = fit.sound.settled in
      let b : budget (lent_settings x) p ≤ 399960000 = (budget_fits (lent_settings x) s.limits p one_of_them).1 in
      let u : used (state_in x) p < 2 ^ 31 = omega (arith, total_fits (state_in x) x.history fit.room s p 0 one_of_them (omega (arith, s.books.since_high))) in
      rw e (remaining_narrow (budget (lent_settings x) p) (used (state_in x) p) (omega arith) u)

-- 0 stands beside a refusal
pub remainder_narrow : (x : Lent) (p : ℕ) → Narrow (remainder x p).remaining
unfolding remainder
remainder_narrow x p = go (ℕ_discrete (refused_remaining x p) 0)
  where
    go : Dec (refused_remaining x p ≡ 0) → Narrow (remainder x p).remaining
    go (yes e) = accepted_narrow x p e
    go (no n) = rw (ne_eqb (refused_remaining x p) 0 n) (omega arith)
