-- What the charge leaves of who has budget; a tick and a resume as the model's.
use mathlib.Core.Logic.{◌≢◌}
use mathlib.Core.Path.{◌≡◌, refl, sym, ap, ◌∙◌}
use Prim.Native.Nat.{ℕ, ◌+◌, ◌*◌, ◌<◌}
use mathlib.Core.List.{List, [], map, ◌++◌}
use lib.ListN.{get_or, set, drop, replicate}
use lib.Seq.{get_or-set_other}
use borrow.Author.Tests.{eq-eqb, ne_eqb}
use Rattle.sets.specs.Bits.{Marked}
use Rattle.units.specs.Units.{elapsed_of, remaining_of, has_budget_of, next_of}
use Rattle.units.specs.declared.Cycles.{Cycles}
use Rattle.units.specs.declared.Ticks.{Ticks}
use Rattle.sheet.specs.Settings.{W}
use Rattle.sheet.specs.declared.Settings.{Settings}
use Rattle.model.specs.State.{cycles, thread, used, State, Thread}
use Rattle.model.specs.Arrays.{Columns, columns, state_of}
use Rattle.model.specs.Step.{Saved, saved, billed, add_used, charge, move_slot, clear_history, lower_used, restart}
use Rattle.model.specs.declared.Clock.{Clock}
use Rattle.model.proofs.Table.{thread_at_law}
use Rattle.accounts.specs.Charged.{payer_of, Charged}
use Rattle.accounts.proofs.ChargingLaws.{used_at_law}
use Rattle.accounts.specs.Lowered.{lowered}
use Rattle.accounts.proofs.SlotsLaws.{lowered_totals}
use Rattle.accounts.specs.Solvency.{has_at, Reweighed}
use Rattle.accounts.proofs.SolvencyLaws.{reweighed}
use Rattle.accounts.specs.Window.{Moved, Restarted}

-- ---- the charge

charge_used : (s : State) (h : List ℕ) (stamp : ℕ) → (charge (saved s h) stamp).state.used ≡ add_used s (billed s) (elapsed_of stamp s.stamp)
unfolding charge
charge_used s h stamp = refl

used_idle : (s : State) (e : ℕ) → s.running ≡ 255 → add_used s (billed s) e ≡ s.used
unfolding billed add_used
used_idle s e i = rw (eq-eqb s.running 255 i)

used_paid : (s : State) (e : ℕ) → s.running ≢ 255 → add_used s (billed s) e ≡ set s.used (thread s s.running).partition (cycles (used s (thread s s.running).partition + e))
unfolding billed add_used
used_paid s e n = rw (ne_eqb s.running 255 n)

module _ (c : Settings) (u : List ℕ) (k : Clock) (p h u' : List ℕ) (k' : Clock) (h' : List ℕ) (stamp : ℕ) (d : Charged c u k p h u' k' h' stamp) where
  -- threads of which the partitions are told
  abbrev alone : Columns
  alone = columns [] [] p [] [] [] []

  abbrev s : State
  s = state_of c u k alone []

  totals : map cycles u' ≡ add_used s (billed s) (elapsed_of stamp k.stamp)
  totals = ap (λ (v : Saved). v.state.used) (d alone []) ∙ charge_used s h stamp

  total_as : (q : ℕ) (l : List Cycles) → map cycles u' ≡ l → get_or u' q 0 ≡ (get_or l q (cycles 0)).0
  total_as q l e = sym (used_at_law u' q) ∙ ap (λ (x : List Cycles). (get_or x q (cycles 0)).0) e

  idle_same : k.running ≡ 255 → (q : ℕ) → get_or u' q 0 ≡ get_or u q 0
  idle_same i q = total_as q (map cycles u) (totals ∙ used_idle s (elapsed_of stamp k.stamp) i) ∙ used_at_law u q

  pub idle_weighed : (budgets : List ℕ) (need set₀ : ℕ) → k.running ≡ 255 → Reweighed u u' budgets need set₀ set₀
  idle_weighed budgets need set₀ i n few w q b = w q b ∙ ap (λ (x : ℕ). has_budget_of (remaining_of (get_or budgets q 0) x) need) (sym (idle_same i q))

  others : k.running ≢ 255 → k.running < 64 → (q : ℕ) → q ≢ payer_of k p → get_or u' q 0 ≡ get_or u q 0
  others on low q n =
      let who : (thread s k.running).partition ≡ payer_of k p = ap (λ (t : Thread). t.partition) (thread_at_law alone k.running low) in
      let x : Cycles = cycles (used s (thread s k.running).partition + elapsed_of stamp k.stamp) in
      total_as q _ (totals ∙ used_paid s (elapsed_of stamp k.stamp) on)
      ∙ ap (λ (y : Cycles). y.0) (get_or-set_other (map cycles u) (thread s k.running).partition q x (cycles 0) (λ e. n (e ∙ who))) ∙ used_at_law u q

  pub paid_weighed : (budgets : List ℕ) (need set₀ set' : ℕ) → k.running ≢ 255 → k.running < 64
      → Marked 16 set₀ (payer_of k p) (has_at u' budgets need (payer_of k p)) set' → Reweighed u u' budgets need set₀ set'
  paid_weighed budgets need set₀ set' on low m = reweighed u u' budgets need set₀ set' (payer_of k p) (others on low) m

-- ---- a tick

move_as : (s : State) (h : List ℕ) (n : Ticks) (us : List Cycles) (h' : List ℕ) → n.0 ≡ next_of s.slot.0 (W s.settings)
    → us ≡ lower_used (W s.settings) n.0 s.settings.count s.used h → h' ≡ clear_history (W s.settings) n.0 s.settings.count h
    → saved (record { settings = s.settings; used = us; stamp = s.stamp; slot = n; since = cycles 0; threads = s.threads; queue = s.queue; queued = s.queued; running = s.running }) h' ≡ move_slot (saved s h)
unfolding move_slot
move_as s h n us h' a b c = rw (b, c, a)

module _ (c : Settings) (u : List ℕ) (k : Clock) (h : List ℕ) (n : Ticks) (u' h' : List ℕ) where
  pub moved : n.0 ≡ next_of k.slot.0 (W c) → u' ≡ lowered (W c) n.0 c.count u h → h' ≡ clear_history (W c) n.0 c.count h
      → Moved c u k h u' (record { stamp = k.stamp; slot = n; since = cycles 0; queued = k.queued; running = k.running }) h'
  moved a b d ts q =
      let s = state_of c u k ts q in
      move_as s h n (map cycles u') h' a (ap (map cycles) b ∙ lowered_totals (W c) n.0 h c.count u) d

-- ---- a resume

restart_as : (s : State) (h h' : List ℕ) (stamp : ℕ) → h' ≡ replicate (s.settings.count * W s.settings) 0 ++ drop (s.settings.count * W s.settings) h
    → saved (record { settings = s.settings; used = replicate 16 (cycles 0); stamp = stamp; slot = record { 0 = 0 }; since = cycles 0; threads = s.threads; queue = s.queue; queued = s.queued; running = s.running }) h' ≡ restart (saved s h) stamp
unfolding restart
restart_as s h h' stamp e = rw e

pub restarted : (c : Settings) (u : List ℕ) (k : Clock) (h h' : List ℕ) (stamp : ℕ) → h' ≡ replicate (c.count * W c) 0 ++ drop (c.count * W c) h
    → Restarted c u k h (replicate 16 0) (record { stamp = stamp; slot = record { 0 = 0 }; since = cycles 0; queued = k.queued; running = k.running }) h' stamp
restarted c u k h h' stamp a ts q = restart_as (state_of c u k ts q) h h' stamp a
