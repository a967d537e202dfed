-- The charge of the arrays as the model's.
use mathlib.Core.Logic.{◌≢◌}
use mathlib.Core.Path.{◌≡◌, sym, ap, subst, ◌∙◌}
use Prim.Native.Nat.{ℕ, ◌+◌, ◌*◌, ◌<◌}
use mathlib.Core.List.{List, map}
use lib.ListN.{length, get_or, set, length-map, get_or-map}
use Rattle.std.proofs.lemmas.List.{map-set}
use borrow.Author.Tests.{eq-eqb, ne_eqb}
use Rattle.units.specs.Units.{elapsed_of}
use Rattle.units.specs.declared.Cycles.{Cycles}
use Rattle.sheet.specs.Settings.{W}
use Rattle.sheet.specs.declared.Settings.{Settings}
use Rattle.model.specs.State.{cycles, thread, used, State, Thread}
use Rattle.model.specs.Step.{saved, with_clock, with_used, billed, add_used, add_history, charge}
use Rattle.model.specs.Arrays.{with_partition_column, state_of}
use Rattle.model.specs.declared.Clock.{Clock}
use Rattle.model.proofs.Table.{thread_at_law}
use Rattle.accounts.specs.Charged.{payer_of, Charged}

pub map_length : (u : List ℕ) → length (map cycles u) ≡ length u
map_length u = length-map u cycles

pub used_at_law : (u : List ℕ) (i : ℕ) → (get_or (map cycles u) i (cycles 0)).0 ≡ get_or u i 0
used_at_law u i = ap (λ (x : Cycles). x.0) (get_or-map cycles u i 0)

charged_idle : (s : State) (h : List ℕ) (stamp e : ℕ) → e ≡ elapsed_of stamp s.stamp → s.running ≡ 255
    → saved (with_clock s stamp s.slot.0 (s.since.0 + e)) h ≡ charge (saved s h) stamp
unfolding charge billed add_used add_history
charged_idle s h stamp e q i = rw (q, eq-eqb s.running 255 i)

abbrev payer : State → ℕ
payer s = (thread s s.running).partition

charged_to_law : (s : State) (h h' : List ℕ) (us : List Cycles) (stamp e : ℕ) → e ≡ elapsed_of stamp s.stamp → (s.running ≡ 255 → ⊥)
    → us ≡ set s.used (payer s) (cycles (used s (payer s) + e))
    → h' ≡ set h (payer s * W s.settings + s.slot.0) (get_or h (payer s * W s.settings + s.slot.0) 0 + e)
    → saved (with_clock (with_used s us) stamp s.slot.0 (s.since.0 + e)) h' ≡ charge (saved s h) stamp
unfolding charge billed add_used add_history
charged_to_law s h h' us stamp e q n f i = rw (i, f, q, ne_eqb s.running 255 n)

module _ (c : Settings) (u : List ℕ) (k : Clock) (p h : List ℕ) (stamp x : ℕ) (q : x ≡ elapsed_of stamp k.stamp) where
  abbrev later : ℕ → Clock
  later since = record { stamp = stamp; slot = k.slot; since = cycles since; queued = k.queued; running = k.running }

  pub idles : (since : Cycles) → since.0 ≡ k.since.0 + x → k.running ≡ 255 → Charged c u k p h u (later since.0) h stamp
  idles since w i =
      subst (λ (z : ℕ). Charged c u k p h u (later z) h stamp) (sym w) (λ ts l. charged_idle (state_of c u k (with_partition_column ts p) l) h stamp x q i)

  paid : (h' : List ℕ) → k.running ≢ 255 → k.running < 64
      → h' ≡ set h (payer_of k p * W c + k.slot.0) (get_or h (payer_of k p * W c + k.slot.0) 0 + x)
      → Charged c u k p h (set u (payer_of k p) (get_or u (payer_of k p) 0 + x)) (later (k.since.0 + x)) h' stamp
  paid h' on low f others l =
      let ts = with_partition_column others p in
      let s = state_of c u k ts l in
      let who : payer s ≡ payer_of k p = ap (λ (t : Thread). t.partition) (thread_at_law ts k.running low) in
      let more : map cycles (set u (payer_of k p) (get_or u (payer_of k p) 0 + x)) ≡ set (map cycles u) (payer s) (cycles (used s (payer s) + x)) =
      map-set cycles u (payer_of k p) (get_or u (payer_of k p) 0 + x) ∙ ap (λ (v : ℕ). set (map cycles u) (payer_of k p) (cycles (v + x))) (sym (used_at_law u (payer_of k p)))
      ∙ ap (λ (a : ℕ). set (map cycles u) a (cycles ((get_or (map cycles u) a (cycles 0)).0 + x))) (sym who) in
      let there : h' ≡ set h (payer s * W c + k.slot.0) (get_or h (payer s * W c + k.slot.0) 0 + x) =
      f ∙ ap (λ (a : ℕ). set h (a * W c + k.slot.0) (get_or h (a * W c + k.slot.0) 0 + x)) (sym who) in
      charged_to_law s h h' _ stamp x q on more there

  pub pays_for : (since total : Cycles) → since.0 ≡ k.since.0 + x → total.0 ≡ get_or u (payer_of k p) 0 + x
      → (h' : List ℕ) → k.running ≢ 255 → k.running < 64
      → h' ≡ set h (payer_of k p * W c + k.slot.0) (get_or h (payer_of k p * W c + k.slot.0) 0 + x)
      → Charged c u k p h (set u (payer_of k p) total.0) (later since.0) h' stamp
  pays_for since total w t h' on low f =
      subst (λ (z : ℕ). Charged c u k p h (set u (payer_of k p) total.0) (later z) h' stamp) (sym w)
      (subst (λ (z : ℕ). Charged c u k p h (set u (payer_of k p) z) (later (k.since.0 + x)) h' stamp) (sym t) (paid h' on low f))
