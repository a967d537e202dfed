-- The model's clauses of the state that the arrays stand for, as tests of the arrays.
use Rattle.std.proofs.Common.{◌≡◌, ℕ, ◌*◌, ◌<◌, ◌≤◌, Bool, true, false, not, ◌&&◌, ◌||◌, eqb, ltb, leb, List, get_or, take, drop, refl, ap, ◌∙◌, arith, le-ltb, lt-ltb, eqb-true, leb-true}
use mathlib.Core.Bool.{or-true, and-true, and-false}
use lib.ListN.{get_or-map}
use Rattle.std.proofs.lemmas.Bool.Decides.{nat_tests}
use native.Mathlib.Decide.{dec_lt}
use Rattle.lists.specs.Lists.{below, all, sum, member, distinct}
use Rattle.lists.proofs.Tests.{both, clash}
use Rattle.lists.proofs.All.{all_below, below_all, all_member}
use Rattle.lists.proofs.Every.{all_same}
use Rattle.units.specs.declared.Cycles.{Cycles}
use Rattle.sheet.specs.Settings.{W, C, share}
use Rattle.sheet.specs.declared.Settings.{Settings}
use Rattle.model.specs.State.{cycles, thread, allows, used, row, State, Thread}
use Rattle.model.specs.Arrays.{flag, Columns, thread_in, state_of, plain}
use Rattle.model.specs.Sound.{same_bool, slot_sum, sound_history, sound_thread, sound_queue, sound_rest, sound_running}
use Rattle.model.specs.declared.Clock.{Clock}
use Rattle.model.proofs.Table.{thread_at_law, flag_on}
use Rattle.soundness.specs.Sums.{row_in, slot_in, totals_agree, slots_within, books_agree}
use Rattle.soundness.specs.Queue.{holds_ready}
use Rattle.soundness.specs.Refused.{rest_zero, running_fits}

-- a flag of 0 or 1 beside a truth
same_flag : (x : ℕ) (b : Bool) → x ≤ 1 → same_bool (eqb x 1) b ≡ eqb x (flag b)
same_flag x b h = grind (arith, nat_tests)

module _ (c : Settings) (u : List ℕ) (k : Clock) (ts : Columns) (q : List ℕ) where
  -- the state
  abbrev pub view : State
  view = state_of c u k ts q

  total_at : (i : ℕ) → used view i ≡ get_or u i 0
  total_at i = ap (λ (x : Cycles). x.0) (get_or-map cycles u i 0)

  pub rest_is : sound_rest view ≡ rest_zero c u
  unfolding sound_rest rest_zero
  rest_is =
      all_same (λ i. ltb i c.count || (eqb (share c i) 0 && eqb (used view i) 0)) (λ i. ltb i c.count || (eqb (share c i) 0 && eqb (get_or u i 0) 0)) 16
      (λ i b. ap (λ (x : ℕ). ltb i c.count || (eqb (share c i) 0 && eqb x 0)) (total_at i))

  pub books_is : (h : List ℕ)
      → sound_history view h ≡ (leb k.since.0 (2 * C c) && books_agree h u (W c) c.count k.slot.0 (2 * C c) k.since.0)
  unfolding sound_history slot_sum books_agree
  books_is h = rw totals (go (leb k.since.0 (2 * C c)))
    where
      totals : all (λ i. eqb (used view i) (sum (row view h i))) (below c.count) ≡ totals_agree h u (W c) c.count
      totals =
          all_same (λ i. eqb (used view i) (sum (row view h i))) (λ i. eqb (get_or u i 0) (sum (row_in h (W c) i))) c.count
          (λ i b. ap (λ (x : ℕ). eqb x (sum (row_in h (W c) i))) (total_at i))

      inside : Bool
      inside = ltb k.slot.0 (W c)

      rest : Bool → Bool
      rest x = x && totals_agree h u (W c) c.count && slots_within h (W c) c.count (2 * C c) && leb (slot_in h (W c) c.count k.slot.0) k.since.0

      go : (x : Bool) → rest (inside && x) ≡ (x && rest inside)
      go true = rw (and-true inside)
      go false = rw (and-false inside)

  pub threads_are : all (λ t. sound_thread c.count (thread view t)) (below 64) ≡ all (λ t. sound_thread c.count (thread_in ts t)) (below 64)
  threads_are =
      all_same (λ t. sound_thread c.count (thread view t)) (λ t. sound_thread c.count (thread_in ts t)) 64
      (λ t b. ap (sound_thread c.count) (thread_at_law ts t b))

  -- where every flag of a ready thread is 0 or 1 and every record is sound
  module _ (flags : plain ts.ready ≡ true) (proper : all (λ t. sound_thread c.count (thread_in ts t)) (below 64) ≡ true) where
    agree : all (λ t. same_bool (thread view t).ready (member t (take k.queued q))) (below 64)
        ≡ all (λ t. eqb (get_or ts.ready t 0) (flag (member t (take k.queued q)))) (below 64)
    unfolding plain
    agree =
        all_same (λ t. same_bool (thread view t).ready (member t (take k.queued q))) (λ t. eqb (get_or ts.ready t 0) (flag (member t (take k.queued q)))) 64
        (λ t b. ap (λ (x : Thread). same_bool x.ready (member t (take k.queued q))) (thread_at_law ts t b)
        ∙ same_flag (get_or ts.ready t 0) (member t (take k.queued q)) (leb-true _ _ (all_below (λ i. leb (get_or ts.ready i 0) 1) 64 flags t b)))

    -- a ready thread exists
    exist : all (λ t. not (thread view t).ready || (thread view t).exists) (below 64) ≡ true
    unfolding sound_thread
    exist =
        below_all (λ t. not (thread view t).ready || (thread view t).exists) 64
        (λ t b. ap (λ (x : Thread). not x.ready || x.exists) (thread_at_law ts t b)
        ∙ go (eqb (get_or ts.exists t 0) 1) (eqb (get_or ts.ready t 0) 1) (get_or ts.partitions t 0) (get_or ts.priorities t 0) (get_or ts.masks t 0) (get_or ts.policies t 0) (get_or ts.slices t 0) (all_below (λ i. sound_thread c.count (thread_in ts i)) 64 proper t b))
      where
        go : (x y : Bool) (p n m o l : ℕ)
            → sound_thread c.count (record { exists = x; ready = y; partition = p; priority = n; mask = m; policy = o; slice = l }) ≡ true → (not y || x) ≡ true
        go true y p n m o l s = or-true (not y)
        go false true p n m o l s = clash s refl
        go false false p n m o l s = refl

    pub queue_is : sound_queue view ≡ holds_ready ts.ready q k.queued
    unfolding sound_queue holds_ready
    queue_is = rw (agree, exist, and-true (leb k.queued 64 && distinct (take k.queued q) && all (λ t. ltb t 64) (take k.queued q) && all (λ t. eqb (get_or ts.ready t 0) (flag (member t (take k.queued q)))) (below 64)))

  -- where the ready flags say who is in the queue
  pub running_is : holds_ready ts.ready q k.queued ≡ true → sound_running view ≡ running_fits ts.ready ts.masks k.running c.core
  unfolding sound_running running_fits holds_ready
  running_is x = go (dec_lt k.running 64)
    where
      line : List ℕ
      line = take k.queued q

      parts : (all (λ t. ltb t 64) line ≡ true) × (all (λ t. eqb (get_or ts.ready t 0) (flag (member t line))) (below 64) ≡ true)
      parts =
          let (a, _) = both (leb k.queued 64 && distinct line && all (λ t. ltb t 64) line && all (λ t. eqb (get_or ts.ready t 0) (flag (member t line))) (below 64)) (all (eqb 0) (drop k.queued q)) x in
          let (b, ready) = both (leb k.queued 64 && distinct line && all (λ t. ltb t 64) line) (all (λ t. eqb (get_or ts.ready t 0) (flag (member t line))) (below 64)) a in
          let (_, low) = both (leb k.queued 64 && distinct line) (all (λ t. ltb t 64) line) b in
          (low, ready)

      outside : (z : Bool) → member k.running line ≡ z → 64 ≤ k.running → z ≡ false
      outside true y far = clash (all_member (λ t. ltb t 64) line parts.0 k.running y) (le-ltb k.running 64 far)
      outside false y far = refl

      go : Dec (k.running < 64) → (eqb k.running 255 || (member k.running line && allows (thread view k.running).mask c.core))
          ≡ (eqb k.running 255 || (ltb k.running 64 && eqb (get_or ts.ready k.running 0) 1 && allows (get_or ts.masks k.running 0) c.core))
      go (yes b) =
          let t : ℕ = k.running in
          let held : get_or ts.ready t 0 ≡ flag (member t line) = eqb-true _ _ (all_below (λ i. eqb (get_or ts.ready i 0) (flag (member i line))) 64 parts.1 t b) in
          let on : eqb (get_or ts.ready t 0) 1 ≡ member t line = ap (λ (x : ℕ). eqb x 1) held ∙ flag_on (member t line) in
          rw (lt-ltb t 64 b, on, thread_at_law ts t b)
      go (no b) = rw (le-ltb k.running 64 (omega arith), outside (member k.running line) refl (omega arith))
