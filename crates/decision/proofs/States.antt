-- The leads of the arrays are those of the state that the arrays stand for.
use mathlib.Core.Path.{◌≡◌, refl, sym, ap, ◌∙◌}
use Prim.Native.Nat.{ℕ, ◌+◌, ◌≤◌, ◌<◌}
use mathlib.Core.Bool.{true, cond}
use mathlib.Core.List.{List}
use lib.ListN.{length, get_or, take, get_or-eq_default}
use lib.Dec.{eqb}
use native.Mathlib.Omega.{arith}
use native.Mathlib.Decide.{dec_lt}
use borrow.Author.Tests.{eqb-true}
use Rattle.lists.specs.Lists.{keep, member}
use Rattle.lists.proofs.Tests.{both}
use Rattle.lists.proofs.All.{member_keep, maximum_found}
use Rattle.lists.proofs.Loops.{member_here}
use Rattle.sheet.specs.declared.Settings.{Settings}
use Rattle.model.specs.State.{absent, allows, thread, State, Thread, may_run}
use Rattle.model.specs.Policy.{candidates, competing, top_priority, chosen}
use Rattle.model.specs.Facts.{Settled}
use Rattle.model.specs.Arrays.{Columns, thread_in, threads_in, state_of, Regular}
use Rattle.model.specs.declared.Clock.{Clock}
use Rattle.model.proofs.Table.{threads_length, thread_at_law}
use Rattle.accounts.specs.Kept.{Led, level}
use Rattle.decision.specs.Leads.{top_of, lead_of, any_of, level_of, numbers, runnable}
use Rattle.decision.specs.Keeping.{KeptIn, Lined}

module _ (c : Settings) (u : List ℕ) (k : Clock) (ts : Columns) (q : List ℕ) (regular : Regular ts) where
  abbrev ps : List ℕ
  ps = ts.partitions

  abbrev ns : List ℕ
  ns = ts.priorities

  abbrev ms : List ℕ
  ms = ts.masks

  abbrev s : State
  s = state_of c u k ts q

  abbrev line : List ℕ
  line = take k.queued q

  -- a number past the last thread stands for none
  past : (l : List ℕ) (t : ℕ) → length l ≡ 64 → 64 ≤ t → get_or l t 0 ≡ 0
  past l t h b = get_or-eq_default l 0 (omega (arith, h, b))

  whole : (t : ℕ) (A : Type 0) (f : Thread → A) (d : A) → f absent ≡ d → (64 ≤ t → f (thread_in ts t) ≡ d) → f (thread s t) ≡ f (thread_in ts t)
  whole t A f d x y = go (dec_lt t 64)
    where
      go : Dec (t < 64) → f (thread s t) ≡ f (thread_in ts t)
      go (yes b) = ap f (thread_at_law ts t b)
      go (no b) =
          let out : 64 ≤ t = omega arith in
          ap f (get_or-eq_default (threads_in ts) absent (omega (arith, threads_length ts, out))) ∙ x ∙ sym (y out)

  pub partition_is : (t : ℕ) → (thread s t).partition ≡ get_or ps t 0
  partition_is t = whole t ℕ (λ x. x.partition) 0 refl (past ps t regular.sized.partitions)

  pub priority_is : (t : ℕ) → (thread s t).priority ≡ get_or ns t 0
  priority_is t = whole t ℕ (λ x. x.priority) 0 refl (past ns t regular.sized.priorities)

  pub mask_is : (t : ℕ) → (thread s t).mask ≡ get_or ms t 0
  mask_is t = whole t ℕ (λ x. x.mask) 0 refl (past ms t regular.sized.masks)

  candidates_are : (p : ℕ) → candidates s p ≡ runnable c.core ps ms p line
  unfolding candidates runnable
  candidates_are p = λ i. keep (λ t. may_run (partition_is t i) (mask_is t i) p c.core) line

  competing_is : (p : ℕ) → competing s p ≡ any_of (runnable c.core ps ms p line)
  unfolding competing
  competing_is p = ap any_of (candidates_are p)

  top_is : (p : ℕ) → top_priority s p ≡ top_of (numbers ns) (runnable c.core ps ms p line)
  unfolding top_priority
  top_is p = λ i. top_of (λ t. priority_is t i) (candidates_are p i)

  level_is : (p : ℕ) → level s p ≡ level_of (numbers ns) (runnable c.core ps ms p line)
  unfolding level level_of
  level_is p = λ i. cond (competing_is p i) (top_is p i + 1) 0

  chosen_is : (p : ℕ) → chosen s p ≡ lead_of (numbers ns) (runnable c.core ps ms p line)
  unfolding chosen top_priority
  chosen_is p = λ i. lead_of (λ t. priority_is t i) (candidates_are p i)

  -- the partitions of a settled state's queued threads
  module _ (h : List ℕ) (settled : Settled s h) where
    pub valid : (t : ℕ) → member t line ≡ true → get_or ps t 0 < c.count
    valid t m =
        let b = settled.queue.inside t m in
        rw (← partition_is t) ((settled.proper t b).partition (settled.queue.exists t b (settled.queue.ready t b ∙ m)))

    inside : (p : ℕ) → competing s p ≡ true → p < c.count
    unfolding runnable
    inside p f =
        let l = runnable c.core ps ms p line in
        let (t, m, n) = maximum_found (λ x. x) l (sym (competing_is p) ∙ f) in
        let (x, y) = both (member t line) (may_run (get_or ps t 0) (get_or ms t 0) p c.core) (sym (member_keep (λ v. may_run (get_or ps v 0) (get_or ms v 0) p c.core) line t) ∙ m) in
        let (a, b) = both (eqb (get_or ps t 0) p) (allows (get_or ms t 0) c.core) y in
        rw (← eqb-true (get_or ps t 0) p a) (valid t x)

    -- what is kept of the arrays is kept of the state
    pub led : (tops firsts : List ℕ) (set : ℕ) → KeptIn c.core ps ns ms line tops firsts set → Led s tops firsts set
    led tops firsts set i = record {
      top = λ p b. (i.right p b).top ∙ sym (level_is p);
      thread = λ p b. (i.right p b).thread ∙ sym (chosen_is p);
      competes = λ p b. (i.right p b).competes ∙ sym (competing_is p);
      inside = inside;
    }

    -- and the queue can be walked
    pub lined : length q ≡ 64 → Lined ps q k.queued c.core
    lined full = record {
      core_inside = settled.limits.core;
      few = settled.stored.few;
      full = full;
      entries = λ i b. settled.queue.inside (get_or q i 0) (there i b);
      partitions_inside = λ i b. omega (arith, valid (get_or q i 0) (there i b), settled.limits.count_high);
    }
      where
        there : (i : ℕ) → i < k.queued → member (get_or q i 0) line ≡ true
        there i b = member_here q (get_or q i 0) i k.queued (omega (arith, full, settled.stored.few, b)) b refl
