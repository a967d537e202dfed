-- What a decision looks at beside the favoured partition: settings, threads, ready queue and totals; not the clock, nor the running thread, nor
-- whether the edition is stated.
use mathlib.Core.Path.{◌≡◌, refl, sym, ap, ◌∙◌}
use Prim.Native.Nat.{ℕ, zero, suc}
use mathlib.Core.Bool.{cond}
use mathlib.Core.Option.{Option, none, some}
use mathlib.Core.List.{List}
use Rattle.units.specs.declared.Cycles.{Cycles}
use Rattle.units.specs.declared.Ticks.{Ticks}
use Rattle.sheet.specs.Settings.{budget, need}
use Rattle.sheet.specs.declared.Settings.{Settings}
use Rattle.model.specs.Policy.{candidates, competing, top_priority, remaining, has_budget, mode, by_budget, by_priority, by_fraction, ratio_policy, compare, better, best, winner, chosen, decide_for, decide}
use Rattle.model.specs.Step.{Saved, settle}
use Rattle.model.specs.State.{Thread, State}
use Rattle.invariants.specs.Editions.{with_stated}

module _ (s : State) (stated stamp : ℕ) (slot : Ticks) (since : Cycles) (running : ℕ) where
  -- the state with its edition stated or not, at another time, with another thread running
  abbrev at : State
  at =
      record {
        settings = with_stated s.settings stated;
        used = s.used;
        stamp = stamp;
        slot = slot;
        since = since;
        threads = s.threads;
        queue = s.queue;
        queued = s.queued;
        running = running;
      }

  compare_at : (p q : ℕ) → compare at (mode at) p q ≡ compare s (mode s) p q
  unfolding budget need candidates competing top_priority remaining has_budget mode by_budget by_priority by_fraction ratio_policy compare
  compare_at p q = refl

  module _ (f : Option ℕ) where
    better_at : (p : ℕ) (o : Option ℕ) → better at f p o ≡ better s f p o
    unfolding better
    better_at p none = refl
    better_at p (some b) = rw (compare_at p b)

    best_at : (n : ℕ) → best at f n ≡ best s f n
    unfolding candidates competing best
    best_at zero = refl
    best_at (suc p) =
        ap (λ (o : Option ℕ). cond (competing s p) (some (better at f p o)) o) (best_at p)
        ∙ ap (λ (n : ℕ). cond (competing s p) (some n) (best s f p)) (better_at p (best s f p))

    for_at : (o : Option ℕ) → decide_for at o ≡ decide_for s o
    unfolding budget need candidates competing top_priority remaining has_budget mode chosen decide_for
    for_at none = refl
    for_at (some p) = refl

    pub decide_at : decide at f ≡ decide s f
    unfolding decide winner
    decide_at = for_at (best at f s.settings.count) ∙ ap (decide_for s) (best_at s.settings.count)

-- so which thread runs makes no difference, where the same partition is favoured
module _ (f : Option ℕ) (x : Saved) where
  abbrev s' : State
  s' = x.state

  pub competing_kept : (p : ℕ) → competing (settle f x).state p ≡ competing s' p
  unfolding settle candidates competing
  competing_kept p = refl

  pub compare_kept : (p q : ℕ) → compare (settle f x).state (mode (settle f x).state) p q ≡ compare s' (mode s') p q
  unfolding settle
  compare_kept = compare_at s' s'.settings.stated s'.stamp s'.slot s'.since (decide s' f).thread

  pub decide_kept : (g : Option ℕ) → decide (settle f x).state g ≡ decide s' g
  unfolding settle
  decide_kept = decide_at s' s'.settings.stated s'.stamp s'.slot s'.since (decide s' f).thread

-- and two states that agree in what it looks at have the same decision
pub decide_same : (s s' : State) (f : Option ℕ) → s.settings ≡ s'.settings → s.used ≡ s'.used → s.threads ≡ s'.threads
    → s.queue ≡ s'.queue → s.queued ≡ s'.queued → decide s f ≡ decide s' f
decide_same s s' f c u t q n =
    sym (decide_at s s.settings.stated s'.stamp s'.slot s'.since s'.running f)
    ∙ ap (λ (x : Settings). decide (of x s.used s.threads s.queue s.queued) f) c
    ∙ ap (λ (x : List Cycles). decide (of s'.settings x s.threads s.queue s.queued) f) u
    ∙ ap (λ (x : List Thread). decide (of s'.settings s'.used x s.queue s.queued) f) t
    ∙ ap (λ (x : List ℕ). decide (of s'.settings s'.used s'.threads x s.queued) f) q
    ∙ ap (λ (x : ℕ). decide (of s'.settings s'.used s'.threads s'.queue x) f) n
  where
    of : Settings → List Cycles → List Thread → List ℕ → ℕ → State
    of c u t q n =
        record {
          settings = c;
          used = u;
          stamp = s'.stamp;
          slot = s'.slot;
          since = s'.since;
          threads = t;
          queue = q;
          queued = n;
          running = s'.running;
        }
