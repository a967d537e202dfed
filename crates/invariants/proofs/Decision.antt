-- What the decision is, in a state that is sound but for its running thread.
use mathlib.Core.Logic.{◌≢◌}
use mathlib.Core.Path.{◌≡◌, refl, sym, ap, ◌∙◌}
use Prim.Native.Nat.{ℕ, ◌<◌}
use mathlib.Core.Bool.{Bool, true, false, cond}
use mathlib.Core.Option.{Option, none, some}
use mathlib.Core.List.{List}
use lib.Dec.{eqb}
use borrow.Author.Tests.{ne_eqb}
use native.Mathlib.Omega.{arith}
use Rattle.lists.specs.Lists.{any}
use Rattle.lists.proofs.Tests.{clash}
use Rattle.lists.proofs.All.{below_any}
use Rattle.model.specs.State.{thread, queue_of, idle, State}
use Rattle.model.specs.Policy
use Rattle.model.specs.Policy.{Decided, competing, mode, winner, chosen, decide_for, decide}
use Rattle.model.specs.Step.{Saved, billed, settle}
use Rattle.model.specs.Choices.{Won}
use Rattle.model.specs.Facts.{Settled, Runs}
use Rattle.model.proofs.Bounds.{queued_inside}
use Rattle.model.proofs.Winner.{winner_won, winner_none}
use Rattle.invariants.specs.Promises.{Allowed, NoneAllowed, IdleExactly, idle_decision, Busy}
use Rattle.invariants.proofs.Chosen.{competes, chosen_is, chosen_allowed}

module _ (s : State) (h : List ℕ) (k : Settled s h) where
  -- an allowed thread's partition competes
  pub allowed_competes : (t : ℕ) → Allowed s t → ((thread s t).partition < s.settings.count) × (competing s (thread s t).partition ≡ true)
  allowed_competes t a = ((queued_inside s h k t a.queued).1, competes s (thread s t).partition t a refl)

  -- and a partition that competes has one
  pub competes_allowed : (p : ℕ) → competing s p ≡ true → Allowed s (chosen s p)
  competes_allowed p c = (chosen_allowed s p c).0

  mode_busy : (p : ℕ) → p < s.settings.count → competing s p ≡ true → mode s ≢ Policy.idle_mode
  unfolding mode
  mode_busy p b c = rw (below_any (competing s) s.settings.count p b c) (go (any _ _) (any _ _))
    where
      go : (x y : Bool) → cond x Policy.free_time (cond y Policy.underload Policy.at_limit) ≢ Policy.idle_mode
      go true y = omega arith
      go false true = omega arith
      go false false = omega arith

-- where f is favoured
module _ (s : State) (h : List ℕ) (k : Settled s h) (f : Option ℕ) where
  -- a decision for partition w
  pub record Picks (w : ℕ) (d : Decided) : Type 0 where
    pub busy : Busy s f d
    pub partition : d.partition ≡ w
    pub allowed : Allowed s d.thread
    pub thread_partition : (thread s d.thread).partition ≡ w
    pub inside : d.thread < 64

  picks : (w : ℕ) → winner s f ≡ some w → Picks w (decide_for s (some w))
  unfolding decide_for
  picks w e =
      let won : Won s f s.settings.count w = winner_won s f w e in
      let (a, p) = chosen_allowed s w won.competes in
      record {
        busy =
            record {
              mode_is = refl;
              mode_busy = mode_busy s h k w won.inside won.competes;
              won = won;
              choice =
                  chosen_is s w won.competes;
            };
        partition = refl;
        allowed = a;
        thread_partition = p;
        inside = k.queue.inside (chosen s w) a.queued;
      }

  -- the two cases
  pub decide_picks : (w : ℕ) → winner s f ≡ some w → Picks w (decide s f)
  unfolding decide
  decide_picks w e = rw e (picks w e)

  pub decide_idle : winner s f ≡ none → decide s f ≡ idle_decision
  unfolding decide decide_for
  decide_idle e = rw e

  pub none_allowed : winner s f ≡ none → NoneAllowed s
  none_allowed e t a = let (b, c) = allowed_competes s h k t a in clash c (winner_none s f e (thread s t).partition b)

  -- idle, mode 0, partition 0 and thread 255, exactly where no queued thread is allowed on this core
  pub idle_exactly : IdleExactly s f
  idle_exactly = go (winner s f) refl
    where
      go : (o : Option ℕ) → winner s f ≡ o → IdleExactly s f
      go none e = record { when = λ g. decide_idle e; by_mode = λ z. none_allowed e; by_thread = λ z. none_allowed e }
      go (some w) e =
          let d : Picks w (decide s f) = decide_picks w e in
          record {
            when = λ g. absurd (g (decide s f).thread d.allowed);
            by_mode = λ z. absurd (d.busy.mode_busy z);
            by_thread = λ z. let x : ⊥ = omega (arith, d.inside) in absurd x;
          }

  -- so the decision's thread may be the running one
  pub decide_runs : Runs s.settings s.threads (queue_of s) (decide s f).thread
  decide_runs = go (winner s f) refl
    where
      go : (o : Option ℕ) → winner s f ≡ o → Runs s.settings s.threads (queue_of s) (decide s f).thread
      go none e =
          let z : (decide s f).thread ≡ idle = ap (λ (d : Decided). d.thread) (decide_idle e) in
          record { queued = λ n. absurd (n z); allowed = λ n. absurd (n z) }
      go (some w) e = let d : Picks w (decide s f) = decide_picks w e in record { queued = λ n. d.allowed.queued; allowed = λ n. d.allowed.allowed }

  -- and it is a thread of the partition that the decision names
  pub decide_works : (decide s f).thread ≢ idle
      → ((thread s (decide s f).thread).partition ≡ (decide s f).partition) × ((decide s f).partition < s.settings.count)
  decide_works n = go (winner s f) refl
    where
      go : (o : Option ℕ) → winner s f ≡ o
          → ((thread s (decide s f).thread).partition ≡ (decide s f).partition) × ((decide s f).partition < s.settings.count)
      go none e = absurd (n (ap (λ (d : Decided). d.thread) (decide_idle e)))
      go (some w) e = let d : Picks w (decide s f) = decide_picks w e in (d.thread_partition ∙ sym d.partition, d.busy.won.inside)

-- once the decision's thread runs, the partition that is billed is the winner
pub billed_winner : (f : Option ℕ) (x : Saved) → Settled x.state x.history → billed (settle f x).state ≡ winner x.state f
unfolding billed settle
billed_winner f x k = go (winner x.state f) refl
  where
    s : State
    s = x.state

    go : (o : Option ℕ) → winner s f ≡ o → cond (eqb (decide s f).thread idle) none (some (thread s (decide s f).thread).partition) ≡ o
    go none e = rw (decide_idle s x.history k f e)
    go (some w) e =
        let d = decide_picks s x.history k f w e in
        rw (ne_eqb (decide s f).thread idle (omega (arith, d.inside)), d.thread_partition)
