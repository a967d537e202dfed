-- What a tick does to the threads' records and to the ready queue, and what it leaves of soundness.
use mathlib.Core.Logic.{◌≢◌}
use mathlib.Core.Path.{◌≡◌, refl, sym, ap, ◌∙◌}
use Prim.Native.Nat.{ℕ, ◌≤◌, ◌<◌}
use mathlib.Core.Bool.{Bool, true, false, cond}
use mathlib.Core.List.{List}
use lib.ListN.{length, set, get_or-eq_default}
use lib.Seq.{set_out}
use lib.Dec.{eqb}
use borrow.Author.Tests.{eqb-true, eq-eqb, ne_eqb}
use native.Mathlib.Omega.{arith}
use native.Mathlib.Decide.{dec_lt}
use Rattle.lists.specs.Lists.{member}
use Rattle.model.specs.State.{absent, thread, queue_of, idle, Thread, State}
use Rattle.model.specs.Slices.{spent, counted, ends}
use Rattle.model.specs.Step.{to_tail, turned, sliced}
use Rattle.model.specs.Facts.{Settled, Proper, ReadyQueue, thread_at}
use Rattle.model.proofs.Slices.{uncounted_record, counted_proper}
use Rattle.invariants.proofs.Queues.{queue_is, stored, at_set, queue_same, queue_turns}

module _ (s : State) (t : ℕ) (sixty_four : length s.threads ≡ 64) where
  -- the record of thread u after a tick that found t running
  abbrev pub ticked_record : ℕ → Thread → Thread
  ticked_record u r = cond (eqb t u) (counted r) r

  -- no thread above 63 exists
  pub none_above : 64 ≤ t → thread s t ≡ absent
  none_above h = get_or-eq_default s.threads absent {n = t} (rw sixty_four h)

  none_counted : 64 ≤ t → counted (thread s t) ≡ thread s t
  none_counted h = uncounted_record (thread s t) (rw (none_above h) (omega arith))

  none_ends : 64 ≤ t → ends (thread s t) ≡ false
  unfolding spent
  none_ends h = rw (none_above h)

  set_ticked : (u : ℕ) → thread_at (set s.threads t (counted (thread s t))) u ≡ ticked_record u (thread s u)
  set_ticked u = go (dec_lt t 64)
    where
      go : Dec (t < 64) → thread_at (set s.threads t (counted (thread s t))) u ≡ ticked_record u (thread s u)
      go (yes i) = at_set s.threads t (counted (thread s t)) (rw sixty_four i) (λ u x. x ≡ ticked_record u (thread s u))
          (rw (eq-eqb t t refl)) (λ u w. rw (ne_eqb t u (λ q. w (sym q)))) u
      go (no i) =
          let h : 64 ≤ t = omega arith in
          ap (λ (l : List Thread). thread_at l u) (set_out s.threads t (counted (thread s t)) (rw sixty_four h)) ∙ other (eqb t u) refl
        where
          other : (z : Bool) → eqb t u ≡ z → thread s u ≡ cond z (counted (thread s u)) (thread s u)
          other true q = let e : t ≡ u = eqb-true t u q in let h : 64 ≤ t = omega arith in sym (rw e at (none_counted h))
          other false q = refl

  pub sliced_thread : (u : ℕ) → thread (sliced s t) u ≡ ticked_record u (thread s u)
  unfolding sliced
  sliced_thread u = set_ticked u

  pub sliced_queue : queue_of (sliced s t) ≡ turned (thread s t) t (queue_of s)
  unfolding sliced
  sliced_queue = queue_is s (turned (thread s t) t (queue_of s))

  module _ (h : List ℕ) (k : Settled s h) (runs : t ≢ idle → member t (queue_of s) ≡ true) where
    abbrev new : List Thread
    new = set s.threads t (counted (thread s t))

    proper_after : (u : ℕ) → u < 64 → Proper s.settings.count (thread_at new u)
    proper_after u b = rw (set_ticked u) (go (eqb t u))
      where
        go : (z : Bool) → Proper s.settings.count (cond z (counted (thread s u)) (thread s u))
        go true = counted_proper s.settings.count (thread s u) (k.proper u b)
        go false = k.proper u b

    queue_after_law : ReadyQueue new (turned (thread s t) t (queue_of s))
    unfolding turned
    queue_after_law = go (dec_lt t 64)
      where
        go : Dec (t < 64) → ReadyQueue new (turned (thread s t) t (queue_of s))
        go (yes i) = turn (ends (thread s t))
          where
            here : member t (queue_of s) ≡ true
            here = runs (omega arith)

            ready : (counted (thread s t)).ready ≡ true
            ready = k.queue.ready t i ∙ here

            exists : (counted (thread s t)).exists ≡ true
            exists = k.queue.exists t i ready

            turn : (z : Bool) → ReadyQueue new (cond z (to_tail (queue_of s) t) (queue_of s))
            turn true = queue_turns s.threads t (counted (thread s t)) (rw sixty_four i) (queue_of s) i k.queue ready exists
            turn false = queue_same s.threads t (counted (thread s t)) (rw sixty_four i) (queue_of s) k.queue (ready ∙ sym here) (λ x. exists)
        go (no i) =
            let out : 64 ≤ t = omega arith in
            rw (none_ends out, set_out s.threads t (counted (thread s t)) (rw sixty_four out)) k.queue

    pub sliced_settled : Settled (sliced s t) h
    unfolding sliced
    sliced_settled = record {
      limits = k.limits;
      rest = k.rest;
      books = k.books;
      proper = proper_after;
      queue = rw (queue_is s (turned (thread s t) t (queue_of s))) queue_after_law;
      stored = stored (turned (thread s t) t (queue_of s)) queue_after_law;
    }
