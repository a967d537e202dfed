-- What an accepted event does to every thread's record and to the ready queue, said by its bytes.
use mathlib.Core.Logic.{◌≢◌}
use mathlib.Core.Path.{◌≡◌, refl, sym}
use Prim.Native.Nat.{ℕ, ◌≤◌}
use mathlib.Core.Bool.{Bool, true, false, cond, ◌||◌}
use mathlib.Core.List.{List, [], ◌∷◌, ◌++◌}
use lib.ListN.{length, set}
use lib.Dec.{eqb}
use borrow.Author.Tests.{eq-eqb, ne_eqb}
use native.Mathlib.Omega.{arith}
use Rattle.sheet.specs.declared.Settings.{Settings}
use Rattle.model.specs.State.{thread, queue_of, Thread, State}
use Rattle.model.specs.Event
use Rattle.model.specs.Event.{kind_of, thread_of, priority_of, stamp_of}
use Rattle.model.specs.Step.{Saved, leaves, requeued, favoured, charge, move_slot, act, settle, restart}
use Rattle.model.specs.Facts.{thread_at, Accepted, Named}
use Rattle.guarantee.specs.Account.{record_named, record_by, queue_by}
use Rattle.invariants.proofs.Queues.{at_set, queue_is}
use Rattle.invariants.proofs.Acts.{act_cases}
use Rattle.invariants.proofs.Turns.{sliced_thread, sliced_queue}
use Rattle.invariants.proofs.Applied.{after_event, apply_cases, named}
use Rattle.invariants.proofs.Answered.{Good}

-- a kind other than a tick, by the thread that it names
abbrev record_told : List ℕ → ℕ → Thread → Thread
record_told b t r = cond (eqb (thread_of b) t) (record_named b r) r

-- a kind that tells nothing of any thread
silent : (b : List ℕ) (t : ℕ) (r : Thread) → record_named b r ≡ r → r ≡ record_told b t r
silent b t r e = go (eqb (thread_of b) t)
  where
    go : (z : Bool) → r ≡ cond z (record_named b r) r
    go true = sym e
    go false = refl

resumed : (b : List ℕ) (r : Thread) → kind_of b ≡ Event.resume → record_named b r ≡ r
unfolding record_named
resumed b r q = rw q

module _ (s : State) (b : List ℕ) (len : length s.threads ≡ 64) (n : Named s b) where
  abbrev i : ℕ
  i = thread_of b

  set_told : (t : ℕ) (r : Thread) → Event.create ≤ kind_of b → kind_of b ≤ Event.end → r ≡ record_named b (thread s i)
      → thread_at (set s.threads i r) t ≡ record_told b t (thread s t)
  set_told t r lo hi e = at_set s.threads i r (rw len (n.thread_inside lo hi)) (λ u x. x ≡ record_told b u (thread s u))
      (rw (eq-eqb i i refl) e) (λ u w. rw (ne_eqb i u (λ q. w (sym q)))) t

  act_record : (t : ℕ) → thread (act s b) t ≡ record_told b t (thread s t)
  unfolding record_named
  act_record t = act_cases s b (λ s'. thread s' t ≡ record_told b t (thread s t))
      (λ q. set_told t _ (omega arith) (omega arith) (rw q))
      (λ q. set_told t _ (omega arith) (omega arith) (rw q))
      (λ q. set_told t _ (omega arith) (omega arith) (rw q))
      (λ q. set_told t _ (omega arith) (omega arith) (rw q))
      (λ q. set_told t _ (omega arith) (omega arith) (rw q))
      (λ n₁ n₂ n₃ n₄ n₅. silent b t (thread s t) (rw (record_named, ne_eqb _ _ n₁, ne_eqb _ _ n₂, ne_eqb _ _ n₃, ne_eqb _ _ n₄, ne_eqb _ _ n₅)))

  act_queue : (n : ℕ) → kind_of b ≢ Event.tick → queue_of (act s b) ≡ queue_by b n (thread s) (queue_of s)
  unfolding queue_by
  act_queue n k = rw (ne_eqb (kind_of b) Event.tick k) (act_cases s b (λ s'. queue_of s' ≡ queue_acted)
      (λ q. rw q)
      (λ q. rw (queue_is _ (queue_of s ++ (thread_of b ∷ [])), q))
      (λ q. rw (queue_is _ (leaves (queue_of s) (thread_of b)), q))
      (λ q. rw (queue_is _ placed, q))
      (λ q. rw (queue_is _ (leaves (queue_of s) (thread_of b)), q))
      (λ n₁ n₂ n₃ n₄ n₅. rw (ne_eqb _ _ n₂, ne_eqb _ _ n₃, ne_eqb _ _ n₅, ne_eqb _ _ n₄)))
    where
      placed : List ℕ
      placed = requeued (thread s i).ready (thread s i).priority (priority_of b) i (queue_of s)

      queue_acted : List ℕ
      queue_acted =
          cond (eqb (kind_of b) Event.ready) (queue_of s ++ (thread_of b ∷ []))
          (cond (eqb (kind_of b) Event.block || eqb (kind_of b) Event.end) (leaves (queue_of s) (thread_of b))
          (cond (eqb (kind_of b) Event.set_priority) placed
          (queue_of s)))

module _ (c : Settings) (v : Saved) (g : Good c v) (b : List ℕ) (a : Accepted v.state v.history b) where
  abbrev s' : State
  s' = v.state

  pub after_record : (t : ℕ) → thread (after_event v b).state t ≡ record_by b s'.running t (thread s' t)
  unfolding settle restart charge move_slot record_by
  after_record t = apply_cases v b (λ x. thread (settle (favoured s') x).state t ≡ record_by b s'.running t (thread s' t))
      (λ q. rw (ne_eqb (kind_of b) Event.tick (omega arith)) (silent b t (thread s' t) (resumed b (thread s' t) q)))
      (λ q. rw q (sliced_thread (move_slot (charge v (stamp_of b))).state s'.running g.lengths.threads t))
      (λ m n. rw (ne_eqb (kind_of b) Event.tick n) (act_record (charge v (stamp_of b)).state b g.lengths.threads (named v b g.lengths a) t))

  pub after_queue : queue_of (after_event v b).state ≡ queue_by b s'.running (thread s') (queue_of s')
  unfolding settle restart charge move_slot queue_by
  after_queue = apply_cases v b (λ x. queue_of (settle (favoured s') x).state ≡ queue_by b s'.running (thread s') (queue_of s'))
      (λ q. rw q)
      (λ q. rw q (sliced_queue (move_slot (charge v (stamp_of b))).state s'.running g.lengths.threads))
      (λ m n. act_queue (charge v (stamp_of b)).state b g.lengths.threads (named v b g.lengths a) _ n)
