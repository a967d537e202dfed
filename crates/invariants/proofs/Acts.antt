-- What the kinds that name a thread leave of soundness, and what they do not change.
use mathlib.Core.Logic.{◌≢◌}
use mathlib.Core.Path.{◌≡◌, refl, sym, ap, ◌∙◌}
use Prim.Native.Nat.{ℕ, ◌≤◌, ◌<◌}
use mathlib.Core.Bool.{Bool, true, false, cond}
use mathlib.Core.List.{List, [], ◌∷◌, ◌++◌}
use lib.ListN.{length, set}
use lib.Dec.{eqb}
use borrow.Author.Tests.{eqb-true, eqb-false}
use native.Mathlib.Omega.{arith}
use Rattle.lists.proofs.Tests.{clash}
use Rattle.model.specs.State.{absent, thread, queue_of, Thread, State}
use Rattle.model.specs.Slices.{slice_for}
use Rattle.model.specs.Event
use Rattle.model.specs.Event.{kind_of, thread_of, partition_of, priority_of, mask_of, policy_of}
use Rattle.model.specs.Step.{with_queue, with_thread, with_ready, returned, with_priority, requeued, created, joins, goes, reprioritized, act, leaves}
use Rattle.model.specs.Facts.{Settled, SliceFits, Proper, ReadyQueue, Named}
use Rattle.model.proofs.Slices.{full_slice_law, slice_absent}
use Rattle.invariants.proofs.Queues.{queue_is, stored, proper_set, queue_same, queue_joins, queue_leaves, queue_requeued}

-- one thread's record changed, with the queue as it was or another one
module _ (s : State) (h : List ℕ) (k : Settled s h) (sixty_four : length s.threads ≡ 64) (t : ℕ) (inside : t < 64) where
  abbrev here : t < length s.threads
  here = rw sixty_four inside

  same_queue : (r : Thread) → Proper s.settings.count r → r.ready ≡ (thread s t).ready → (r.ready ≡ true → r.exists ≡ true)
      → Settled (with_thread s t r) h
  same_queue r p rdy ex = record {
    limits = k.limits;
    rest = k.rest;
    books = k.books;
    proper = proper_set s.threads t r here s.settings.count p k.proper;
    queue = queue_same s.threads t r here (queue_of s) k.queue (rdy ∙ k.queue.ready t inside) ex;
    stored = k.stored;
  }

  new_queue : (r : Thread) (q : List ℕ) → Proper s.settings.count r → ReadyQueue (set s.threads t r) q
      → Settled (with_queue (with_thread s t r) q) h
  new_queue r q p l = record {
    limits = k.limits;
    rest = k.rest;
    books = k.books;
    proper = proper_set s.threads t r here s.settings.count p k.proper;
    queue = rw (queue_is (with_thread s t r) q) l;
    stored = stored q l;
  }

  joins_settled : (r : Thread) → Proper s.settings.count r → (thread s t).ready ≡ false → r.ready ≡ true → r.exists ≡ true
      → Settled (with_queue (with_thread s t r) (queue_of s ++ (t ∷ []))) h
  joins_settled r p was rdy ex =
      new_queue r (queue_of s ++ (t ∷ [])) p
      (queue_joins s.threads t r here (queue_of s) inside k.queue (sym (k.queue.ready t inside) ∙ was) rdy ex)

  goes_settled : (r : Thread) → Proper s.settings.count r → r.ready ≡ false
      → Settled (with_queue (with_thread s t r) (leaves (queue_of s) t)) h
  goes_settled r p rdy = new_queue r (leaves (queue_of s) t) p (queue_leaves s.threads t r here (queue_of s) k.queue rdy)

  requeued_settled : (r : Thread) (old new : ℕ) → Proper s.settings.count r → r.ready ≡ (thread s t).ready
      → (r.ready ≡ true → r.exists ≡ true) → Settled (with_queue (with_thread s t r) (requeued (thread s t).ready old new t (queue_of s))) h
  requeued_settled r old new p rdy ex =
      new_queue r (requeued (thread s t).ready old new t (queue_of s)) p
      (queue_requeued s.threads t r here (thread s t).ready old new (queue_of s) inside k.queue rdy (rdy ∙ k.queue.ready t inside) ex)

  -- an existing thread's record with another readiness or priority, and the slice that it had or a full one
  changed : (r : Thread) → (thread s t).exists ≡ true → r.exists ≡ (thread s t).exists → r.partition ≡ (thread s t).partition
      → r.mask ≡ (thread s t).mask → SliceFits r.policy r.slice → Proper s.settings.count r
  changed r e x p m l = record {
    partition = λ z. rw p ((k.proper t inside).partition e);
    mask = λ z. rw m ((k.proper t inside).mask e);
    slice = l;
    none = λ z. clash (x ∙ e) z;
  }

-- ---- the kinds, one by one

-- the state with other threads and another queue
abbrev with_lists : State → List Thread → List ℕ → ℕ → State
with_lists s ts q n =
    record {
      settings = s.settings;
      used = s.used;
      stamp = s.stamp;
      slot = s.slot;
      since = s.since;
      threads = ts;
      queue = q;
      queued = n;
      running = s.running;
    }

module _ (s : State) (b : List ℕ) where
  abbrev t : ℕ
  t = thread_of b

  abbrev was : Thread
  was = thread s t

  abbrev new : Thread
  new = created (partition_of b) (priority_of b) (mask_of b) (policy_of b)

  pub act_cases : (P : State → Type 0)
      → (kind_of b ≡ Event.create → P (with_thread s t new))
      → (kind_of b ≡ Event.ready → P (joins s t))
      → (kind_of b ≡ Event.block → P (goes s t (with_ready was false)))
      → (kind_of b ≡ Event.set_priority → P (reprioritized s t (priority_of b)))
      → (kind_of b ≡ Event.end → P (goes s t absent))
      → (kind_of b ≢ Event.create → kind_of b ≢ Event.ready → kind_of b ≢ Event.block → kind_of b ≢ Event.set_priority → kind_of b ≢ Event.end → P s)
      → P (act s b)
  unfolding act
  act_cases P f₁ f₂ f₃ f₄ f₅ f₆ =
      case Event.create f₁ (λ n₁. case Event.ready f₂ (λ n₂. case Event.block f₃ (λ n₃. case Event.set_priority f₄ (λ n₄. case Event.end f₅ (λ n₅. f₆ n₁ n₂ n₃ n₄ n₅)))))
    where
      case : (k : ℕ) {x y : State} → (kind_of b ≡ k → P x) → (kind_of b ≢ k → P y) → P (cond (eqb (kind_of b) k) x y)
      case k {x} {y} f g = go (eqb (kind_of b) k) refl
        where
          go : (z : Bool) → eqb (kind_of b) k ≡ z → P (cond z x y)
          go true q = f (eqb-true (kind_of b) k q)
          go false q = g (eqb-false (kind_of b) k q)

  pub act_settled : (h : List ℕ) → length s.threads ≡ 64 → Named s b → Settled s h → Settled (act s b) h
  act_settled h len n k = act_cases (λ s'. Settled s' h)
      (λ q. let i : t < 64 = inside (omega arith) (omega arith) in
      same_queue s h k len t i new (record {
        partition = λ z. n.partition_inside q;
        mask = λ z. n.some_core q;
        slice = full_slice_law (policy_of b) (n.known_policy q);
        none = λ z. clash refl z;
      })
      (sym (ap (λ (r : Thread). r.ready) ((k.proper t i).none (n.absent q)))) (λ z. refl))
      (λ q. let (i, e) = there (omega arith) (omega arith) in
      let full : SliceFits was.policy (slice_for was.policy) = full_slice_law was.policy (k.proper t i).slice.known in
      joins_settled s h k len t i (returned was) (changed s h k len t i (returned was) e refl refl refl full) (n.not_ready q) refl e)
      (λ q. let (i, e) = there (omega arith) (omega arith) in
      goes_settled s h k len t i (with_ready was false) (changed s h k len t i (with_ready was false) e refl refl refl (k.proper t i).slice) refl)
      (λ q. let (i, e) = there (omega arith) (omega arith) in
      let r : Thread = with_priority was (priority_of b) in
      let p : Proper s.settings.count r = changed s h k len t i r e refl refl refl (k.proper t i).slice in
      requeued_settled s h k len t i r was.priority (priority_of b) p refl (λ z. e))
      (λ q. let i : t < 64 = inside (omega arith) (omega arith) in
      goes_settled s h k len t i absent (record { partition = λ z. clash z refl; mask = λ z. clash z refl; slice = slice_absent; none = λ z. refl }) refl)
      (λ n₁ n₂ n₃ n₄ n₅. k)
    where
      inside : Event.create ≤ kind_of b → kind_of b ≤ Event.end → t < 64
      inside = n.thread_inside

      there : Event.ready ≤ kind_of b → kind_of b ≤ Event.end → (t < 64) × (was.exists ≡ true)
      there lo hi = (inside (omega arith) hi, n.exists lo hi)

  -- all else is as it was
  act_keeps : {A : Type 0} (f : State → A) → ((ts : List Thread) (q : List ℕ) (n : ℕ) → f (with_lists s ts q n) ≡ f s) → f (act s b) ≡ f s
  act_keeps f e =
      act_cases (λ s'. f s' ≡ f s) (λ q. e _ _ _) (λ q. e _ _ _) (λ q. e _ _ _) (λ q. e _ _ _) (λ q. e _ _ _) (λ n₁ n₂ n₃ n₄ n₅. refl)

  pub act_settings : (act s b).settings ≡ s.settings
  act_settings = act_keeps (λ x. x.settings) (λ ts q n. refl)

  pub act_stamp : (act s b).stamp ≡ s.stamp
  act_stamp = act_keeps (λ x. x.stamp) (λ ts q n. refl)

  pub act_slot : (act s b).slot.0 ≡ s.slot.0
  act_slot = act_keeps (λ x. x.slot.0) (λ ts q n. refl)

  pub act_since : (act s b).since.0 ≡ s.since.0
  act_since = act_keeps (λ x. x.since.0) (λ ts q n. refl)
