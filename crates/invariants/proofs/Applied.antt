-- What an accepted event leaves, before the new decision and after it: the state stays sound and typed.
use mathlib.Core.Logic.{◌≢◌}
use mathlib.Core.Path.{◌≡◌, refl, ◌∙◌}
use Prim.Native.Nat.{ℕ, ◌^◌, ◌≤◌, ◌<◌}
use mathlib.Core.Bool.{Bool, true, false, cond}
use mathlib.Core.Option.{Option}
use mathlib.Core.List.{List, [], ◌∷◌, ◌++◌}
use lib.ListN.{length, get_or, set, drop, replicate, length-append, length-replicate, length-set, length-drop}
use lib.Seq.{drop_at}
use lib.Dec.{eqb}
use borrow.Author.Tests.{eqb-true, eqb-false}
use native.Mathlib.Omega.{arith}
use Rattle.sheet.specs.Settings.{W}
use Rattle.lists.specs.Lists.{member}
use Rattle.model.specs.State.{absent, thread, queue_of, idle, wanted, Thread, State}
use Rattle.model.specs.Slices.{counted}
use Rattle.model.specs.Event
use Rattle.model.specs.Event.{kind_of, thread_of, priority_of, policy_of, stamp_of, elapsed_at}
use Rattle.model.specs.Step.{Saved, with_thread, with_queue, leaves, requeued, billed, favoured, charge, next, move_slot, turned, sliced, ticked, act, settle, restart, apply}
use Rattle.model.specs.Typed.{Lengths, ThreadTyped, Bytes, Typed}
use Rattle.model.specs.Facts.{Settled, Sound, Accepted, Named}
use Rattle.model.proofs.Bounds.{next_inside}
use Rattle.model.proofs.Slices.{slice_few, counted_typed}
use Rattle.invariants.proofs.Charges.{used_length, lower_length, history_past, clear_past}
use Rattle.invariants.proofs.Queues.{at_set}
use Rattle.invariants.proofs.Acts.{act_cases, act_settings, act_stamp, act_settled}
use Rattle.invariants.proofs.Turns.{sliced_thread, sliced_settled}
use Rattle.invariants.proofs.Kept.{billed_inside, length_charge, length_move, charge_settled, move_settled, restart_settled}
use Rattle.invariants.proofs.Words.{words}
use Rattle.invariants.proofs.Typing.{typed_of}
use Rattle.invariants.proofs.Decision.{decide_runs}

-- the state and the history that an accepted event leaves
abbrev pub after_event : Saved → List ℕ → Saved
after_event v b = settle (favoured v.state) (apply v b)

-- ---- the threads' action

with_thread_law : (s : State) → Lengths s → (t : ℕ) (r : Thread) → Lengths (with_thread s t r)
with_thread_law s len t r = record { shares = len.shares; used = len.used; threads = length-set s.threads t r ∙ len.threads; queue = len.queue }

with_queue_law : (s : State) (q : List ℕ) → Lengths s → length q ≤ 64 → Lengths (with_queue s q)
with_queue_law s q l few =
    record { shares = l.shares; used = l.used; threads = l.threads; queue = simp (length-append, length-replicate) (omega arith) }

module _ (s : State) (b : List ℕ) (h : List ℕ) (len : Lengths s) (n : Named s b) where
  act_lengths : Settled (act s b) h → Lengths (act s b)
  act_lengths = act_cases s b (λ s'. Settled s' h → Lengths s')
      (λ q k. with_thread_law s len _ _)
      (λ q k. with_queue_law _ (queue_of s ++ (thread_of b ∷ [])) (with_thread_law s len _ _) k.stored.few)
      (λ q k. with_queue_law _ (leaves (queue_of s) (thread_of b)) (with_thread_law s len _ _) k.stored.few)
      (λ q k. with_queue_law _ (requeued was.ready was.priority (priority_of b) (thread_of b) (queue_of s)) (with_thread_law s len _ _) k.stored.few)
      (λ q k. with_queue_law _ (leaves (queue_of s) (thread_of b)) (with_thread_law s len _ _) k.stored.few)
      (λ n₁ n₂ n₃ n₄ n₅ k. len)
    where
      was : Thread
      was = thread s (thread_of b)

  act_threads : Bytes b → ((t : ℕ) → ThreadTyped (thread s t)) → (t : ℕ) → ThreadTyped (thread (act s b) t)
  act_threads y old = act_cases s b (λ s'. (t : ℕ) → ThreadTyped (thread s' t))
      (λ q. new (omega arith) (omega arith) (record {
        partition = y 2;
        priority = y 3;
        mask = y 8;
        policy = y 9;
        slice = omega (arith, slice_few (policy_of b));
      }))
      (λ q. new (omega arith) (omega arith) (record {
        partition = (old i).partition;
        priority = (old i).priority;
        mask = (old i).mask;
        policy = (old i).policy;
        slice = omega (arith, slice_few (thread s i).policy);
      }))
      (λ q. new (omega arith) (omega arith) (record {
        partition = (old i).partition;
        priority = (old i).priority;
        mask = (old i).mask;
        policy = (old i).policy;
        slice = (old i).slice;
      }))
      (λ q. new (omega arith) (omega arith) (record {
        partition = (old i).partition;
        priority = y 3;
        mask = (old i).mask;
        policy = (old i).policy;
        slice = (old i).slice;
      }))
      (λ q. new (omega arith) (omega arith) (record {
        partition = omega arith;
        priority = omega arith;
        mask = omega arith;
        policy = omega arith;
        slice = omega arith;
      }))
      (λ n₁ n₂ n₃ n₄ n₅. old)
    where
      i : ℕ
      i = thread_of b

      new : {r : Thread} → Event.create ≤ kind_of b → kind_of b ≤ Event.end → ThreadTyped r → (t : ℕ)
          → ThreadTyped (get_or (set s.threads i r) t absent)
      new {r} lo hi x = at_set s.threads i r (rw len.threads (n.thread_inside lo hi)) (λ u z. ThreadTyped z) x (λ u w. old u)

-- ---- an accepted event

module _ (v : Saved) (b : List ℕ) where
  abbrev s : State
  s = v.state

  abbrev h : List ℕ
  h = v.history

  pub apply_cases : (P : Saved → Type 0)
      → (kind_of b ≡ Event.resume → P (restart v (stamp_of b)))
      → (kind_of b ≡ Event.tick → P (ticked (charge v (stamp_of b))))
      → (kind_of b ≢ Event.resume → kind_of b ≢ Event.tick
      → P (record { state = act (charge v (stamp_of b)).state b; history = (charge v (stamp_of b)).history }))
      → P (apply v b)
  unfolding apply
  apply_cases P f g k = go (eqb (kind_of b) Event.resume) refl (eqb (kind_of b) Event.tick) refl
    where
      go : (y : Bool) → eqb (kind_of b) Event.resume ≡ y → (z : Bool) → eqb (kind_of b) Event.tick ≡ z
          → P (cond y (restart v (stamp_of b)) (cond z (ticked (charge v (stamp_of b))) (record { state = act (charge v (stamp_of b)).state b; history = (charge v (stamp_of b)).history })))
      go true p z q = f (eqb-true _ _ p)
      go false p true q = g (eqb-true _ _ q)
      go false p false q = k (eqb-false _ _ p) (eqb-false _ _ q)

  -- what it leaves
  pub record Left (x : Saved) : Type 0 where
    pub settled : Settled x.state x.history
    pub lengths : Lengths x.state
    pub settings : x.state.settings ≡ s.settings
    pub stamp : x.state.stamp ≡ stamp_of b
    pub past : drop (wanted s) x.history ≡ drop (wanted s) h
    pub size : length x.history ≡ length h
    pub threads : Bytes b → ((t : ℕ) → ThreadTyped (thread s t)) → (t : ℕ) → ThreadTyped (thread x.state t)

  module _ (len : Lengths s) (a : Accepted s h b) where
    abbrev g : Sound s h
    g = a.fit.sound

    resume_left : Left (restart v (stamp_of b))
    unfolding restart
    resume_left = record {
      settled = restart_settled v b g.settled;
      lengths = record { shares = len.shares; used = refl; threads = len.threads; queue = len.queue };
      settings = refl;
      stamp = refl;
      past = drop_at (replicate (wanted s) 0) (drop (wanted s) h) (wanted s) (length-replicate (wanted s) 0);
      size = simp (length-append, length-replicate, length-drop) (omega (arith, a.fit.room));
      threads = λ y old. old;
    }

    charge_left : kind_of b ≢ Event.resume → Left (charge v (stamp_of b))
    unfolding charge
    charge_left n = record {
      settled = charge_settled v b len.used a.fit.room g (a.short n);
      lengths =
          record {
            shares = len.shares;
            used = used_length s (billed s) (elapsed_at s b) ∙ len.used;
            threads = len.threads;
            queue =
                len.queue;
          };
      settings = refl;
      stamp = refl;
      past = history_past s s.settings.count (billed s) (elapsed_at s b) h g.settled.books.inside (billed_inside s h g);
      size = length_charge v b;
      threads = λ y old. old;
    }

    move_left : (x : Saved) → Left x → Left (move_slot x)
    unfolding move_slot
    move_left x l =
        let c = x.state.settings in
        let before : drop (wanted x.state) x.history ≡ drop (wanted x.state) h = rw l.settings l.past in
        record {
          settled = move_settled x b l.lengths.used (rw (l.size, l.settings) a.fit.room) l.settled;
          lengths = record {
            shares = l.lengths.shares;
            used = lower_length (W c) (next x.state) x.state.used x.history c.count ∙ l.lengths.used;
            threads = l.lengths.threads;
            queue = l.lengths.queue;
          };
          settings = l.settings;
          stamp = l.stamp;
          past = rw (← l.settings)
              (clear_past (W c) (next x.state) c.count c.count x.history (next_inside x.state l.settled.books.inside)
              (omega arith) ∙ before);
          size = length_move x b ∙ l.size;
          threads = l.threads;
        }

    slice_left : (x : Saved) (t : ℕ) → (t ≢ idle → member t (queue_of x.state) ≡ true) → Left x
        → Left (record { state = sliced x.state t; history = x.history })
    unfolding sliced
    slice_left x t runs l = record {
      settled = k;
      lengths = with_queue_law _ q (with_thread_law x.state l.lengths t _) k.stored.few;
      settings = l.settings;
      stamp = l.stamp;
      past = l.past;
      size = l.size;
      threads = λ y old u. rw (sliced_thread x.state t l.lengths.threads u) (go y old u (eqb t u));
    }
      where
        q : List ℕ
        q = turned (thread x.state t) t (queue_of x.state)

        k : Settled (sliced x.state t) x.history
        k = sliced_settled x.state t l.lengths.threads x.history l.settled runs

        go : Bytes b → ((t : ℕ) → ThreadTyped (thread s t)) → (u : ℕ) (z : Bool)
            → ThreadTyped (cond z (counted (thread x.state u)) (thread x.state u))
        go y old u true = counted_typed (thread x.state u) (l.threads y old u)
        go y old u false = l.threads y old u

    act_left : (x : Saved) → Named x.state b → Left x → Left (record { state = act x.state b; history = x.history })
    act_left x n l = record {
      settled = k;
      lengths = act_lengths x.state b x.history l.lengths n k;
      settings = act_settings x.state b ∙ l.settings;
      stamp = act_stamp x.state b ∙ l.stamp;
      past = l.past;
      size = l.size;
      threads = λ y old. act_threads x.state b x.history l.lengths n y (l.threads y old);
    }
      where
        k : Settled (act x.state b) x.history
        k = act_settled x.state b x.history l.lengths.threads n l.settled

    pub named : Named (charge v (stamp_of b)).state b
    unfolding charge
    named = record {
      thread_inside = a.named.thread_inside;
      absent = a.named.absent;
      exists = a.named.exists;
      partition_inside = a.named.partition_inside;
      some_core = a.named.some_core;
      known_policy = a.named.known_policy;
      not_ready = a.named.not_ready;
      was_ready = a.named.was_ready;
    }

    -- the running thread is in the queue
    ticked_left : Left (charge v (stamp_of b)) → Left (ticked (charge v (stamp_of b)))
    unfolding charge move_slot
    ticked_left l = slice_left (move_slot (charge v (stamp_of b))) s.running g.runs.queued (move_left (charge v (stamp_of b)) l)

    pub apply_left : Left (apply v b)
    apply_left = apply_cases Left
        (λ q. resume_left)
        (λ q. ticked_left (charge_left (omega arith)))
        (λ n m. act_left (charge v (stamp_of b)) named (charge_left n))

    -- 3. the new decision
    pub settle_left : (f : Option ℕ) (x : Saved) → Left x → Left (settle f x)
    unfolding settle
    settle_left f x l = record {
      settled = record {
        limits = l.settled.limits;
        rest = l.settled.rest;
        books = l.settled.books;
        proper = l.settled.proper;
        queue = l.settled.queue;
        stored = l.settled.stored;
      };
      lengths = record { shares = l.lengths.shares; used = l.lengths.used; threads = l.lengths.threads; queue = l.lengths.queue };
      settings = l.settings;
      stamp = l.stamp;
      past = l.past;
      size = l.size;
      threads = l.threads;
    }

    settle_sound : (f : Option ℕ) (x : Saved) → Left x → Sound (settle f x).state (settle f x).history
    unfolding settle
    settle_sound f x l = record { settled = (settle_left f x l).settled; runs = decide_runs x.state x.history l.settled f }

    pub after_left : Left (after_event v b)
    after_left = settle_left (favoured s) (apply v b) apply_left

    pub after_sound : Sound (after_event v b).state (after_event v b).history
    after_sound = settle_sound (favoured s) (apply v b) apply_left

    pub after_room : wanted (after_event v b).state ≤ length (after_event v b).history
    after_room = rw (after_left.size, after_left.settings) a.fit.room

    stamp_fits : Bytes b → stamp_of b < 2 ^ 32
    unfolding stamp_of
    stamp_fits y = omega (arith, y 4, y 5, y 6, y 7)

    pub after_typed : Typed s h → Bytes b → Typed (after_event v b).state (after_event v b).history
    after_typed t y =
        let x : Saved = after_event v b in
        let l : Left x = after_left in
        typed_of x.state x.history after_sound l.lengths after_room
        (rw l.settings t.state.settings)
        (rw l.stamp (stamp_fits y))
        (l.threads y t.state.threads)
        (words x.state.settings x.state.used x.state.slot.0 x.state.since.0 x.history h l.settled.limits after_room
        l.settled.books (rw l.settings l.past) t.history)
