-- Two equals at one accepted event that leaves them so: what they keep, which of them is ahead in the queue, and that the one behind is not chosen.
use mathlib.Core.Logic.{◌≢◌}
use mathlib.Core.Path.{◌≡◌, refl, sym, ap, subst, ◌∙◌}
use Prim.Native.Nat.{ℕ, ◌<◌}
use mathlib.Core.Bool.{Bool, true, false, not, cond, ◌&&◌, ◌||◌}
use mathlib.Core.Option.{Option, none, some}
use mathlib.Core.List.{List, [], ◌∷◌, ◌++◌}
use lib.Dec.{eqb}
use borrow.Author.Tests.{eqb-true, eq-eqb, not-true, not-false}
use native.Mathlib.Omega.{arith}
use native.Mathlib.Decide.{ℕ_discrete}
use Rattle.lists.specs.Lists.{member}
use Rattle.lists.proofs.Tests.{clash, both, and, neither}
use Rattle.sheet.specs.declared.Settings.{Settings}
use Rattle.model.specs.State.{thread, queue_of, allows, idle, Thread, State}
use Rattle.model.specs.Slices.{with_slice, counted, ends}
use Rattle.model.specs.Policy.{Decided, winner, chosen, decide_for, decide}
use Rattle.model.specs.Event
use Rattle.model.specs.Event.{kind_of, thread_of, priority_of}
use Rattle.model.specs.Step.{Saved, leaves, to_tail, turned, with_priority, requeued, favoured, settle, apply}
use Rattle.model.specs.Facts.{Settled, Accepted}
use Rattle.model.proofs.Ahead.{ahead, ahead_append, ahead_leaves, tail_behind, tail_ahead, requeued_same, requeued_ahead, not_behind}
use Rattle.invariants.specs.Promises.{Allowed, FirstOf, runs_for, Choice}
use Rattle.invariants.proofs.Chosen.{competes, chosen_is}
use Rattle.invariants.proofs.Decision.{decide_picks, decide_idle}
use Rattle.invariants.proofs.Applied.{after_event, apply_left}
use Rattle.invariants.proofs.Answered.{Good, accepts, accepted, good_settle}
use Rattle.invariants.proofs.Ties.{decide_repeated}
use Rattle.guarantee.specs.Account.{record_named, record_by, queue_by}
use Rattle.guarantee.specs.Turns.{Equals, keeps_ready, is_chosen}
use Rattle.guarantee.proofs.Told.{after_record, after_queue}

-- ---- who is behind an equal is not chosen

module _ (s : State) (t u : ℕ) (m : Equals s t u) (behind : ahead u t (queue_of s) ≡ true) where
  not_choice : (p w : ℕ) → Choice s p w → w ≢ t
  not_choice p w c e = clash behind (rw split (not_behind test u t holds m.two first.earlier first.later first.not_earlier))
    where
      test : ℕ → Bool
      test x = runs_for s p x && eqb (thread s x).priority (thread s t).priority

      first : FirstOf test (queue_of s) t
      first = subst (λ (x : ℕ). FirstOf (λ y. runs_for s p y && eqb (thread s y).priority (thread s x).priority) (queue_of s) x) e c.place

      split : queue_of s ≡ first.earlier ++ (t ∷ first.later)
      split = first.split

      here : (thread s t).partition ≡ p
      here = eqb-true _ _ (both (eqb (thread s t).partition p) _ (both (runs_for s p t) _ first.holds).0).0

      holds : test u ≡ true
      holds = and (and (eq-eqb _ _ (m.partition ∙ here)) m.other.allowed) (eq-eqb _ _ m.priority)

  pub not_chosen : (p : ℕ) → (thread s t).partition ≡ p → chosen s p ≢ t
  not_chosen p e = not_choice p (chosen s p) (chosen_is s p (competes s p t m.one e))

  module _ (h : List ℕ) (k : Settled s h) (f : Option ℕ) where
    not_decided : (decide s f).thread ≢ t
    not_decided = go (winner s f) refl
      where
        go : (o : Option ℕ) → winner s f ≡ o → (decide s f).thread ≢ t
        go none e = λ i.
            let inside : t < 64 = k.queue.inside t m.one.queued in
            let z : idle ≡ t = sym (ap (λ (d : Decided). d.thread) (decide_idle s h k f e)) ∙ i in
            let x : ⊥ = omega arith in
            absurd x
        go (some w) e = not_choice _ _ (decide_picks s h k f w e).busy.choice

-- ---- who runs is the one that its partition would run

decided_for : (s : State) (f : Option ℕ) (w : ℕ) → winner s f ≡ some w → (decide s f).thread ≡ chosen s w
unfolding decide decide_for
decided_for s f w e = rw e

module _ (s : State) (h : List ℕ) (k : Settled s h) (f : Option ℕ) (u : ℕ) (inside : u < 64) where
  decided_chosen : (decide s f).thread ≡ u → is_chosen u s ≡ true
  decided_chosen i = go (winner s f) refl
    where
      go : (o : Option ℕ) → winner s f ≡ o → is_chosen u s ≡ true
      go none e =
          let z : idle ≡ u = sym (ap (λ (d : Decided). d.thread) (decide_idle s h k f e)) ∙ i in
          let x : ⊥ = omega arith in
          absurd x
      go (some w) e =
          let home : (thread s u).partition ≡ w = subst (λ (x : ℕ). (thread s x).partition ≡ w) i (decide_picks s h k f w e).thread_partition in
          eq-eqb _ _ (ap (chosen s) home ∙ sym (decided_for s f w e) ∙ i)

-- ---- one accepted event

kept_ready : (n t : ℕ) (b : List ℕ) → keeps_ready n t b ≡ true → thread_of b ≡ t
    → (eqb (kind_of b) Event.block ≡ false) × (eqb (kind_of b) Event.end ≡ false)
    × ((eqb (kind_of b) Event.set_priority && not (eqb (priority_of b) n)) ≡ false)
unfolding keeps_ready
kept_ready n t b h e =
    let (x, z) = neither (eqb (kind_of b) Event.block || eqb (kind_of b) Event.end) (eqb (kind_of b) Event.set_priority && not (eqb (priority_of b) n))
    (not-true _ (rw (eq-eqb (thread_of b) t e) at h)) in
    let (y, w) = neither (eqb (kind_of b) Event.block) (eqb (kind_of b) Event.end) x in
    (y, w, z)

module _ (c : Settings) (v : Saved) (g : Good c v) (b : List ℕ) (ok : accepts v b ≡ true) (n : ℕ) where
  abbrev s₀ : State
  s₀ = v.state

  abbrev v' : Saved
  v' = after_event v b

  a : Accepted s₀ v.history b
  a = accepted v b ok

  g' : Good c v'
  g' = good_settle c v b g ok

  -- a ready thread of the priority n, which the event leaves so
  module _ (t : ℕ) (queued : member t (queue_of s₀) ≡ true) (at : (thread s₀ t).priority ≡ n) (stays : keeps_ready n t b ≡ true) where
    abbrev r : Thread
    r = thread s₀ t

    inside : t < 64
    inside = g.fit.sound.settled.queue.inside t queued

    ready : r.ready ≡ true
    ready = g.fit.sound.settled.queue.ready t inside ∙ queued

    exists : r.exists ≡ true
    exists = g.fit.sound.settled.queue.exists t inside ready

    -- set to the priority that it has
    set_same : (z : Bool) → (z && not (eqb (priority_of b) n)) ≡ false → cond z (with_priority r (priority_of b)) r ≡ r
    set_same true e = ap (with_priority r) (eqb-true _ _ (not-false _ e) ∙ sym at)
    set_same false e = refl

    unnamed : thread_of b ≡ t → record_named b r ≡ r
    unfolding record_named
    unnamed e = go (eqb (kind_of b) Event.create) refl (eqb (kind_of b) Event.ready) refl
      where
        go : (y : Bool) → eqb (kind_of b) Event.create ≡ y → (z : Bool) → eqb (kind_of b) Event.ready ≡ z → record_named b r ≡ r
        go true p z q = clash exists (rw e at (a.named.absent (eqb-true _ _ p)))
        go false p true q = clash ready (rw e at (a.named.not_ready (eqb-true _ _ q)))
        go false p false q =
            let (x, y, z) = kept_ready n t b stays e in
            rw (record_named, p, q, x, y) (set_same (eqb (kind_of b) Event.set_priority) z)

    -- only its slice may change, at a tick that finds it running
    abbrev sliced_record : Thread → Thread
    sliced_record x = cond (eqb (kind_of b) Event.tick) (cond (eqb s₀.running t) (counted r) r) x

    pub kept : thread v'.state t ≡ sliced_record r
    unfolding record_by
    kept = after_record c v g b a t ∙ ap sliced_record (go (eqb (thread_of b) t) refl)
      where
        go : (z : Bool) → eqb (thread_of b) t ≡ z → cond z (record_named b r) r ≡ r
        go true q = unnamed (eqb-true _ _ q)
        go false q = refl

    pub same : thread v'.state t ≡ with_slice r (thread v'.state t).slice
    same = rw kept (go (eqb (kind_of b) Event.tick) (eqb s₀.running t))
      where
        go : (y z : Bool) → cond y (cond z (counted r) r) r ≡ with_slice r (cond y (cond z (counted r) r) r).slice
        go true true = refl
        go true false = refl
        go false z = refl

    queued_after : member t (queue_of v'.state) ≡ true
    queued_after = sym (g'.fit.sound.settled.queue.ready t inside) ∙ ap (λ (x : Thread). x.ready) same ∙ ready

    allowed_after : Allowed s₀ t → Allowed v'.state t
    allowed_after al = record {
      queued = queued_after;
      allowed =
          ap (λ (x : Thread). allows x.mask v'.state.settings.core) same
          ∙ subst (λ (d : Settings). allows r.mask d.core ≡ true) (g.settings ∙ sym g'.settings) al.allowed;
    }

  -- two of them
  module _ (t u : ℕ) (m : Equals s₀ t u) (at : (thread s₀ t).priority ≡ n) (x : keeps_ready n t b ≡ true) (y : keeps_ready n u b ≡ true) where
    same_t : thread v'.state t ≡ with_slice (thread s₀ t) (thread v'.state t).slice
    same_t = same t m.one.queued at x

    same_u : thread v'.state u ≡ with_slice (thread s₀ u) (thread v'.state u).slice
    same_u = same u m.other.queued (m.priority ∙ at) y

    pub equals_after : Equals v'.state t u
    equals_after = record {
      two = m.two;
      one = allowed_after t m.one.queued at x m.one;
      other = allowed_after u m.other.queued (m.priority ∙ at) y m.other;
      partition = by (λ r. r.partition) (λ r k. refl) m.partition;
      priority = by (λ r. r.priority) (λ r k. refl) m.priority;
    }
      where
        by : (f : Thread → ℕ) → ((r : Thread) (k : ℕ) → f (with_slice r k) ≡ f r) → f (thread s₀ u) ≡ f (thread s₀ t)
            → f (thread v'.state u) ≡ f (thread v'.state t)
        by f keeps e = ap f same_u ∙ keeps _ _ ∙ e ∙ sym (ap f same_t ∙ keeps _ _)

  -- the queue after a set priority
  abbrev placed : List ℕ
  placed =
      let w : Thread = thread s₀ (thread_of b) in
      requeued w.ready w.priority (priority_of b) (thread_of b) (queue_of s₀)

  -- set to the priority that it has, a thread stays where it is
  same_place : (t : ℕ) → (thread s₀ t).priority ≡ n → keeps_ready n t b ≡ true → eqb (kind_of b) Event.set_priority ≡ true → thread_of b ≡ t
      → placed ≡ queue_of s₀
  same_place t at k s e =
      let (x, y, z) = kept_ready n t b k e in
      let to : priority_of b ≡ n = eqb-true _ _ (not-false _ (rw s at z)) in
      requeued_same _ _ _ _ _ (ap (λ (i : ℕ). (thread s₀ i).priority) e ∙ at ∙ sym to)

  -- x stays ahead of y, unless it goes to the tail at the end of its slice
  pub order_kept : (x y : ℕ) → x ≢ y → member x (queue_of s₀) ≡ true → (thread s₀ x).priority ≡ n → (thread s₀ y).priority ≡ n
      → keeps_ready n x b ≡ true → keeps_ready n y b ≡ true → (kind_of b ≡ Event.tick → ends (thread s₀ s₀.running) ≡ true → s₀.running ≢ x)
      → ahead x y (queue_of s₀) ≡ true → ahead x y (queue_of v'.state) ≡ true
  unfolding queue_by turned
  order_kept x y d m nx ny sx sy stays h = rw (after_queue c v g b a) (by_tick (eqb (kind_of b) Event.tick) refl)
    where
      q : List ℕ
      q = queue_of s₀

      ran : ℕ
      ran = s₀.running

      left : (t : ℕ) → keeps_ready n t b ≡ true → (eqb (kind_of b) Event.block || eqb (kind_of b) Event.end) ≡ true → thread_of b ≢ t
      left t k l e = let (p₁, p₂, p₃) = kept_ready n t b k e in clash l (rw (p₁, p₂))

      set : eqb (kind_of b) Event.set_priority ≡ true → ahead x y placed ≡ true
      set l = go (ℕ_discrete (thread_of b) x) (ℕ_discrete (thread_of b) y)
        where
          go : Dec (thread_of b ≡ x) → Dec (thread_of b ≡ y) → ahead x y placed ≡ true
          go (yes e) w = rw (same_place x nx sx l e) h
          go (no e) (yes f) = rw (same_place y ny sy l f) h
          go (no e) (no f) = requeued_ahead x y (thread_of b) _ _ _ q e f h

      others : (z₁ : Bool) → (z₂ : Bool) → (eqb (kind_of b) Event.block || eqb (kind_of b) Event.end) ≡ z₂
          → (z₃ : Bool) → eqb (kind_of b) Event.set_priority ≡ z₃
          → ahead x y (cond z₁ (q ++ (thread_of b ∷ [])) (cond z₂ (leaves q (thread_of b)) (cond z₃ placed q))) ≡ true
      others true z₂ p z₃ o = ahead_append x y q (thread_of b ∷ []) h
      others false true p z₃ o = ahead_leaves x y (thread_of b) (left x sx p) (left y sy p) q ∙ h
      others false false p true o = set o
      others false false p false o = h

      turn : (z : Bool) → ends (thread s₀ ran) ≡ z → kind_of b ≡ Event.tick → ahead x y (cond z (to_tail q ran) q) ≡ true
      turn true e k = tail_ahead x y ran q d (stays k e) m h
      turn false e k = h

      by_tick : (z : Bool) → eqb (kind_of b) Event.tick ≡ z
          → ahead x y (cond z (turned (thread s₀ ran) ran q) (cond (eqb (kind_of b) Event.ready) (q ++ (thread_of b ∷ []))
          (cond (eqb (kind_of b) Event.block || eqb (kind_of b) Event.end) (leaves q (thread_of b)) (cond (eqb (kind_of b) Event.set_priority) placed q))))
          ≡ true
      by_tick true e = turn (ends (thread s₀ ran)) refl (eqb-true _ _ e)
      by_tick false e =
          others (eqb (kind_of b) Event.ready) (eqb (kind_of b) Event.block || eqb (kind_of b) Event.end) refl (eqb (kind_of b) Event.set_priority) refl

  -- at the end of its slice the running thread goes behind every other
  pub turn_behind : (t u : ℕ) → kind_of b ≡ Event.tick → s₀.running ≡ t → ends (thread s₀ t) ≡ true → u ≢ t → member u (queue_of s₀) ≡ true
      → ahead u t (queue_of v'.state) ≡ true
  unfolding queue_by turned
  turn_behind t u k e f d m =
      rw (after_queue c v g b a, eq-eqb (kind_of b) Event.tick k, e, f) (tail_behind u t (queue_of s₀) d m)

  -- who runs next is the thread of the decision on the state that the event leaves
  runs_decided : (decide v'.state (favoured v'.state)).thread ≡ v'.state.running
  unfolding settle
  runs_decided = ap (λ (d : Decided). d.thread) (decide_repeated (favoured s₀) (apply v b) (apply_left v b g.lengths a).settled)

  -- who is behind an equal does not run next
  pub runs_other : (t u : ℕ) → Equals v'.state t u → ahead u t (queue_of v'.state) ≡ true → v'.state.running ≢ t
  runs_other t u m h e =
      not_decided v'.state t u m h v'.history g'.fit.sound.settled (favoured v'.state) (runs_decided ∙ e)

  -- who runs next is the one that its partition would run
  pub runs_chosen : (u : ℕ) → member u (queue_of v'.state) ≡ true → v'.state.running ≡ u → is_chosen u v'.state ≡ true
  runs_chosen u q e =
      let k = g'.fit.sound.settled in
      decided_chosen v'.state v'.history k (favoured v'.state) u (k.queue.inside u q) (runs_decided ∙ e)
