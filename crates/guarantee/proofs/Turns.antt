-- Equal threads take turns: a round-robin one is found running by at most as many ticks as are left of its slice before the other's turn.
use mathlib.Core.Logic.{◌≢◌}
use mathlib.Core.Path.{◌≡◌, refl, sym, ap, subst, ◌∙◌}
use Prim.Native.Nat.{ℕ, ◌+◌, ◌-◌, ◌≤◌}
use mathlib.Core.Bool.{Bool, true, false, not, cond, ◌&&◌, ◌||◌, and-false}
use mathlib.Core.List.{List, [], ◌∷◌}
use lib.Dec.{eqb}
use borrow.Author.Tests.{eqb-true, eqb-false, eq-eqb, ne_eqb}
use native.Mathlib.Omega.{arith}
use native.Mathlib.Decide.{ℕ_discrete}
use Rattle.lists.specs.Lists.{all}
use Rattle.lists.proofs.Tests.{clash, both}
use Rattle.sheet.specs.declared.Settings.{Settings}
use Rattle.model.specs.State.{thread, queue_of, Thread, State}
use Rattle.model.specs.Slices.{round_robin, full_slice, with_slice, counted, ends}
use Rattle.model.specs.Policy.{chosen}
use Rattle.model.specs.Event
use Rattle.model.specs.Event.{kind_of}
use Rattle.model.specs.Step.{Saved, Answer, settle}
use Rattle.model.specs.Run.{Entry, run, after}
use Rattle.model.specs.Facts.{SliceFits}
use Rattle.model.proofs.Accepted.{fit_of}
use Rattle.model.proofs.Slices.{lowered, not_spent}
use Rattle.model.proofs.Ahead.{ahead, either}
use Rattle.invariants.proofs.Applied.{after_event}
use Rattle.invariants.proofs.Answered.{Good, accepts, accepts_it, accepted_answer, answer_accepted, good_settle}
use Rattle.guarantee.specs.Demand3 as demand
use Rattle.guarantee.specs.Turns.{Equals, SliceEnds, keeps_ready, stays_ready, ticks_before, is_chosen, is_running, TakesTurns}
use Rattle.guarantee.proofs.Log.{Log, run_log, after_final, accepted_is, when_accepted, when_refused, good_final}
use Rattle.guarantee.proofs.Behind.{not_chosen, kept, same, equals_after, order_kept, turn_behind, runs_other, runs_chosen}

-- ---- the end of a slice

tick_keeps : (n t : ℕ) (b : List ℕ) → kind_of b ≡ Event.tick → keeps_ready n t b ≡ true
unfolding keeps_ready
tick_keeps n t b k = rw (k, and-false)

module _ (c : Settings) (v : Saved) (g : Good c v) (b : List ℕ) (k : kind_of b ≡ Event.tick) (ok : accepts v b ≡ true) (t u : ℕ)
    (on : v.state.running ≡ t) (over : ends (thread v.state t) ≡ true) (m : Equals v.state t u) where
  abbrev n : ℕ
  n = (thread v.state t).priority

  abbrev next : State
  next = (after_event v b).state

  equal_next : Equals next t u
  equal_next = equals_after c v g b ok n t u m refl (tick_keeps n t b k) (tick_keeps n u b k)

  behind_next : ahead u t (queue_of next) ≡ true
  behind_next = turn_behind c v g b ok n t u k on over (λ q. m.two (sym q)) m.other.queued

  turns_over : (chosen next (thread v.state t).partition ≢ t) × ((accepted_answer v b).decision.thread ≢ t)
  unfolding settle
  turns_over = (
    not_chosen next t u equal_next behind_next _ (ap (λ (r : Thread). r.partition) (same c v g b ok n t m.one.queued refl (tick_keeps n t b k))),
    runs_other c v g b ok n t u equal_next behind_next,
  )

pub slice_ends : SliceEnds
slice_ends v len fine events b k e t u on over m =
    subst (λ (x : Answer). (chosen x.after.state (thread y.state t).partition ≢ t) × (x.decision.thread ≢ t)) (sym (answer_accepted y b ok))
    (turns_over v.state.settings y g b k ok t u on over m)
  where
    y : Saved
    y = after v events

    g : Good v.state.settings y
    g =
        let first : Good v.state.settings v = record { fit = fit_of v.state v.history fine; lengths = len; settings = refl } in
        rw (after_final v events) (good_final v.state.settings v (run v events) first (run_log v events))

    ok : accepts y b ≡ true
    ok = accepts_it y b e

-- ---- over a list

module _ (c : Settings) (t u n : ℕ) where
  -- before the entries es, which leave them so, t and u are equals of the priority n, and t is round robin
  record Peers (v : Saved) (es : List Entry) : Type 0 where
    pub good : Good c v
    pub log : Log v es
    pub stay : (stays_ready n t es ≡ true) × (stays_ready n u es ≡ true)
    pub equals : Equals v.state t u
    pub at : (thread v.state t).priority ≡ n
    pub policy : (thread v.state t).policy ≡ round_robin

  fits : (v : Saved) (es : List Entry) → Peers v es → SliceFits (thread v.state t).policy (thread v.state t).slice
  fits v es m = let k = m.good.fit.sound.settled in (k.proper t (k.queue.inside t m.equals.one.queued)).slice

  -- what the first of a list, accepted, leaves, and the rest
  keeps_first : (x : ℕ) (e : Entry) (es : List Entry) → stays_ready n x (e ∷ es) ≡ true → demand.accepted e ≡ true → keeps_ready n x e.event ≡ true
  unfolding stays_ready all
  keeps_first x e es h q = rw q at (both (not (demand.accepted e) || keeps_ready n x e.event) _ h).0

  keeps_rest : (x : ℕ) (e : Entry) (es : List Entry) → stays_ready n x (e ∷ es) ≡ true → stays_ready n x es ≡ true
  unfolding stays_ready all
  keeps_rest x e es h = (both (not (demand.accepted e) || keeps_ready n x e.event) _ h).1

  module _ (v : Saved) (e : Entry) (es : List Entry) (m : Peers v (e ∷ es)) where
    abbrev b : List ℕ
    b = e.event

    abbrev r : Thread
    r = thread v.state t

    abbrev v₁ : Saved
    v₁ = after_event v b

    -- where the first is refused
    peers_same : demand.accepted e ≡ false → Peers v es
    peers_same q = record {
      good = m.good;
      log = subst (λ (x : Saved). Log x es) (when_refused v e m.log.0 q) m.log.1;
      stay = (keeps_rest t e es m.stay.0, keeps_rest u e es m.stay.1);
      equals = m.equals;
      at = m.at;
      policy = m.policy;
    }

    -- where it is accepted
    module _ (ok : accepts v b ≡ true) where
      taken : demand.accepted e ≡ true
      taken = accepted_is v e m.log.0 ∙ ok

      keeps_t : keeps_ready n t b ≡ true
      keeps_t = keeps_first t e es m.stay.0 taken

      keeps_u : keeps_ready n u b ≡ true
      keeps_u = keeps_first u e es m.stay.1 taken

      same_next : (f : Thread → ℕ) → f (thread v₁.state t) ≡ f (with_slice r (thread v₁.state t).slice)
      same_next f = ap f (same c v m.good b ok n t m.equals.one.queued m.at keeps_t)

      peers_next : Peers v₁ es
      peers_next = record {
        good = good_settle c v b m.good ok;
        log = subst (λ (x : Saved). Log x es) (ap (λ (x : Answer). x.after) (when_accepted v e m.log.0 taken)) m.log.1;
        stay = (keeps_rest t e es m.stay.0, keeps_rest u e es m.stay.1);
        equals = equals_after c v m.good b ok n t u m.equals m.at keeps_t keeps_u;
        at = same_next (λ x. x.priority) ∙ m.at;
        policy = same_next (λ x. x.policy) ∙ m.policy;
      }

      slice_next : (thread v₁.state t).slice ≡ (cond (eqb (kind_of b) Event.tick) (cond (eqb v.state.running t) (counted r) r) r).slice
      slice_next = ap (λ (x : Thread). x.slice) (kept c v m.good b ok n t m.equals.one.queued m.at keeps_t)

      at_u : (thread v.state u).priority ≡ n
      at_u = m.equals.priority ∙ m.at

      -- t ahead of u, or u ahead of t, as before
      stays_ahead : (kind_of b ≡ Event.tick → ends (thread v.state v.state.running) ≡ true → v.state.running ≢ t)
          → ahead t u (queue_of v.state) ≡ true → ahead t u (queue_of v₁.state) ≡ true
      stays_ahead = order_kept c v m.good b ok n t u m.equals.two m.equals.one.queued m.at at_u keeps_t keeps_u

      stays_behind : v.state.running ≢ u → ahead u t (queue_of v.state) ≡ true → ahead u t (queue_of v₁.state) ≡ true
      stays_behind w =
          order_kept c v m.good b ok n u t (λ q. m.equals.two (sym q)) m.equals.other.queued at_u m.at keeps_u keeps_t (λ k f. w)

      goes_behind : kind_of b ≡ Event.tick → v.state.running ≡ t → ends r ≡ true → ahead u t (queue_of v₁.state) ≡ true
      goes_behind k on over = turn_behind c v m.good b ok n t u k on over (λ q. m.equals.two (sym q)) m.equals.other.queued

      not_running : ahead u t (queue_of v₁.state) ≡ true → eqb v₁.state.running t ≡ false
      not_running h = ne_eqb _ _ (runs_other c v m.good b ok n t u peers_next.equals h)

  -- the ticks that find t running before a test holds, which holds wherever a decision lets u run
  module _ (test : State → Bool)
      (holds : (v : Saved) → Good c v → (b : List ℕ) → accepts v b ≡ true → Equals (after_event v b).state t u
      → (after_event v b).state.running ≡ u → test (after_event v b).state ≡ true) where
    abbrev count : Saved → List Entry → ℕ
    count v es = ticks_before test t v.state es

    -- one more that finds t running
    abbrev one : Saved → List ℕ → ℕ
    one v b = cond (eqb (kind_of b) Event.tick && eqb v.state.running t) 1 0

    abbrev Holds : Saved → Type 0
    Holds v = v.state.running ≡ u → test v.state ≡ true

    -- the first of a list on the count: a refused one counts for nothing
    counted_on : (v : Saved) (e : Entry) (es : List Entry) → Log v (e ∷ es) → (most : ℕ) → (demand.accepted e ≡ false → count v es ≤ most)
        → (accepts v e.event ≡ true → test v.state ≡ false → one v e.event + count (after_event v e.event) es ≤ most)
        → count v (e ∷ es) ≤ most
    unfolding ticks_before
    counted_on v e es l most refused accepted = go (test v.state) refl (demand.accepted e) refl
      where
        go : (z : Bool) → test v.state ≡ z → (y : Bool) → demand.accepted e ≡ y
            → cond z 0 (cond ((y && eqb (kind_of e.event) Event.tick) && eqb v.state.running t) 1 0 + count e.answer.after es) ≤ most
        go true q y p = omega arith
        go false q false p = subst (λ (x : Saved). 0 + count x es ≤ most) (sym (when_refused v e l.0 p)) (omega (arith, refused p))
        go false q true p =
            subst (λ (x : Answer). one v e.event + count x.after es ≤ most) (sym (when_accepted v e l.0 p))
            (accepted (sym (accepted_is v e l.0) ∙ p) q)

    -- behind u, t runs no more; it may be running still
    behind_count : (es : List Entry) (v : Saved) → Peers v es → Holds v → ahead u t (queue_of v.state) ≡ true
        → count v es ≤ cond (eqb v.state.running t) 1 0
    unfolding ticks_before
    behind_count [] v m f h = omega arith
    behind_count (e ∷ es) v m f h =
        counted_on v e es m.log _ (λ q. behind_count es v (peers_same v e es m q) f h)
        (λ ok w. step ok w (behind_count es (v₁ v e es m) (peers_next v e es m ok) (holds v m.good e.event ok (peers_next v e es m ok).equals)))
      where
        step : (ok : accepts v e.event ≡ true) → test v.state ≡ false
            → (ahead u t (queue_of (v₁ v e es m).state) ≡ true → count (v₁ v e es m) es ≤ cond (eqb (v₁ v e es m).state.running t) 1 0)
            → one v e.event + count (v₁ v e es m) es ≤ cond (eqb v.state.running t) 1 0
        step ok w more =
            let after : ahead u t (queue_of (v₁ v e es m).state) ≡ true = stays_behind v e es m ok (λ q. clash (f q) w) h in
            go (eqb (kind_of e.event) Event.tick) (eqb v.state.running t) (rw (not_running v e es m ok after) at (more after))
          where
            go : (y z : Bool) → count (v₁ v e es m) es ≤ 0 → cond (y && z) 1 0 + count (v₁ v e es m) es ≤ cond z 1 0
            go true true k = omega arith
            go true false k = omega arith
            go false true k = omega arith
            go false false k = omega arith

    -- ahead of u, t is found running at most by what is left of its slice
    ahead_count : (es : List Entry) (v : Saved) → Peers v es → Holds v → ahead t u (queue_of v.state) ≡ true → count v es ≤ (thread v.state t).slice
    unfolding ticks_before
    ahead_count [] v m f h = omega arith
    ahead_count (e ∷ es) v m f h =
        counted_on v e es m.log _ (λ q. ahead_count es v (peers_same v e es m q) f h)
        (λ ok w. step ok (ahead_count es (v₁ v e es m) (peers_next v e es m ok) (holds v m.good e.event ok (peers_next v e es m ok).equals)))
      where
        step : (ok : accepts v e.event ≡ true)
            → (ahead t u (queue_of (v₁ v e es m).state) ≡ true → count (v₁ v e es m) es ≤ (thread (v₁ v e es m).state t).slice)
            → one v e.event + count (v₁ v e es m) es ≤ (r v e es m).slice
        step ok more = go (eqb (kind_of e.event) Event.tick) refl (eqb v.state.running t) refl (ends (r v e es m)) refl
          where
            next : Saved
            next = v₁ v e es m

            o : ℕ
            o = (r v e es m).policy

            l : ℕ
            l = (r v e es m).slice

            go : (x : Bool) → eqb (kind_of e.event) Event.tick ≡ x → (y : Bool) → eqb v.state.running t ≡ y → (z : Bool) → ends (r v e es m) ≡ z
                → cond (x && y) 1 0 + count next es ≤ l
            go true i true j true k =
                let after : ahead u t (queue_of next.state) ≡ true = goes_behind v e es m ok (eqb-true _ _ i) (eqb-true _ _ j) k in
                let few : count next es ≤ 0 = rw (not_running v e es m ok after) at
                (behind_count es next (peers_next v e es m ok) (holds v m.good e.event ok (peers_next v e es m ok).equals) after) in
                omega (arith, (fits v (e ∷ es) m).low m.policy)
            go true i true j false k =
                let on : v.state.running ≡ t = eqb-true _ _ j in
                let less : (thread next.state t).slice ≡ l - 1 = slice_next v e es m ok ∙ rw (i, j) (lowered o l m.policy k) in
                omega (arith, less, not_spent o l m.policy k, more (stays_ahead v e es m ok (λ x f. clash (rw on at f) k) h))
            go true i false j z k =
                let kept : (thread next.state t).slice ≡ l = slice_next v e es m ok ∙ rw (i, j) in
                omega (arith, kept, more (stays_ahead v e es m ok (λ x f. eqb-false _ _ j) h))
            go false i y j z k =
                let kept : (thread next.state t).slice ≡ l = slice_next v e es m ok ∙ rw i in
                omega (arith, kept, more (stays_ahead v e es m ok (λ x f. absurd (eqb-false _ _ i x)) h))

    -- so it is in either order
    any_count : (es : List Entry) (v : Saved) → Peers v es → Holds v → count v es ≤ (thread v.state t).slice
    any_count es v m f = go (ahead t u (queue_of v.state)) refl
      where
        once : (z : Bool) → cond z 1 0 ≤ 1
        once true = omega arith
        once false = omega arith

        go : (z : Bool) → ahead t u (queue_of v.state) ≡ z → count v es ≤ (thread v.state t).slice
        go true h = ahead_count es v m f h
        go false h =
            omega (
              arith,
              (fits v es m).low m.policy,
              once (eqb v.state.running t),
              behind_count es v m f (either t u (queue_of v.state) m.equals.one.queued h),
            )

    -- and where a given state has u running, which no decision chose
    given_count : (es : List Entry) (v : Saved) → Peers v es → v.state.running ≡ u → count v es ≤ (thread v.state t).slice
    unfolding ticks_before
    given_count [] v m on = omega arith
    given_count (e ∷ es) v m on = counted_on v e es m.log _ (λ q. given_count es v (peers_same v e es m q) on) (λ ok w. step ok)
      where
        idle_t : eqb v.state.running t ≡ false
        idle_t = ne_eqb _ _ (λ q. m.equals.two (sym q ∙ on))

        step : (ok : accepts v e.event ≡ true) → one v e.event + count (v₁ v e es m) es ≤ (thread v.state t).slice
        step ok =
            let p : Peers (v₁ v e es m) es = peers_next v e es m ok in
            let kept : (thread (v₁ v e es m).state t).slice ≡ (thread v.state t).slice =
            slice_next v e es m ok ∙ rw idle_t (go (eqb (kind_of e.event) Event.tick)) in
            rw (idle_t, and-false)
            (omega (arith, kept, any_count es (v₁ v e es m) p (holds v m.good e.event ok p.equals)))
          where
            go : (z : Bool) → (cond z (thread v.state t) (thread v.state t)).slice ≡ (thread v.state t).slice
            go true = refl
            go false = refl

    found : (es : List Entry) (v : Saved) → Peers v es → count v es ≤ (thread v.state t).slice
    found es v m = go (ℕ_discrete v.state.running u)
      where
        go : Dec (v.state.running ≡ u) → count v es ≤ (thread v.state t).slice
        go (yes on) = given_count es v m on
        go (no off) = any_count es v m (λ on. absurd (off on))

pub takes_turns : TakesTurns
takes_turns v len fine events t u m p x y = (
  record { until_chosen = omega (arith, few, by_chosen); until_running = omega (arith, few, by_running) },
  record { until_chosen = by_chosen; until_running = by_running },
)
  where
    c : Settings
    c = v.state.settings

    g : Good c v
    g = record { fit = fit_of v.state v.history fine; lengths = len; settings = refl }

    n : ℕ
    n = (thread v.state t).priority

    peers : Peers c t u n v (run v events)
    peers = record { good = g; log = run_log v events; stay = (x, y); equals = m; at = refl; policy = p }

    few : (thread v.state t).slice ≤ full_slice
    few = (fits c t u n v (run v events) peers).high p

    by_chosen : ticks_before (is_chosen u) t v.state (run v events) ≤ (thread v.state t).slice
    by_chosen = found c t u n (is_chosen u) (λ v' g' b ok e on. runs_chosen c v' g' b ok n u e.other.queued on) (run v events) v peers

    by_running : ticks_before (is_running u) t v.state (run v events) ≤ (thread v.state t).slice
    by_running = found c t u n (is_running u) (λ v' g' b ok e on. eq-eqb _ _ on) (run v events) v peers
