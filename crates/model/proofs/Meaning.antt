-- The test `sound` holds exactly where the record `Sound` of facts does.
use mathlib.Core.Logic.{◌≢◌}
use mathlib.Core.Path.{◌≡◌, refl, sym, ap, ◌∙◌}
use Prim.Native.Nat.{ℕ, ◌≤◌, ◌<◌}
use mathlib.Core.Bool.{Bool, true, false, not, cond, ◌&&◌, ◌||◌}
use mathlib.Core.List.{List}
use lib.Dec.{eqb, leb, ltb}
use borrow.Author.Tests.{eqb-true, eqb-false, eq-eqb, ne_eqb, leb-true, le-leb, ltb-true, lt-ltb, ltb-false, le-ltb, not-true}
use Rattle.lists.specs.Lists.{member}
use Rattle.lists.proofs.Tests.{both, and, or_right}
use Rattle.lists.proofs.All.{all_below, below_all, all_member, member_all}
use Rattle.sheet.specs.Settings.{share}
use Rattle.model.specs.State.{absent, thread, queue_of, allows, idle, used, Thread, State}
use Rattle.model.specs.Slices.{round_robin, full_slice}
use Rattle.model.specs.Sound.{slot_sum, sound_history, sound_slice, sound_thread, sound_queue, sound_rest, sound_running, sound}
use Rattle.model.specs.Facts.{Books, Rest, SliceFits, Proper, ReadyQueue, Stored, Runs, Settled, Sound}
use Rattle.sheet.proofs.Within.{limits_of, of_limits}

books_of : (s : State) (h : List ℕ) → sound_history s h ≡ true → Books s.settings s.used s.slot.0 s.since.0 h
unfolding sound_history slot_sum
books_of s h e =
    let (e₁, a₅) = both _ _ e in
    let (e₂, a₄) = both _ _ e₁ in
    let (e₃, a₃) = both _ _ e₂ in
    let (a₁, a₂) = both _ _ e₃ in
    record {
      inside = ltb-true _ _ a₁;
      since_high = leb-true _ _ a₂;
      totals = λ p b. eqb-true _ _ (all_below _ _ a₃ p b);
      slots = λ k b. leb-true _ _ (all_below _ _ a₄ k b);
      current = leb-true _ _ a₅;
    }

of_books : (s : State) (h : List ℕ) → Books s.settings s.used s.slot.0 s.since.0 h → sound_history s h ≡ true
unfolding sound_history slot_sum
of_books s h b =
    and (and (and (and
    (lt-ltb _ _ b.inside)
    (le-leb _ _ b.since_high))
    (below_all _ _ (λ p i. eq-eqb _ _ (b.totals p i))))
    (below_all _ _ (λ k i. le-leb _ _ (b.slots k i))))
    (le-leb _ _ b.current)

rest_at : (s : State) → sound_rest s ≡ true → (p : ℕ) → p < 16 → s.settings.count ≤ p → (share s.settings p ≡ 0) × (used s p ≡ 0)
unfolding sound_rest
rest_at s e p b out =
    let (x, y) = both _ _ (or_right _ _ (all_below _ _ e p b) (le-ltb _ _ out)) in
    (eqb-true _ _ x, eqb-true _ _ y)

of_rest : (s : State) → Rest s.settings s.used → sound_rest s ≡ true
unfolding sound_rest
of_rest s r = below_all _ _ (λ p b. go p b (ltb p s.settings.count) refl)
  where
    go : (p : ℕ) → p < 16 → (z : Bool) → ltb p s.settings.count ≡ z → (z || (eqb (share s.settings p) 0 && eqb (used s p) 0)) ≡ true
    go p b true q = refl
    go p b false q =
        let out : s.settings.count ≤ p = ltb-false _ _ q in
        and (eq-eqb _ _ (r.no_share p b out)) (eq-eqb _ _ (r.no_total p b out))

-- the slice
slice_of : (r : Thread) → sound_slice r ≡ true → SliceFits r.policy r.slice
unfolding sound_slice
slice_of r e =
    let (a, f) = both (leb r.policy round_robin) (slice (eqb r.policy round_robin)) e in
    let some : r.policy ≡ round_robin → (leb 1 r.slice ≡ true) × (leb r.slice full_slice ≡ true) = λ w. both _ _ (ap slice (sym (eq-eqb _ _ w)) ∙ f) in
    record {
      known = leb-true _ _ a;
      low = λ w. leb-true _ _ (some w).0;
      high = λ w. leb-true _ _ (some w).1;
      none = λ w. eqb-true _ _ (ap slice (sym (ne_eqb _ _ w)) ∙ f);
    }
  where
    slice : Bool → Bool
    slice z = cond z (leb 1 r.slice && leb r.slice full_slice) (eqb r.slice 0)

of_slice : (r : Thread) → SliceFits r.policy r.slice → sound_slice r ≡ true
unfolding sound_slice
of_slice r p = and (le-leb _ _ p.known) (go (eqb r.policy round_robin) refl)
  where
    go : (z : Bool) → eqb r.policy round_robin ≡ z → cond z (leb 1 r.slice && leb r.slice full_slice) (eqb r.slice 0) ≡ true
    go true e = let w : r.policy ≡ round_robin = eqb-true _ _ e in and (le-leb _ _ (p.low w)) (le-leb _ _ (p.high w))
    go false e = eq-eqb _ _ (p.none (eqb-false _ _ e))

no_slice : sound_slice absent ≡ true
unfolding sound_slice
no_slice = refl

proper_of : (s : State) (r : Thread) → sound_thread s.settings.count r ≡ true → Proper s.settings.count r
unfolding sound_thread sound_slice
proper_of s r e = record {
  partition = λ x. ltb-true _ _ (there x).0;
  mask = λ x. eqb-false _ _ (not-true _ (there x).1);
  slice = slice_of r sliced;
  none = λ x. gone x (not_there x);
}
  where
    exists : r.exists ≡ true → ((ltb r.partition s.settings.count && not (eqb r.mask 0)) ≡ true) × (sound_slice r ≡ true)
    exists x = both _ _ (rw x at e)

    there : r.exists ≡ true → (ltb r.partition s.settings.count ≡ true) × (not (eqb r.mask 0) ≡ true)
    there x = both _ _ (exists x).0

    not_there : r.exists ≡ false → (not r.ready && eqb r.partition 0 && eqb r.priority 0 && eqb r.mask 0 && eqb r.policy 0 && eqb r.slice 0) ≡ true
    not_there x = rw x at e

    gone : r.exists ≡ false → (not r.ready && eqb r.partition 0 && eqb r.priority 0 && eqb r.mask 0 && eqb r.policy 0 && eqb r.slice 0) ≡ true → r ≡ absent
    gone x f =
        let (g₁, l) = both _ _ f in
        let (g₂, o) = both _ _ g₁ in
        let (f₁, d) = both _ _ g₂ in
        let (f₂, c) = both _ _ f₁ in
        let (a, b) = both _ _ f₂ in
        let a' : r.ready ≡ false = not-true _ a in
        let b' : r.partition ≡ 0 = eqb-true _ _ b in
        let c' : r.priority ≡ 0 = eqb-true _ _ c in
        let d' : r.mask ≡ 0 = eqb-true _ _ d in
        let o' : r.policy ≡ 0 = eqb-true _ _ o in
        let l' : r.slice ≡ 0 = eqb-true _ _ l in
        λ i. record { exists = x i; ready = a' i; partition = b' i; priority = c' i; mask = d' i; policy = o' i; slice = l' i }

    sliced : sound_slice r ≡ true
    sliced = go r.exists refl
      where
        go : (z : Bool) → r.exists ≡ z → sound_slice r ≡ true
        go true x = (exists x).1
        go false x = rw (gone x (not_there x)) no_slice

of_proper : (s : State) (r : Thread) → Proper s.settings.count r → sound_thread s.settings.count r ≡ true
unfolding sound_thread
of_proper s r p = go r.exists refl
  where
    go : (z : Bool) → r.exists ≡ z
        → cond z (ltb r.partition s.settings.count && not (eqb r.mask 0) && sound_slice r)
        (not r.ready && eqb r.partition 0 && eqb r.priority 0 && eqb r.mask 0 && eqb r.policy 0 && eqb r.slice 0) ≡ true
    go true e = let m : not (eqb r.mask 0) ≡ true = rw (ne_eqb _ _ (p.mask e)) in and (and (lt-ltb _ _ (p.partition e)) m) (of_slice r p.slice)
    go false e = rw (p.none e)

same_bool_law : (a b : Bool) → cond a b (not b) ≡ true → a ≡ b
same_bool_law true b e = sym e
same_bool_law false b e = sym (not-true b e)

bool_same : (a b : Bool) → a ≡ b → cond a b (not b) ≡ true
bool_same true b e = sym e
bool_same false b e = rw (← e)

pub queue_of_law : (s : State) → sound_queue s ≡ true → ReadyQueue s.threads (queue_of s) × Stored s.queue s.queued
unfolding sound_queue
queue_of_law s e =
    let (e₁, a₆) = both _ _ e in
    let (e₂, a₅) = both _ _ e₁ in
    let (e₃, a₄) = both _ _ e₂ in
    let (e₄, a₃) = both _ _ e₃ in
    let (a₁, a₂) = both _ _ e₄ in (
      record {
        once = a₂;
        inside = λ t m. ltb-true _ _ (all_member _ _ a₃ t m);
        ready = λ t b. same_bool_law _ _ (all_below _ _ a₄ t b);
        exists = λ t b r. or_right (not (thread s t).ready) _ (all_below _ _ a₅ t b) (rw r);
      },
      record { few = leb-true _ _ a₁; zeros = a₆ },
    )

of_queue : (s : State) → ReadyQueue s.threads (queue_of s) → Stored s.queue s.queued → sound_queue s ≡ true
unfolding sound_queue
of_queue s l st =
    and (and (and (and (and
    (le-leb _ _ st.few)
    l.once)
    (member_all _ _ (λ t m. lt-ltb _ _ (l.inside t m))))
    (below_all _ _ (λ t b. bool_same _ _ (l.ready t b))))
    (below_all _ _ (λ t b. go t b (thread s t).ready refl)))
    st.zeros
  where
    go : (t : ℕ) → t < 64 → (z : Bool) → (thread s t).ready ≡ z → (not z || (thread s t).exists) ≡ true
    go t b true q = l.exists t b q
    go t b false q = refl

runs_of : (s : State) → sound_running s ≡ true → Runs s.settings s.threads (queue_of s) s.running
unfolding sound_running
runs_of s e = record { queued = λ h. (at h).0; allowed = λ h. (at h).1 }
  where
    at : s.running ≢ idle → (member s.running (queue_of s) ≡ true) × (allows (thread s s.running).mask s.settings.core ≡ true)
    at h = both _ _ (or_right _ _ e (ne_eqb _ _ h))

of_runs : (s : State) → Runs s.settings s.threads (queue_of s) s.running → sound_running s ≡ true
unfolding sound_running
of_runs s r = go (eqb s.running idle) refl
  where
    go : (z : Bool) → eqb s.running idle ≡ z
        → (z || (member s.running (queue_of s) && allows (thread s s.running).mask s.settings.core)) ≡ true
    go true q = refl
    go false q = let h : s.running ≢ idle = eqb-false _ _ q in and (r.queued h) (r.allowed h)

-- ---- the whole

pub sound_of : (s : State) (h : List ℕ) → sound s h ≡ true → Sound s h
unfolding sound
sound_of s h e =
    let (e₁, a₆) = both _ _ e in
    let (e₂, a₅) = both _ _ e₁ in
    let (e₃, a₄) = both _ _ e₂ in
    let (e₄, a₃) = both _ _ e₃ in
    let (a₁, a₂) = both _ _ e₄ in
    let r = rest_at s a₂ in
    let q = queue_of_law s a₅ in
    record {
      settled = record {
        limits = limits_of s.settings a₁;
        rest = record { no_share = λ p b o. (r p b o).0; no_total = λ p b o. (r p b o).1 };
        books = books_of s h a₃;
        proper = λ t b. proper_of s (thread s t) (all_below _ _ a₄ t b);
        queue = q.0;
        stored = q.1;
      };
      runs = runs_of s a₆;
    }

pub of_sound : (s : State) (h : List ℕ) → Sound s h → sound s h ≡ true
unfolding sound
of_sound s h g =
    let k : Settled s h = g.settled in
    and (and (and (and (and
    (of_limits s.settings k.limits)
    (of_rest s k.rest))
    (of_books s h k.books))
    (below_all _ _ (λ t b. of_proper s (thread s t) (k.proper t b))))
    (of_queue s k.queue k.stored))
    (of_runs s g.runs)
