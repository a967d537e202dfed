-- The threads and the ready queue: what a change of one thread's record, and of the queue, keeps.
use mathlib.Core.Logic.{◌≢◌}
use mathlib.Core.Path.{◌≡◌, refl, sym, ◌∙◌}
use Prim.Native.Nat.{ℕ, zero, suc, ◌-◌, ◌<◌}
use mathlib.Core.Bool.{Bool, true, false, not, cond, and-true, and-false, or-false}
use mathlib.Core.List.{List, [], ◌∷◌, ◌++◌}
use lib.ListN.{length, set, replicate}
use lib.Seq.{get_or-set_same, get_or-set_other, take-append_seam, drop-append_seam}
use lib.Dec.{eqb, ltb}
use borrow.Author.Tests.{eq-eqb, ne_eqb}
use native.Mathlib.Omega.{arith}
use native.Mathlib.Decide.{ℕ_discrete}
use Rattle.lists.specs.Lists.{any, all, member, distinct}
use Rattle.lists.proofs.Tests.{clash, both}
use Rattle.lists.proofs.All.{member_append, member_without, without, distinct_snoc, distinct_keep, pigeonhole}
use Rattle.model.specs.State.{absent, queue_of, Thread, State}
use Rattle.model.specs.Step.{with_queue, leaves, to_tail, to_head, requeued}
use Rattle.model.specs.Facts.{Proper, ReadyQueue, Stored, thread_at}

-- ---- the queue as stored

pub all_zero : (n : ℕ) → all (eqb 0) (replicate n 0) ≡ true
unfolding all
all_zero zero = refl
all_zero (suc n) = all_zero n

pub queue_is : (s : State) (q : List ℕ) → queue_of (with_queue s q) ≡ q
queue_is s q = take-append_seam q (replicate (64 - length q) 0)

pub stored : {ts : List Thread} (q : List ℕ) → ReadyQueue ts q → Stored (q ++ replicate (64 - length q) 0) (length q)
stored q l = record {
  few = pigeonhole 64 q l.once l.inside;
  zeros = rw (drop-append_seam q (replicate (64 - length q) 0)) (all_zero (64 - length q));
}

-- ---- one record changed

module _ (ts : List Thread) (t : ℕ) (r : Thread) (inside : t < length ts) where
  -- what holds of the new record, and of the others before, holds of all after
  pub at_set : (P : ℕ → Thread → Type 0) → P t r → ((u : ℕ) → u ≢ t → P u (thread_at ts u)) → (u : ℕ) → P u (thread_at (set ts t r) u)
  at_set P new old u = go (ℕ_discrete u t)
    where
      go : Dec (u ≡ t) → P u (thread_at (set ts t r) u)
      go (yes w) = rw (w, thread_at, get_or-set_same ts t r absent inside) new
      go (no w) = rw (thread_at, get_or-set_other ts t u r absent w) (old u w)

  pub proper_set : (n : ℕ) → Proper n r → ((u : ℕ) → u < 64 → Proper n (thread_at ts u)) → (u : ℕ) → u < 64
      → Proper n (thread_at (set ts t r) u)
  proper_set n new old = at_set (λ u x. u < 64 → Proper n x) (λ b. new) (λ u w. old u)

  -- and the queue changed, in nothing but t
  pub queue_set : (q q' : List ℕ) → ReadyQueue ts q → distinct q' ≡ true → ((u : ℕ) → member u q' ≡ true → u < 64)
      → ((u : ℕ) → u ≢ t → member u q ≡ member u q') → r.ready ≡ member t q' → (r.ready ≡ true → r.exists ≡ true)
      → ReadyQueue (set ts t r) q'
  queue_set q q' l once few others rdy ex = record {
    once = once;
    inside = few;
    ready = at_set (λ u x. u < 64 → x.ready ≡ member u q') (λ b. rdy) (λ u w b. l.ready u b ∙ others u w);
    exists = at_set (λ u x. u < 64 → x.ready ≡ true → x.exists ≡ true) (λ b. ex) (λ u w b. l.exists u b);
  }

  -- the queue as it is
  pub queue_same : (q : List ℕ) → ReadyQueue ts q → r.ready ≡ member t q → (r.ready ≡ true → r.exists ≡ true) → ReadyQueue (set ts t r) q
  queue_same q l rdy ex = queue_set q q l l.once l.inside (λ u w. refl) rdy ex

  -- a queue with t in it, in which the others are as before
  queue_with : (q q' : List ℕ) → t < 64 → ReadyQueue ts q → distinct q' ≡ true → member t q' ≡ true
      → ((u : ℕ) → u ≢ t → member u q ≡ member u q') → r.ready ≡ true → r.exists ≡ true → ReadyQueue (set ts t r) q'
  queue_with q q' b l once here others rdy ex = queue_set q q' l once few others (rdy ∙ sym here) (λ x. ex)
    where
      few : (u : ℕ) → member u q' ≡ true → u < 64
      few u m = go (ℕ_discrete u t)
        where
          go : Dec (u ≡ t) → u < 64
          go (yes w) = omega arith
          go (no w) = l.inside u (others u w ∙ m)

  -- t joins it at its tail
  pub queue_joins : (q : List ℕ) → t < 64 → ReadyQueue ts q → member t q ≡ false → r.ready ≡ true → r.exists ≡ true
      → ReadyQueue (set ts t r) (q ++ (t ∷ []))
  unfolding any
  queue_joins q b l out rdy ex = queue_with q (q ++ (t ∷ [])) b l (distinct_snoc q t ∙ rw (l.once, out)) here others rdy ex
    where
      here : member t (q ++ (t ∷ [])) ≡ true
      here = rw (member_append t q (t ∷ []), out, eq-eqb t t refl)

      others : (u : ℕ) → u ≢ t → member u q ≡ member u (q ++ (t ∷ []))
      others u w = rw (member_append u q (t ∷ []), ne_eqb u t w) (sym (or-false (member u q)))

  -- once t has left, it is not in it, and the others are each in it once
  gone : (q : List ℕ) → member t (without t q) ≡ false
  gone q = rw (member_without q t t, eq-eqb t t refl) (and-false (member t q))

  left_once : (q : List ℕ) → ReadyQueue ts q → distinct (without t q) ≡ true
  left_once q l = distinct_keep (λ u. not (eqb u t)) q l.once

  -- t leaves it, if it is in it
  pub queue_leaves : (q : List ℕ) → ReadyQueue ts q → r.ready ≡ false → ReadyQueue (set ts t r) (leaves q t)
  unfolding leaves
  queue_leaves q l rdy =
      queue_set q (without t q) l (left_once q l) (λ u m. l.inside u (both _ _ (sym (member_without q t u) ∙ m)).0) others
      (rdy ∙ sym (gone q)) (λ x. clash x rdy)
    where
      others : (u : ℕ) → u ≢ t → member u q ≡ member u (without t q)
      others u w = rw (member_without q t u, ne_eqb u t w) (sym (and-true (member u q)))

  -- t, which is in it, goes to its tail
  pub queue_turns : (q : List ℕ) → t < 64 → ReadyQueue ts q → r.ready ≡ true → r.exists ≡ true → ReadyQueue (set ts t r) (to_tail q t)
  unfolding leaves any
  queue_turns q b l rdy ex =
      queue_with q (to_tail q t) b l (distinct_snoc (without t q) t ∙ rw (left_once q l, gone q)) here others rdy ex
    where
      here : member t (to_tail q t) ≡ true
      here = rw (member_append t (without t q) (t ∷ []), gone q, eq-eqb t t refl)

      others : (u : ℕ) → u ≢ t → member u q ≡ member u (to_tail q t)
      others u w = rw (member_append u (without t q) (t ∷ []), member_without q t u, ne_eqb u t w, and-true, or-false)

  -- t, which is in it, goes to its head
  queue_heads : (q : List ℕ) → t < 64 → ReadyQueue ts q → r.ready ≡ true → r.exists ≡ true → ReadyQueue (set ts t r) (to_head q t)
  unfolding leaves any distinct
  queue_heads q b l rdy ex = queue_with q (to_head q t) b l (rw (gone q, left_once q l)) (rw (eq-eqb t t refl)) others rdy ex
    where
      others : (u : ℕ) → u ≢ t → member u q ≡ member u (to_head q t)
      others u w = rw (ne_eqb u t w, member_without q t u, ne_eqb u t w, and-true)

  -- t, in it exactly when ready, goes where a priority that changes puts it
  pub queue_requeued : (on : Bool) (m n : ℕ) (q : List ℕ) → t < 64 → ReadyQueue ts q → r.ready ≡ on → r.ready ≡ member t q
      → (r.ready ≡ true → r.exists ≡ true) → ReadyQueue (set ts t r) (requeued on m n t q)
  unfolding requeued
  queue_requeued on m n q b l e rdy ex = go on e (ltb m n) (ltb n m)
    where
      same : ReadyQueue (set ts t r) q
      same = queue_same q l rdy ex

      go : (z : Bool) → r.ready ≡ z → (z₁ z₂ : Bool) → ReadyQueue (set ts t r) (cond z (cond z₁ (to_tail q t) (cond z₂ (to_head q t) q)) q)
      go false x z₁ z₂ = same
      go true x true z₂ = queue_turns q b l x (ex x)
      go true x false true = queue_heads q b l x (ex x)
      go true x false false = same
