-- The chosen thread: the first of top priority among the queued threads of the partition that this core may run.
use mathlib.Core.Path.{◌≡◌, refl, sym, ap, subst, ◌∙◌}
use Prim.Native.Nat.{ℕ, ◌≤◌}
use mathlib.Core.Bool.{Bool, true, false, ◌&&◌, ◌||◌, or-true}
use mathlib.Core.List.{List, [], ◌∷◌}
use lib.Dec.{eqb}
use borrow.Author.Tests.{eqb-true, eq-eqb}
use Rattle.lists.specs.Lists.{any, cons_if, keep, first, member}
use Rattle.lists.proofs.Tests.{clash, both, and}
use Rattle.lists.proofs.All.{member_keep, member_append, any_member, keep_both, maximum_high, maximum_found}
use Rattle.model.specs.State.{thread, queue_of, idle, State}
use Rattle.model.specs.Policy.{candidates, competing, top_priority, chosen}
use Rattle.invariants.specs.Promises.{Allowed, FirstOf, runs_for, Choice}

-- ---- the first element for which a test holds

first_is : (f : ℕ → Bool) (l : List ℕ) (d : ℕ) → any f l ≡ true → FirstOf f l (first (keep f l) d)
unfolding any keep first
first_is f [] d e = clash e refl
first_is f (x ∷ l) d e = go (f x) refl e (λ a. first_is f l d a)
  where
    go : (z : Bool) → f x ≡ z → (z || any f l) ≡ true → (any f l ≡ true → FirstOf f l (first (keep f l) d))
        → FirstOf f (x ∷ l) (first (cons_if z x (keep f l)) d)
    go true q k ih = record { earlier = []; later = l; split = refl; holds = q; not_earlier = λ u m. clash m refl }
    go false q k ih =
        let r : FirstOf f l (first (keep f l) d) = ih k in
        record {
          earlier = x ∷ r.earlier;
          later = r.later;
          split = ap (λ (l : List ℕ). x ∷ l) r.split;
          holds = r.holds;
          not_earlier = λ u m. there u r.earlier r.not_earlier (eqb u x) refl m;
        }
      where
        there : (u : ℕ) (b : List ℕ) → ((v : ℕ) → member v b ≡ true → f v ≡ false) → (y : Bool) → eqb u x ≡ y → (y || member u b) ≡ true
            → f u ≡ false
        there u b h true i m = let w : u ≡ x = eqb-true u x i in rw w q
        there u b h false i m = h u m

pub first_member : (f : ℕ → Bool) (l : List ℕ) (t : ℕ) → FirstOf f l t → member t l ≡ true
unfolding any
first_member f l t r = rw (r.split, member_append t r.earlier (t ∷ r.later), eq-eqb t t refl) (or-true (member t r.earlier))

-- ---- the threads that compete for a partition

module _ (s : State) (p : ℕ) where
  candidate : (t : ℕ) → member t (candidates s p) ≡ (member t (queue_of s) && runs_for s p t)
  unfolding candidates
  candidate t = member_keep (runs_for s p) (queue_of s) t

  -- a queued thread that this core may run makes its partition compete
  pub competes : (t : ℕ) → Allowed s t → (thread s t).partition ≡ p → competing s p ≡ true
  unfolding competing
  competes t a e = any_member (λ u. true) (candidates s p) t (candidate t ∙ and a.queued (and (eq-eqb _ _ e) a.allowed)) refl

  abbrev top : ℕ → Bool
  top t = runs_for s p t && eqb (thread s t).priority (top_priority s p)

  module _ (c : competing s p ≡ true) where
    some_top : any top (queue_of s) ≡ true
    unfolding competing top_priority
    some_top =
        let (u, m, e) = maximum_found (λ t. (thread s t).priority) (candidates s p) c in
        let (q, r) = both (member u (queue_of s)) (runs_for s p u) (sym (candidate u) ∙ m) in
        any_member top (queue_of s) u q (and r (eq-eqb _ _ e))

    first_top : FirstOf top (queue_of s) (chosen s p)
    unfolding chosen candidates
    first_top =
        rw (keep_both (runs_for s p) (λ t. eqb (thread s t).priority (top_priority s p)) top (λ t. refl) (queue_of s))
        (first_is top (queue_of s) idle some_top)

    is_top_law : (runs_for s p (chosen s p) ≡ true) × (top_priority s p ≡ (thread s (chosen s p)).priority)
    is_top_law = let (r, e) = both (runs_for s p (chosen s p)) _ first_top.holds in (r, sym (eqb-true _ _ e))

    pub chosen_is : Choice s p (chosen s p)
    unfolding top_priority
    chosen_is = record {
      place = subst (λ (n : ℕ). FirstOf (λ u. runs_for s p u && eqb (thread s u).priority n) (queue_of s) (chosen s p)) is_top_law.1 first_top;
      top = λ u q r. subst (λ (n : ℕ). (thread s u).priority ≤ n) is_top_law.1
          (maximum_high (λ t. (thread s t).priority) (candidates s p) u (candidate u ∙ and q r));
    }

    pub chosen_allowed : Allowed s (chosen s p) × ((thread s (chosen s p)).partition ≡ p)
    chosen_allowed =
        let (e, a) = both (eqb (thread s (chosen s p)).partition p) _ is_top_law.0 in
        (record { queued = first_member top (queue_of s) (chosen s p) first_top; allowed = a }, eqb-true _ _ e)
