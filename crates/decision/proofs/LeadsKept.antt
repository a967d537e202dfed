-- The lead of a partition is kept while another thread leaves, and is known when one joins: no walk of the queue is needed for either.
use mathlib.Core.Logic.{◌≢◌}
use mathlib.Core.Path.{◌≡◌, refl, sym, ap, ◌∙◌}
use mathlib.Core.Bool.{Bool, true, not, ◌&&◌, and_comm, or-true}
use Prim.Native.Nat.{ℕ, ◌≤◌, ◌<◌, max}
use mathlib.Core.List.{List, [], ◌∷◌, ◌++◌}
use native.Mathlib.Omega.{arith}
use native.Mathlib.Nat.{le_antisymm}
use lib.Dec.{eqb}
use borrow.Author.Tests.{eq-eqb, ne_eqb, eqb-true}
use Rattle.lists.specs.Lists.{any, keep, first, member}
use Rattle.lists.proofs.Tests.{both, clash}
use Rattle.lists.proofs.All.{member_keep, keep_both, maximum_high, maximum_found, keep_append}
use Rattle.lists.proofs.Loops.{maximum_more}
use Rattle.model.specs.Step.{leaves}
use Rattle.decision.specs.Leads.{top_of, lead_of}

filled : (l : List ℕ) (u : ℕ) → member u l ≡ true → any (λ x. true) l ≡ true
unfolding any
filled [] u m = m
filled (x ∷ l) u m = refl

first_of : (l : List ℕ) (u : ℕ) → member u l ≡ true → member (first l 255) l ≡ true
unfolding any first
first_of [] u m = m
first_of (x ∷ l) u m = rw (eq-eqb x x refl)

module _ (f : ℕ → ℕ) (l : List ℕ) (some : any (λ x. true) l ≡ true) where
  abbrev is_top : ℕ → Bool
  is_top t = eqb (f t) (top_of f l)

  -- the lead is one of them, and has the top priority
  pub lead_in_law : (member (lead_of f l) l ≡ true) × (f (lead_of f l) ≡ top_of f l)
  lead_in_law =
      let u = maximum_found f l some in
      let there : member u.0 (keep is_top l) ≡ true = member_keep is_top l u.0 ∙ rw (u.1, eq-eqb (f u.0) (top_of f l) u.2) in
      let (a, b) = both (member (lead_of f l) l) (is_top (lead_of f l)) (sym (member_keep is_top l (lead_of f l)) ∙ first_of (keep is_top l) u.0 there) in
      (a, eqb-true _ _ b)

  module _ (t : ℕ) (other : lead_of f l ≢ t) where
    abbrev stays : ℕ → Bool
    stays u = not (eqb u t)

    still : member (lead_of f l) (leaves l t) ≡ true
    unfolding leaves
    still = member_keep stays l (lead_of f l) ∙ rw (lead_in_law.0, ne_eqb (lead_of f l) t other)

    pub top_kept : top_of f (leaves l t) ≡ top_of f l
    unfolding leaves
    top_kept =
        let v = maximum_found f (leaves l t) (filled (leaves l t) (lead_of f l) still) in
        let (mine, _) = both (member v.0 l) (stays v.0) (sym (member_keep stays l v.0) ∙ v.1) in
        let low : top_of f l ≤ top_of f (leaves l t) = rw (← lead_in_law.1) (maximum_high f (leaves l t) (lead_of f l) still) in
        let high : top_of f (leaves l t) ≤ top_of f l = rw (← v.2) (maximum_high f l v.0 mine) in
        le_antisymm high low

    first_kept : (k : List ℕ) → first k 255 ≢ t → first (keep stays k) 255 ≡ first k 255
    unfolding keep first
    first_kept [] n = refl
    first_kept (x ∷ k) n = rw (ne_eqb x t n)

    pub lead_kept : lead_of f (leaves l t) ≡ lead_of f l
    unfolding leaves
    lead_kept =
        let one : keep is_top (leaves l t) ≡ keep (λ u. stays u && is_top u) l = keep_both stays is_top (λ u. stays u && is_top u) (λ u. refl) l in
        let two : keep stays (keep is_top l) ≡ keep (λ u. stays u && is_top u) l = keep_both is_top stays (λ u. stays u && is_top u) (λ u. and_comm (stays u) (is_top u)) l in
        ap (λ (n : ℕ). first (keep (λ u. eqb (f u) n) (leaves l t)) 255) top_kept
        ∙ ap (λ (k : List ℕ). first k 255) (one ∙ sym two) ∙ first_kept (keep is_top l) other

-- ---- a thread joins at the tail

first_front : (k r : List ℕ) (u : ℕ) → member u k ≡ true → first (k ++ r) 255 ≡ first k 255
unfolding any first
first_front [] r u m = clash m refl
first_front (x ∷ k) r u m = refl

module _ (f : ℕ → ℕ) (l : List ℕ) (t : ℕ) where
  pub top_joined : top_of f (l ++ (t ∷ [])) ≡ max (top_of f l) (f t)
  top_joined = maximum_more f l t

  -- no higher than those before it, it changes nothing
  pub lead_stays : any (λ x. true) l ≡ true → f t ≤ top_of f l → lead_of f (l ++ (t ∷ [])) ≡ lead_of f l
  lead_stays some low =
      let same : top_of f (l ++ (t ∷ [])) ≡ top_of f l = top_joined ∙ omega arith in
      let u = maximum_found f l some in
      let there : member u.0 (keep (is_top f l some) l) ≡ true = member_keep (is_top f l some) l u.0 ∙ rw (u.1, eq-eqb (f u.0) (top_of f l) u.2) in
      ap (λ (n : ℕ). first (keep (λ u. eqb (f u) n) (l ++ (t ∷ []))) 255) same
      ∙ ap (λ (k : List ℕ). first k 255) (keep_append (is_top f l some) l (t ∷ []))
      ∙ first_front (keep (is_top f l some) l) (keep (is_top f l some) (t ∷ [])) u.0 there

  nobody : (n : ℕ) (k : List ℕ) → ((u : ℕ) → member u k ≡ true → f u < n) → keep (λ u. eqb (f u) n) k ≡ []
  unfolding keep any
  nobody n [] h = refl
  nobody n (x ∷ k) h =
      let b : f x < n = h x (rw (eq-eqb x x refl)) in
      rw (ne_eqb (f x) n (λ e. let z : ⊥ = omega arith in absurd z)) (nobody n k (λ u m. h u (rw (m) (or-true (eqb u x)))))

  -- higher than all of them, it leads
  pub lead_new : ((u : ℕ) → member u l ≡ true → f u < f t) → top_of f (l ++ (t ∷ [])) ≡ f t → lead_of f (l ++ (t ∷ [])) ≡ t
  unfolding keep first
  lead_new high top =
      let alone : keep (λ u. eqb (f u) (f t)) (l ++ (t ∷ [])) ≡ t ∷ [] =
      keep_append (λ u. eqb (f u) (f t)) l (t ∷ []) ∙ ap (λ (k : List ℕ). k ++ keep (λ u. eqb (f u) (f t)) (t ∷ [])) (nobody (f t) l high) ∙ rw (eq-eqb (f t) (f t) refl) in
      ap (λ (n : ℕ). first (keep (λ u. eqb (f u) n) (l ++ (t ∷ []))) 255) top ∙ ap (λ (k : List ℕ). first k 255) alone
