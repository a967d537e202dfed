-- The lead of a list of threads: with one more at its end, with a rest that changes nothing, without a thread, with a thread at its end instead,
-- with another priority of a thread, which went where that puts it.
use mathlib.Core.Logic.{◌≢◌}
use mathlib.Core.Path.{◌≡◌, refl, sym, ap, ap₂, subst, ◌∙◌}
use Prim.Native.Nat.{ℕ, ◌+◌, ◌≤◌, ◌<◌}
use mathlib.Core.Bool.{Bool, true, false, not, cond, or-true}
use mathlib.Core.List.{List, [], ◌∷◌, ◌++◌, map, append_assoc, append-nil}
use lib.Dec.{eqb, ltb}
use native.Mathlib.Omega.{arith}
use native.Mathlib.Decide.{ℕ_discrete, dec_lt}
use borrow.Author.Tests.{eq-eqb, ne_eqb, lt-ltb, le-ltb, ltb-true, eqb-false, not-true}
use Rattle.lists.specs.Lists.{any, keep, first, maximum, member, cons_if}
use Rattle.lists.proofs.Tests.{clash, both}
use Rattle.lists.proofs.All.{any_member, member_keep, maximum_high, maximum_found}
use Rattle.model.specs.Step.{leaves, to_tail, to_head, requeued}
use Rattle.model.proofs.Ahead.{requeued_raised, requeued_lowered, requeued_same, requeued_member}
use Rattle.decision.specs.Leads.{top_of, lead_of, any_of, level_of, lead_in, raised_by}
use Rattle.decision.specs.declared.leads.Lead.{Lead}
use Rattle.decision.proofs.LeadsKept.{lead_in_law, top_joined, lead_stays, lead_new, top_kept, lead_kept}

abbrev lead : ℕ → ℕ → Lead
lead t u = record { top = t; first = u }

-- ---- one more

any_joined : (l : List ℕ) (t : ℕ) → any_of (l ++ (t ∷ [])) ≡ true
unfolding any
any_joined [] t = refl
any_joined (x ∷ l) t = refl

module _ (f : ℕ → ℕ) where
  level_some : (l : List ℕ) → any_of l ≡ true → level_of f l ≡ top_of f l + 1
  unfolding level_of
  level_some l e = ap (λ (z : Bool). cond z (top_of f l + 1) 0) e

  -- it is higher
  more_new : (l : List ℕ) (t : ℕ) → ((u : ℕ) → member u l ≡ true → f u < f t) → top_of f l ≤ f t → lead_in f (l ++ (t ∷ [])) ≡ lead (f t + 1) t
  more_new l t high low =
      let top : top_of f (l ++ (t ∷ [])) ≡ f t = top_joined f l t ∙ omega arith in
      ap₂ lead (level_some (l ++ (t ∷ [])) (any_joined l t) ∙ ap (λ (n : ℕ). n + 1) top) (lead_new f l t high top)

  pub lead_more : (l : List ℕ) (t : ℕ) → lead_in f (l ++ (t ∷ [])) ≡ raised_by (lead_in f l) (f t) t
  unfolding raised_by level_of any maximum
  lead_more [] t = more_new [] t (λ u m. clash m refl) (omega arith) ∙ sym (ap (λ (z : Bool). cond z (lead (f t + 1) t) (lead_in f [])) (lt-ltb 0 (f t + 1) (omega arith)))
  lead_more (x ∷ l) t = go (dec_lt (top_of f (x ∷ l)) (f t))
    where
      go : Dec (top_of f (x ∷ l) < f t) → lead_in f ((x ∷ l) ++ (t ∷ [])) ≡ cond (ltb (top_of f (x ∷ l) + 1) (f t + 1)) (lead (f t + 1) t) (lead_in f (x ∷ l))
      go (yes h) =
          more_new (x ∷ l) t (λ u m. let b = maximum_high f (x ∷ l) u m in omega arith) (omega arith)
          ∙ sym (ap (λ (z : Bool). cond z (lead (f t + 1) t) (lead_in f (x ∷ l))) (lt-ltb (top_of f (x ∷ l) + 1) (f t + 1) (omega arith)))
      go (no h) =
          let top : top_of f ((x ∷ l) ++ (t ∷ [])) ≡ top_of f (x ∷ l) = top_joined f (x ∷ l) t ∙ omega arith in
          ap₂ lead (ap (λ (n : ℕ). n + 1) top) (lead_stays f (x ∷ l) t refl (omega arith))
          ∙ sym (ap (λ (z : Bool). cond z (lead (f t + 1) t) (lead_in f (x ∷ l))) (le-ltb (top_of f (x ∷ l) + 1) (f t + 1) (omega arith)))

  -- ---- a rest that is not higher

  level_more : (a : List ℕ) (x : ℕ) → level_of f (a ++ (x ∷ [])) ≡ cond (ltb (level_of f a) (f x + 1)) (f x + 1) (level_of f a)
  unfolding raised_by
  level_more a x = ap (λ (b : Lead). b.top) (lead_more a x) ∙ go (ltb (level_of f a) (f x + 1))
    where
      go : (z : Bool) → (cond z (lead (f x + 1) x) (lead_in f a)).top ≡ cond z (f x + 1) (level_of f a)
      go true = refl
      go false = refl

  level_one : (a : List ℕ) (x : ℕ) → level_of f a ≤ level_of f (a ++ (x ∷ []))
  level_one a x = rw (level_more a x) (go (ltb (level_of f a) (f x + 1)) refl)
    where
      go : (z : Bool) → ltb (level_of f a) (f x + 1) ≡ z → level_of f a ≤ cond z (f x + 1) (level_of f a)
      go true e = let h = ltb-true (level_of f a) (f x + 1) e in omega arith
      go false e = omega arith

  level_front : (a b : List ℕ) → level_of f a ≤ level_of f (a ++ b)
  level_front a [] = rw (append-nil a) (omega arith)
  level_front a (x ∷ b) =
      let h = level_one a x in
      let k = level_front (a ++ (x ∷ [])) b in
      let e : (a ++ (x ∷ [])) ++ b ≡ a ++ (x ∷ b) = append_assoc a (x ∷ []) b in
      omega (arith, h, subst (λ (l : List ℕ). level_of f (a ++ (x ∷ [])) ≤ level_of f l) e k)

  lead_same_level : (a : List ℕ) (x : ℕ) → level_of f (a ++ (x ∷ [])) ≤ level_of f a → lead_in f (a ++ (x ∷ [])) ≡ lead_in f a
  unfolding raised_by
  lead_same_level a x low = go (ltb (level_of f a) (f x + 1)) refl
    where
      go : (z : Bool) → ltb (level_of f a) (f x + 1) ≡ z → lead_in f (a ++ (x ∷ [])) ≡ lead_in f a
      go true q =
          let l = ltb-true (level_of f a) (f x + 1) q in
          let n : level_of f (a ++ (x ∷ [])) ≡ f x + 1 = level_more a x ∙ ap (λ (z : Bool). cond z (f x + 1) (level_of f a)) q in
          let w : ⊥ = omega (arith, low, l, n) in absurd w
      go false q = lead_more a x ∙ ap (λ (z : Bool). cond z (lead (f x + 1) x) (lead_in f a)) q

  pub lead_stop : (a b : List ℕ) → level_of f (a ++ b) ≤ level_of f a → lead_in f (a ++ b) ≡ lead_in f a
  lead_stop a [] h = ap (lead_in f) (append-nil a)
  lead_stop a (x ∷ b) h =
      let e : (a ++ (x ∷ [])) ++ b ≡ a ++ (x ∷ b) = append_assoc a (x ∷ []) b in
      let k : level_of f ((a ++ (x ∷ [])) ++ b) ≤ level_of f a = subst (λ (l : List ℕ). level_of f l ≤ level_of f a) (sym e) h in
      let m = level_front (a ++ (x ∷ [])) b in
      ap (lead_in f) (sym e) ∙ lead_stop (a ++ (x ∷ [])) b (omega (arith, k, level_one a x)) ∙ lead_same_level a x (omega (arith, k, m))

-- ---- other priorities

map_same : (f g : ℕ → ℕ) (l : List ℕ) → ((u : ℕ) → member u l ≡ true → f u ≡ g u) → map f l ≡ map g l
unfolding any
map_same f g [] h = refl
map_same f g (x ∷ l) h = ap₂ (λ (n : ℕ) (k : List ℕ). n ∷ k) (h x (rw (eq-eqb x x refl))) (map_same f g l (λ u m. h u (rw m (or-true (eqb u x)))))

pub keep_same : (f g : ℕ → Bool) (l : List ℕ) → ((u : ℕ) → member u l ≡ true → f u ≡ g u) → keep f l ≡ keep g l
unfolding any keep
keep_same f g [] h = refl
keep_same f g (x ∷ l) h = ap₂ (λ (b : Bool) (k : List ℕ). cons_if b x k) (h x (rw (eq-eqb x x refl))) (keep_same f g l (λ u m. h u (rw m (or-true (eqb u x)))))

-- the lead depends only on the priorities of the threads themselves
pub lead_same : (f g : ℕ → ℕ) (l : List ℕ) → ((u : ℕ) → member u l ≡ true → f u ≡ g u) → lead_in f l ≡ lead_in g l
unfolding level_of
lead_same f g l h =
    let top : top_of f l ≡ top_of g l = ap maximum (map_same f g l h) in
    ap₂ lead (ap (λ (n : ℕ). cond (any_of l) (n + 1) 0) top)
    (ap (λ (k : List ℕ). first k 255) (keep_same (λ u. eqb (f u) (top_of f l)) (λ u. eqb (g u) (top_of g l)) l (λ u m. ap₂ eqb (h u m) top)))

-- ---- a thread less

any_left : (l : List ℕ) (t u : ℕ) → member u l ≡ true → u ≢ t → any_of (leaves l t) ≡ true
unfolding leaves
any_left l t u m n = any_member (λ x. true) (keep (λ v. not (eqb v t)) l) u (member_keep (λ v. not (eqb v t)) l u ∙ rw (m, ne_eqb u t n)) refl

-- nothing changes if it is not the first
pub lead_left : (f : ℕ → ℕ) (l : List ℕ) (t : ℕ) → lead_of f l ≢ t → (lead_in f (leaves l t) ≡ lead_in f l) × (any_of (leaves l t) ≡ any_of l)
unfolding level_of leaves keep any
lead_left f l t n = go (any_of l) refl
  where
    go : (z : Bool) → any_of l ≡ z → (lead_in f (leaves l t) ≡ lead_in f l) × (any_of (leaves l t) ≡ any_of l)
    go true e =
        let there = (lead_in_law f l e).0 in
        let some : any_of (leaves l t) ≡ any_of l = any_left l t (lead_of f l) there n ∙ sym e in
        (ap₂ lead (ap₂ (λ (b : Bool) (k : ℕ). cond b (k + 1) 0) some (top_kept f l e t n)) (lead_kept f l e t n), some)
    go false e =
        let none : leaves l t ≡ l = empty_left l e in
        (ap (lead_in f) none, ap any_of none)
      where
        empty_left : (k : List ℕ) → any_of k ≡ false → leaves k t ≡ k
        empty_left [] q = refl
        empty_left (x ∷ k) q = clash {b = true} refl q

-- it never goes up
pub level_left : (f : ℕ → ℕ) (l : List ℕ) (t : ℕ) → level_of f (leaves l t) ≤ level_of f l
unfolding level_of leaves
level_left f l t = go (any_of (leaves l t)) refl
  where
    go : (z : Bool) → any_of (leaves l t) ≡ z → cond z (top_of f (leaves l t) + 1) 0 ≤ level_of f l
    go true e =
        let v = maximum_found f (leaves l t) e in
        let (mine, other) = both (member v.0 l) (not (eqb v.0 t)) (sym (member_keep (λ u. not (eqb u t)) l v.0) ∙ v.1) in
        let some : any_of l ≡ true = any_member (λ x. true) l v.0 mine refl in
        let high = maximum_high f l v.0 mine in
        rw some (omega (arith, high, v.2))
    go false e = omega arith

-- ---- a thread of it at its end

module _ (f : ℕ → ℕ) (l : List ℕ) (t : ℕ) (m : member t l ≡ true) where
  own_level : f t + 1 ≤ level_of f l
  own_level = rw (level_some f l (any_member (λ x. true) l t m refl)) (omega (arith, maximum_high f l t m))

  -- the lead stays, unless it is this thread
  pub lead_tail : lead_of f l ≢ t → (lead_in f (to_tail l t) ≡ lead_in f l) × (any_of (to_tail l t) ≡ any_of l)
  unfolding raised_by
  lead_tail n = (
    lead_more f (leaves l t) t ∙ ap (λ (x : Lead). raised_by x (f t) t) (lead_left f l t n).0
        ∙ ap (λ (z : Bool). cond z (lead (f t + 1) t) (lead_in f l)) (le-ltb (level_of f l) (f t + 1) own_level),
    any_joined (leaves l t) t ∙ sym (any_member (λ x. true) l t m refl),
  )

  -- the level is no higher
  pub level_tail : level_of f (to_tail l t) ≤ level_of f l
  level_tail = rw (level_more f (leaves l t) t) (go (ltb (level_of f (leaves l t)) (f t + 1)))
    where
      go : (z : Bool) → cond z (f t + 1) (level_of f (leaves l t)) ≤ level_of f l
      go true = own_level
      go false = level_left f l t

-- ---- one priority changed, and its thread went where that puts it

-- a thread below the top is not the lead at the head either
module _ (f : ℕ → ℕ) (l : List ℕ) (t : ℕ) where
  pub lead_head : f t < top_of f l → any_of l ≡ true → lead_in f (t ∷ l) ≡ lead_in f l
  unfolding level_of any maximum keep first
  lead_head low some =
      let top : top_of f (t ∷ l) ≡ top_of f l = omega (arith, low) in
      ap₂ lead (ap (λ (n : ℕ). n + 1) top ∙ sym (level_some f l some))
      (ap (λ (n : ℕ). first (keep (λ u. eqb (f u) n) (t ∷ l)) 255) top
      ∙ ap (λ (z : Bool). first (cons_if z t (keep (λ u. eqb (f u) (top_of f l)) l)) 255) (ne_eqb (f t) (top_of f l) (λ q. let w : ⊥ = omega (arith, low, q) in absurd w)))

  -- above all others it leads
  lead_above : member t l ≡ true → ((u : ℕ) → member u l ≡ true → u ≢ t → f u < f t) → lead_in f l ≡ lead (f t + 1) t
  lead_above m high =
      let some : any_of l ≡ true = any_member (λ x. true) l t m refl in
      let (there, level) = lead_in_law f l some in
      let most = maximum_high f l t m in
      let one : lead_of f l ≡ t = alone (lead_of f l) there (omega (arith, most, level)) in
      let top : top_of f l ≡ f t = sym level ∙ ap f one in
      ap₂ lead (level_some f l some ∙ ap (λ (n : ℕ). n + 1) top) one
    where
      alone : (u : ℕ) → member u l ≡ true → f t ≤ f u → u ≡ t
      alone u i h = go (ℕ_discrete u t)
        where
          go : Dec (u ≡ t) → u ≡ t
          go (yes e) = e
          go (no n) = let k = high u i n in let w : ⊥ = omega (arith, h, k) in absurd w

-- no thread of the list is above c
level_within : (f : ℕ → ℕ) (l : List ℕ) (c : ℕ) → ((u : ℕ) → member u l ≡ true → f u + 1 ≤ c) → level_of f l ≤ c
unfolding level_of
level_within f l c each = go (any_of l) refl
  where
    go : (z : Bool) → any_of l ≡ z → cond z (top_of f l + 1) 0 ≤ c
    go true e = let v = maximum_found f l e in rw (← v.2) (each v.0 v.1)
    go false e = omega arith

module _ (f g : ℕ → ℕ) (l : List ℕ) (t : ℕ) (m : member t l ≡ true) (same : (u : ℕ) → u ≢ t → f u ≡ g u) where
  -- the list after it
  abbrev moved : List ℕ
  moved = requeued true (g t) (f t) t l

  in_moved : (u : ℕ) → member u moved ≡ member u l
  in_moved u = requeued_member u t true (g t) (f t) l m

  some : any_of l ≡ true
  some = any_member (λ x. true) l t m refl

  pub changed_any : any_of moved ≡ any_of l
  changed_any = any_member (λ x. true) moved t (in_moved t ∙ m) refl ∙ sym some

  level_was : level_of g l ≡ top_of g l + 1
  level_was = level_some g l some

  -- above the top of before it leads
  pub changed_above : level_of g l < f t + 1 → lead_in f moved ≡ lead (f t + 1) t
  changed_above up =
      lead_above f moved t (in_moved t ∙ m)
      (λ u i n. omega (arith, up, level_was, same u n, maximum_high g l u (sym (in_moved u) ∙ i)))

  -- the level is bounded by what it was and by the new priority
  pub changed_level : f t + 1 ≤ level_of g l → level_of f moved ≤ level_of g l
  changed_level low = level_within f moved (level_of g l) (λ u i. at u (sym (in_moved u) ∙ i) (ℕ_discrete u t))
    where
      at : (u : ℕ) → member u l ≡ true → Dec (u ≡ t) → f u + 1 ≤ level_of g l
      at u i (yes e) = rw e low
      at u i (no n) = omega (arith, level_was, same u n, maximum_high g l u i)

  -- at the priority that it had, nothing changes
  changed_none : g t ≡ f t → lead_in f moved ≡ lead_in g l
  changed_none e = ap (lead_in f) (requeued_same true (g t) (f t) t l e) ∙ lead_same f g l (λ u i. at u (ℕ_discrete u t))
    where
      at : (u : ℕ) → Dec (u ≡ t) → f u ≡ g u
      at u (yes w) = ap f w ∙ sym e ∙ ap g (sym w)
      at u (no n) = same u n

  -- the first thread at the level that it had
  pub changed_first : lead_of g l ≡ t → f t + 1 ≡ level_of g l → lead_in f moved ≡ lead_in g l
  changed_first e s =
      let level : g t ≡ top_of g l = ap g (sym e) ∙ (lead_in_law g l some).1 in
      changed_none (omega (arith, level, s, level_was))

  -- another one, not above the top: it is behind the first, or below it
  pub changed_other : lead_of g l ≢ t → f t + 1 ≤ level_of g l → lead_in f moved ≡ lead_in g l
  unfolding leaves raised_by
  changed_other n low = go (dec_lt (g t) (f t)) (dec_lt (f t) (g t))
    where
      rest : lead_in f (leaves l t) ≡ lead_in g l
      rest =
          lead_same f g (leaves l t) (λ u i. same u (eqb-false u t (not-true (eqb u t) (both (member u l) (not (eqb u t)) (sym (member_keep (λ v. not (eqb v t)) l u) ∙ i)).1)))
          ∙ (lead_left g l t n).0

      any_rest : any_of (leaves l t) ≡ true
      any_rest = (lead_left g l t n).1 ∙ some

      raised : lead_in f (to_tail l t) ≡ lead_in g l
      raised =
          lead_more f (leaves l t) t ∙ ap (λ (x : Lead). raised_by x (f t) t) rest
          ∙ ap (λ (z : Bool). cond z (lead (f t + 1) t) (lead_in g l)) (le-ltb (level_of g l) (f t + 1) low)

      lowered : f t < g t → lead_in f (to_head l t) ≡ lead_in g l
      lowered h =
          let top : top_of f (leaves l t) + 1 ≡ level_of g l = sym (level_some f (leaves l t) any_rest) ∙ ap (λ (x : Lead). x.top) rest in
          lead_head f (leaves l t) t (omega (arith, h, top, level_was, maximum_high g l t m)) any_rest ∙ rest

      go : Dec (g t < f t) → Dec (f t < g t) → lead_in f moved ≡ lead_in g l
      go (yes h) b = ap (lead_in f) (requeued_raised true (g t) (f t) t l refl h) ∙ raised
      go (no h) (yes k) = ap (lead_in f) (requeued_lowered true (g t) (f t) t l refl k) ∙ lowered k
      go (no h) (no k) = changed_none (omega arith)
