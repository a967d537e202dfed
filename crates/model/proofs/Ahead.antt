-- Which of two entries of a list comes first, and what changes of the ready queue leave of that.
use mathlib.Core.Logic.{◌≢◌}
use mathlib.Core.Path.{◌≡◌, refl, sym, ap, ◌∙◌}
use Prim.Native.Nat.{ℕ, ◌≤◌, ◌<◌}
use mathlib.Core.Bool.{Bool, true, false, not, cond, ◌&&◌, ◌||◌, and-true, and-false, or-false, or_comm}
use mathlib.Core.List.{List, [], ◌∷◌, ◌++◌}
use lib.Dec.{eqb, ltb}
use borrow.Author.Tests.{eqb-true, eqb-false, eq-eqb, ne_eqb, lt-ltb, le-ltb}
use native.Mathlib.Omega.{arith}
use Rattle.lists.specs.Lists.{any, cons_if, keep, member}
use Rattle.lists.proofs.Tests.{clash}
use Rattle.lists.proofs.All.{without, member_append, member_without}
use Rattle.model.specs.Step.{leaves, to_tail, to_head, requeued}

-- of the entries a and b of the list, a is found first
unfoldable pub ahead : ℕ → ℕ → List ℕ → Bool
ahead a b [] = false
ahead a b (x ∷ l) = eqb x a || (not (eqb x b) && ahead a b l)

-- one of two is
pub either : (a b : ℕ) (l : List ℕ) → member a l ≡ true → ahead a b l ≡ false → ahead b a l ≡ true
unfolding ahead any
either a b [] m f = clash m refl
either a b (x ∷ l) m f = go (eqb x a) refl (eqb x b) refl f (either a b l)
  where
    there : x ≢ a → member a l ≡ true
    there n = rw (ne_eqb a x (λ q. n (sym q))) at m

    go : (y : Bool) → eqb x a ≡ y → (z : Bool) → eqb x b ≡ z → (y || (not z && ahead a b l)) ≡ false
        → (member a l ≡ true → ahead a b l ≡ false → ahead b a l ≡ true) → (z || (not y && ahead b a l)) ≡ true
    go true p z q h ih = clash {b = true} refl h
    go false p true q h ih = refl
    go false p false q h ih = ih (there (eqb-false x a p)) h

-- more at the tail changes nothing
pub ahead_append : (a b : ℕ) (l k : List ℕ) → ahead a b l ≡ true → ahead a b (l ++ k) ≡ true
unfolding ahead
ahead_append a b [] k h = clash h refl
ahead_append a b (x ∷ l) k h = go (eqb x a) (eqb x b) h (ahead_append a b l k)
  where
    go : (y z : Bool) → (y || (not z && ahead a b l)) ≡ true → (ahead a b l ≡ true → ahead a b (l ++ k) ≡ true)
        → (y || (not z && ahead a b (l ++ k))) ≡ true
    go true z h ih = refl
    go false true h ih = h
    go false false h ih = ih h

-- nor does it that a third one leaves
pub ahead_leaves : (a b t : ℕ) → t ≢ a → t ≢ b → (l : List ℕ) → ahead a b (leaves l t) ≡ ahead a b l
unfolding ahead leaves keep
ahead_leaves a b t m n [] = refl
ahead_leaves a b t m n (x ∷ l) = go (eqb x t) refl (ahead_leaves a b t m n l)
  where
    go : (z : Bool) → eqb x t ≡ z → ahead a b (leaves l t) ≡ ahead a b l
        → ahead a b (cons_if (not z) x (leaves l t)) ≡ (eqb x a || (not (eqb x b) && ahead a b l))
    go true q ih =
        let e : x ≡ t = eqb-true x t q in
        rw (ne_eqb x a (λ w. m (sym e ∙ w)), ne_eqb x b (λ w. n (sym e ∙ w))) ih
    go false q ih = rw (← ih)

-- where b is not in the list, a is ahead of it
alone : (a b : ℕ) (l : List ℕ) → member a l ≡ true → member b l ≡ false → ahead a b l ≡ true
unfolding ahead any
alone a b [] m f = clash m refl
alone a b (x ∷ l) m f = go (eqb x a) refl (eqb x b) refl (alone a b l)
  where
    go : (y : Bool) → eqb x a ≡ y → (z : Bool) → eqb x b ≡ z → (member a l ≡ true → member b l ≡ false → ahead a b l ≡ true)
        → (y || (not z && ahead a b l)) ≡ true
    go true p z q ih = refl
    go false p true q ih = clash {b = true} refl (rw (eq-eqb b x (sym (eqb-true x b q))) at f)
    go false p false q ih =
        ih (rw (ne_eqb a x (λ w. eqb-false x a p (sym w))) at m) (rw (ne_eqb b x (λ w. eqb-false x b q (sym w))) at f)

-- who goes to the tail is behind all others
pub tail_behind : (a t : ℕ) (l : List ℕ) → a ≢ t → member a l ≡ true → ahead a t (to_tail l t) ≡ true
unfolding leaves
tail_behind a t l n m =
    ahead_append a t (without t l) (t ∷ [])
    (alone a t (without t l) (rw (member_without l t a, m, ne_eqb a t n)) (rw (member_without l t t, eq-eqb t t refl) (and-false (member t l))))

-- and a is still ahead of b after any but a goes there
pub tail_ahead : (a b t : ℕ) (l : List ℕ) → a ≢ b → t ≢ a → member a l ≡ true → ahead a b l ≡ true → ahead a b (to_tail l t) ≡ true
tail_ahead a b t l d n m h = go (eqb t b) refl
  where
    go : (z : Bool) → eqb t b ≡ z → ahead a b (to_tail l t) ≡ true
    go true q = let e : t ≡ b = eqb-true t b q in rw e (tail_behind a b l d m)
    go false q = ahead_append a b (leaves l t) (t ∷ []) (ahead_leaves a b t n (eqb-false t b q) l ∙ h)

-- who goes to the head is ahead of all others
pub head_ahead : (a t : ℕ) (l : List ℕ) → ahead t a (to_head l t) ≡ true
unfolding ahead
head_ahead a t l = rw (eq-eqb t t refl)

-- where a changed priority puts a thread: a ready one that is raised, at the tail; one that is lowered, at the head; one set to the priority it
-- has, where it stood; one that is not ready moves nothing
module _ (on : Bool) (m n t : ℕ) (l : List ℕ) where
  pub requeued_raised : on ≡ true → m < n → requeued on m n t l ≡ to_tail l t
  unfolding requeued
  requeued_raised e h = rw (e, lt-ltb m n h)

  pub requeued_lowered : on ≡ true → n < m → requeued on m n t l ≡ to_head l t
  unfolding requeued
  requeued_lowered e h = let k : n ≤ m = omega arith in rw (e, le-ltb m n k, lt-ltb n m h)

  pub requeued_same : m ≡ n → requeued on m n t l ≡ l
  unfolding requeued
  requeued_same e = let a : n ≤ m = omega arith in let b : m ≤ n = omega arith in rw (le-ltb m n a, le-ltb n m b) (go on)
    where
      go : (z : Bool) → cond z l l ≡ l
      go true = refl
      go false = refl

  pub requeued_unready : on ≡ false → requeued on m n t l ≡ l
  unfolding requeued
  requeued_unready e = rw e

-- who is queued stays the same
pub requeued_member : (u t : ℕ) (on : Bool) (m n : ℕ) (l : List ℕ) → member t l ≡ true → member u (requeued on m n t l) ≡ member u l
unfolding requeued leaves any
requeued_member u t on m n l i = go on (ltb m n) (ltb n m)
  where
    at : (z : Bool) → eqb u t ≡ z → (z || member u (without t l)) ≡ member u l
    at true e = sym i ∙ ap (λ (v : ℕ). member v l) (sym (eqb-true u t e))
    at false e = member_without l t u ∙ rw e (and-true (member u l))

    tail : member u (to_tail l t) ≡ member u l
    tail = member_append u (without t l) (t ∷ []) ∙ rw (or-false (eqb u t)) (or_comm (member u (without t l)) (eqb u t) ∙ at (eqb u t) refl)

    go : (z z₁ z₂ : Bool) → member u (cond z (cond z₁ (to_tail l t) (cond z₂ (to_head l t) l)) l) ≡ member u l
    go false z₁ z₂ = refl
    go true true z₂ = tail
    go true false true = at (eqb u t) refl
    go true false false = refl

-- and the order of two others is as it was, wherever a third goes when its priority changes
pub requeued_ahead : (a b t : ℕ) (on : Bool) (m n : ℕ) (l : List ℕ) → t ≢ a → t ≢ b → ahead a b l ≡ true → ahead a b (requeued on m n t l) ≡ true
unfolding ahead requeued
requeued_ahead a b t on m n l x y h = go on (ltb m n) (ltb n m)
  where
    left : ahead a b (leaves l t) ≡ true
    left = ahead_leaves a b t x y l ∙ h

    go : (z z₁ z₂ : Bool) → ahead a b (cond z (cond z₁ (to_tail l t) (cond z₂ (to_head l t) l)) l) ≡ true
    go false z₁ z₂ = h
    go true true z₂ = ahead_append a b (leaves l t) (t ∷ []) left
    go true false true = rw (ne_eqb t a x, ne_eqb t b y) left
    go true false false = h

-- the first for which a test holds is not behind another one for which it holds
pub not_behind : (f : ℕ → Bool) (a t : ℕ) → f a ≡ true → t ≢ a → (earlier later : List ℕ) → ((x : ℕ) → member x earlier ≡ true → f x ≡ false)
    → ahead a t (earlier ++ (t ∷ later)) ≡ false
unfolding ahead any
not_behind f a t h n [] later free = rw (ne_eqb t a n, eq-eqb t t refl)
not_behind f a t h n (x ∷ l) later free =
    let head : f x ≡ false = free x (rw (eq-eqb x x refl)) in
    let other : x ≢ a = λ e. clash h (rw e at head) in
    rw (ne_eqb x a other, not_behind f a t h n l later (λ y m. free y (later_in y m))) (and-false (not (eqb x t)))
  where
    later_in : (y : ℕ) → member y l ≡ true → (eqb y x || member y l) ≡ true
    later_in y m = go (eqb y x)
      where
        go : (z : Bool) → (z || member y l) ≡ true
        go true = refl
        go false = m
