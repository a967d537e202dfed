-- The decision: idle exactly where it must be, otherwise the one partition and thread that the rules give.
use mathlib.Core.Path.{◌≡◌, refl, sym, subst, ◌∙◌}
use Prim.Native.Nat.{ℕ, ◌≤◌, ◌<◌}
use mathlib.Core.Bool.{Bool, true, false, ◌&&◌, ◌||◌}
use mathlib.Core.Option.{Option, none, some}
use mathlib.Core.List.{List, [], ◌∷◌, ◌++◌}
use lib.Dec.{eqb}
use borrow.Author.Tests.{eq-eqb}
use native.Mathlib.Omega.{arith}
use Rattle.lists.specs.Lists.{any, member}
use Rattle.lists.proofs.Tests.{clash, both}
use Rattle.model.specs.State.{thread, queue_of, State}
use Rattle.model.specs.Policy.{competing, has_budget, winner}
use Rattle.model.specs.Facts.{Settled}
use Rattle.model.proofs.Meaning.{sound_of}
use Rattle.model.proofs.Order.{ordered, weak}
use Rattle.model.proofs.Winner.{winner_none, won_one}
use Rattle.invariants.specs.Promises.{Idles, Compares, Orders, FirstOf, runs_for, Choice, Chooses, ChoosesOne, BudgetFirst}
use Rattle.invariants.proofs.Winner.{winner_has}
use Rattle.invariants.proofs.Chosen.{first_member}
use Rattle.invariants.proofs.Decision.{allowed_competes, decide_picks, idle_exactly}

pub compares : Compares
compares s m = ordered s m

pub orders : Orders
orders s m = weak s m

pub idles : Idles
idles s h e f = let k : Settled s h = (sound_of s h e).settled in idle_exactly s h k f

-- one that competes makes a winner
busy : (s : State) (h : List ℕ) → Settled s h → (f : Option ℕ) (p : ℕ) → p < s.settings.count → competing s p ≡ true
    → (w : ℕ) × (winner s f ≡ some w)
busy s h k f p i c = go (winner s f) refl
  where
    go : (o : Option ℕ) → winner s f ≡ o → (w : ℕ) × (winner s f ≡ some w)
    go none q = clash c (winner_none s f q p i)
    go (some w) q = (w, q)

pub chooses : Chooses
chooses s h e f t a =
    let k : Settled s h = (sound_of s h e).settled in
    let (i, c) = allowed_competes s h k t a in
    let (w, q) = busy s h k f (thread s t).partition i c in
    (decide_picks s h k f w q).busy

module _ (test : ℕ → Bool) (t u : ℕ) (t_holds : test t ≡ true) (u_holds : test u ≡ true) (l m : List ℕ) where
  Free : List ℕ → Type 0
  Free x = (v : ℕ) → member v x ≡ true → test v ≡ false

  free_head : (x : ℕ) (xs : List ℕ) → Free (x ∷ xs) → test x ≡ false
  unfolding Free any
  free_head x xs f = f x (rw (eq-eqb x x refl))

  free_tail : (x : ℕ) (xs : List ℕ) → Free (x ∷ xs) → Free xs
  unfolding Free any
  free_tail x xs f v k = f v (go (eqb v x))
    where
      go : (z : Bool) → (z || member v xs) ≡ true
      go true = refl
      go false = k

  first_one : (x : List ℕ) → Free x → (y : List ℕ) → Free y → x ++ (t ∷ l) ≡ y ++ (u ∷ m) → t ≡ u
  first_one [] f [] g e = cc
  first_one [] f (y ∷ ys) g e = let w : t ≡ y = cc in clash t_holds (rw w (free_head y ys g))
  first_one (x ∷ xs) f [] g e = let w : u ≡ x = cc in clash u_holds (rw w (free_head x xs f))
  first_one (x ∷ xs) f (y ∷ ys) g e = let w : xs ++ (t ∷ l) ≡ ys ++ (u ∷ m) = cc in first_one xs (free_tail x xs f) ys (free_tail y ys g) w

-- two choices have the same priority, so they are the first of the same test
choice_one : (s : State) (p t u : ℕ) → Choice s p t → Choice s p u → t ≡ u
unfolding Free
choice_one s p t u a b =
    first_one (λ v. runs_for s p v && eqb (thread s v).priority (thread s t).priority) t u a.place.holds b'.holds a.place.later
    b'.later
    a.place.earlier a.place.not_earlier b'.earlier b'.not_earlier (sym a.place.split ∙ b'.split)
  where
    le : (t u : ℕ) → Choice s p t → Choice s p u → (thread s t).priority ≤ (thread s u).priority
    le t u a b = b.top t (first_member _ (queue_of s) t a.place) (both (runs_for s p t) _ a.place.holds).0

    b' : FirstOf (λ v. runs_for s p v && eqb (thread s v).priority (thread s t).priority) (queue_of s) u
    b' =
        let same : (thread s u).priority ≡ (thread s t).priority = omega (arith, le t u a b, le u t b a) in
        subst (λ (n : ℕ). FirstOf (λ v. runs_for s p v && eqb (thread s v).priority n) (queue_of s) u) same b.place

pub chooses_one : ChoosesOne
chooses_one s f d e a b = λ i. record { mode = modes i; partition = parts i; thread = threads i }
  where
    modes : d.mode ≡ e.mode
    modes = a.mode_is ∙ sym b.mode_is

    parts : d.partition ≡ e.partition
    parts = won_one s f s.settings.count d.partition e.partition a.won b.won

    threads : d.thread ≡ e.thread
    threads = choice_one s e.partition d.thread e.thread (subst (λ (p : ℕ). Choice s p d.thread) parts a.choice) b.choice

pub budget_first : BudgetFirst
budget_first s h e f p i c y =
    let k : Settled s h = (sound_of s h e).settled in
    let (w, q) = busy s h k f p i c in
    let d = decide_picks s h k f w q in
    (d.busy.mode_busy, subst (λ (x : ℕ). has_budget s x ≡ true) (sym d.partition) (winner_has s f p w i c y q))
