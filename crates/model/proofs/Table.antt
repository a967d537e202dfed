-- The threads that the columns stand for: what stands at a place, and what a store to the columns does.
use mathlib.Core.Logic.{◌≢◌}
use mathlib.Core.Path.{◌≡◌, refl, sym, ap, ◌∙◌}
use mathlib.Core.Bool.{Bool, true, false}
use Prim.Native.Nat.{ℕ, ◌≤◌, ◌<◌}
use mathlib.Core.List.{List, map}
use native.Mathlib.Decide.{ℕ_discrete}
use native.Mathlib.Omega.{arith}
use lib.Dec.{eqb, leb}
use borrow.Author.Tests.{le-leb}
use lib.ListN.{length, get_or, set, length-set}
use lib.Seq.{ext_get_or, get_or-set_same, get_or-set_other}
use Rattle.lists.specs.Lists.{below}
use Rattle.lists.proofs.Tables.{table_length, table_at}
use Rattle.lists.proofs.All.{all_below, below_all}
use Rattle.model.specs.State.{absent, Thread}
use Rattle.model.specs.Slices.{slice_for, with_slice}
use Rattle.model.specs.Step.{with_ready, returned, with_priority}
use Rattle.model.specs.Arrays.{flag, Columns, columns, with_ready_column, with_priority_column, with_slice_column, thread_in, threads_in, plain, Sized, Regular}

-- a table with another value at one place
table_set : (f g : ℕ → Thread) (t : ℕ) (x : Thread) → t < 64 → g t ≡ x → ((u : ℕ) → u ≢ t → g u ≡ f u) → map g (below 64) ≡ set (map f (below 64)) t x
table_set f g t x h here other =
    let long : length (map g (below 64)) ≡ length (set (map f (below 64)) t x) = table_length g 64 ∙ sym (length-set (map f (below 64)) t x ∙ table_length f 64) in
    ext_get_or absent (map g (below 64)) (set (map f (below 64)) t x) long (λ u b. at u (rw (table_length g 64) at b) (ℕ_discrete u t))
  where
    at : (u : ℕ) → u < 64 → Dec (u ≡ t) → get_or (map g (below 64)) u absent ≡ get_or (set (map f (below 64)) t x) u absent
    at u b (yes e) =
        table_at g 64 u absent b ∙ ap g e ∙ here
        ∙ sym (ap (λ (k : ℕ). get_or (set (map f (below 64)) t x) k absent) e ∙ get_or-set_same (map f (below 64)) t x absent (rw (table_length f 64) h))
    at u b (no n) = table_at g 64 u absent b ∙ other u n ∙ sym (get_or-set_other (map f (below 64)) t u x absent n ∙ table_at f 64 u absent b)

pub flag_on : (b : Bool) → eqb (flag b) 1 ≡ b
flag_on true = refl
flag_on false = refl

pub flag_low : (b : Bool) → flag b ≤ 1
flag_low true = omega arith
flag_low false = omega arith

thread_eq : {e r : Bool} {p n m o l : ℕ} {e' r' : Bool} {p' n' m' o' l' : ℕ} → e ≡ e' → r ≡ r' → p ≡ p' → n ≡ n' → m ≡ m' → o ≡ o' → l ≡ l'
    → ◌≡◌ {A = Thread} (record { exists = e; ready = r; partition = p; priority = n; mask = m; policy = o; slice = l })
    (record { exists = e'; ready = r'; partition = p'; priority = n'; mask = m'; policy = o'; slice = l' })
thread_eq a b c d e f g = λ i. record { exists = a i; ready = b i; partition = c i; priority = d i; mask = e i; policy = f i; slice = g i }

module _ (ts : Columns) where
  pub threads_length : length (threads_in ts) ≡ 64
  unfolding threads_in
  threads_length = table_length (thread_in ts) 64

  pub thread_at_law : (t : ℕ) → t < 64 → get_or (threads_in ts) t absent ≡ thread_in ts t
  unfolding threads_in
  thread_at_law t h = table_at (thread_in ts) 64 t absent h

-- a flag stored among flags of 0 and 1
pub plain_put : (l : List ℕ) (t v : ℕ) → length l ≡ 64 → t < 64 → v ≤ 1 → plain l ≡ true → plain (set l t v) ≡ true
unfolding plain
plain_put l t v k h low e = below_all (λ i. leb (get_or (set l t v) i 0) 1) 64 (λ i b. at i b (ℕ_discrete i t))
  where
    at : (i : ℕ) → i < 64 → Dec (i ≡ t) → leb (get_or (set l t v) i 0) 1 ≡ true
    at i b (yes z) = rw (z, get_or-set_same l t v 0 (rw k h)) (le-leb v 1 low)
    at i b (no z) = rw (get_or-set_other l t i v 0 z) (all_below (λ j. leb (get_or l j 0) 1) 64 e i b)

-- ---- a store to the columns is a store to the records

-- a whole record in thread t's place
abbrev pub put_record : Columns → ℕ → Thread → Columns
put_record ts t x =
    columns (set ts.exists t (flag x.exists)) (set ts.ready t (flag x.ready)) (set ts.partitions t x.partition)
    (set ts.priorities t x.priority) (set ts.masks t x.mask) (set ts.policies t x.policy) (set ts.slices t x.slice)

module _ (ts : Columns) (s : Regular ts) (t : ℕ) (h : t < 64) where
  here : (l : List ℕ) (v : ℕ) → length l ≡ 64 → get_or (set l t v) t 0 ≡ v
  here l v k = get_or-set_same l t v 0 (rw k h)

  pub thread_put : (x : Thread) → threads_in (put_record ts t x) ≡ set (threads_in ts) t x
  unfolding threads_in
  thread_put x =
      let z : Sized ts = s.sized in
      table_set (thread_in ts) _ t x h
      (thread_eq (ap (λ (v : ℕ). eqb v 1) (here ts.exists (flag x.exists) z.exists) ∙ flag_on x.exists)
      (ap (λ (v : ℕ). eqb v 1) (here ts.ready (flag x.ready) z.ready) ∙ flag_on x.ready)
      (here ts.partitions x.partition z.partitions) (here ts.priorities x.priority z.priorities) (here ts.masks x.mask z.masks)
      (here ts.policies x.policy z.policies) (here ts.slices x.slice z.slices))
      (λ u k. thread_eq (ap (λ (v : ℕ). eqb v 1) (get_or-set_other ts.exists t u (flag x.exists) 0 k))
      (ap (λ (v : ℕ). eqb v 1) (get_or-set_other ts.ready t u (flag x.ready) 0 k))
      (get_or-set_other ts.partitions t u x.partition 0 k) (get_or-set_other ts.priorities t u x.priority 0 k)
      (get_or-set_other ts.masks t u x.mask 0 k) (get_or-set_other ts.policies t u x.policy 0 k) (get_or-set_other ts.slices t u x.slice 0 k))

  -- one number of it
  pub ready_put : (b : Bool) → threads_in (with_ready_column ts (set ts.ready t (flag b))) ≡ set (threads_in ts) t (with_ready (get_or (threads_in ts) t absent) b)
  unfolding threads_in
  ready_put b =
      rw (table_at (thread_in ts) 64 t absent h) (
      table_set (thread_in ts) _ t _ h
      (thread_eq refl (ap (λ (v : ℕ). eqb v 1) (here ts.ready (flag b) s.sized.ready) ∙ flag_on b) refl refl refl refl refl)
      (λ u k. thread_eq refl (ap (λ (v : ℕ). eqb v 1) (get_or-set_other ts.ready t u (flag b) 0 k)) refl refl refl refl refl))

  -- a thread that becomes ready has a full slice
  pub returned_put : threads_in (with_slice_column (with_ready_column ts (set ts.ready t 1)) (set ts.slices t (slice_for (get_or ts.policies t 0))))
      ≡ set (threads_in ts) t (returned (get_or (threads_in ts) t absent))
  unfolding threads_in
  returned_put =
      let full : ℕ = slice_for (get_or ts.policies t 0) in
      rw (table_at (thread_in ts) 64 t absent h) (
      table_set (thread_in ts) _ t _ h
      (thread_eq refl (ap (λ (v : ℕ). eqb v 1) (here ts.ready 1 s.sized.ready)) refl refl refl refl (here ts.slices full s.sized.slices))
      (λ u k. thread_eq refl (ap (λ (v : ℕ). eqb v 1) (get_or-set_other ts.ready t u 1 0 k)) refl refl refl refl (get_or-set_other ts.slices t u full 0 k)))

  pub priority_put : (v : ℕ) → threads_in (with_priority_column ts (set ts.priorities t v)) ≡ set (threads_in ts) t (with_priority (get_or (threads_in ts) t absent) v)
  unfolding threads_in
  priority_put v =
      rw (table_at (thread_in ts) 64 t absent h) (
      table_set (thread_in ts) _ t _ h
      (thread_eq refl refl refl (here ts.priorities v s.sized.priorities) refl refl refl)
      (λ u k. thread_eq refl refl refl (get_or-set_other ts.priorities t u v 0 k) refl refl refl))

-- the slice alone, whatever the other columns are
pub slice_put : (ts : Columns) → length ts.slices ≡ 64 → (t : ℕ) → t < 64 → (v : ℕ)
    → threads_in (with_slice_column ts (set ts.slices t v)) ≡ set (threads_in ts) t (with_slice (get_or (threads_in ts) t absent) v)
unfolding threads_in
slice_put ts k t h v =
    rw (table_at (thread_in ts) 64 t absent h) (
    table_set (thread_in ts) _ t _ h
    (thread_eq refl refl refl refl refl refl (get_or-set_same ts.slices t v 0 (rw k h)))
    (λ u w. thread_eq refl refl refl refl refl refl (get_or-set_other ts.slices t u v 0 w)))
