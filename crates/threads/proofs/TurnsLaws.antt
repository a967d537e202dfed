-- The tick of the running thread on the arrays as the model's.
use mathlib.Core.Logic.{◌≢◌}
use mathlib.Core.Path.{◌≡◌, sym, ap, ◌∙◌}
use mathlib.Core.Bool.{Bool, true, false, cond}
use Prim.Native.Nat.{ℕ, ◌≤◌, ◌<◌}
use mathlib.Core.List.{List}
use lib.ListN.{length, get_or, set, take, get_or-eq_default}
use lib.Seq.{set_out, set-get_or}
use borrow.Author.Tests.{ne_eqb}
use native.Mathlib.Omega.{arith}
use Rattle.sheet.specs.declared.Settings.{Settings}
use Rattle.model.specs.State.{idle, absent, Thread}
use Rattle.model.specs.Slices.{round_robin, spent, slice_after, counted}
use Rattle.model.specs.Step.{to_tail, turned, sliced}
use Rattle.model.specs.Arrays.{Columns, columns, with_slice_column, threads_in, state_of}
use Rattle.model.specs.Facts.{Sound}
use Rattle.model.specs.declared.Clock.{Clock}
use Rattle.model.proofs.Table.{threads_length, thread_at_law, slice_put}
use Rattle.model.proofs.Slices.{uncounted}
use Rattle.threads.specs.Entries.{queue_in, queue_from, QueueStored}
use Rattle.threads.specs.Turned.{Turning, Turned}
use Rattle.threads.proofs.EntriesLaws.{queue_stored}
use Rattle.threads.proofs.ActionsLaws.{settled}

-- no tick is the last of a slice where a thread has none
pub spent_other : (o l : ℕ) → o ≢ round_robin → false ≡ spent o l
unfolding spent
spent_other o l n = rw (ne_eqb o round_robin n)

module _ (o l q : List ℕ) (k t : ℕ) where
  -- the queue that the model's tick leaves
  abbrev next : List ℕ
  next = cond (spent (get_or o t 0) (get_or l t 0)) (to_tail (take k q) t) (take k q)

  turned_by : (l' q' : List ℕ) → length l ≡ 64 → t < 64 → l' ≡ set l t (slice_after (get_or o t 0) (get_or l t 0)) → queue_in q' k ≡ queue_from next
      → Turned o l q k l' q' t
  unfolding sliced turned
  turned_by l' q' z h a b e r p n m s =
      let ts : Columns = columns e r p n m o l in
      let there : get_or (threads_in ts) t absent ≡ _ = thread_at_law ts t h in
      settled _ _ q' k next (ap (λ (d : List ℕ). threads_in (with_slice_column ts d)) a ∙ slice_put ts z t h (slice_after (get_or o t 0) (get_or l t 0))) b s
      ∙ rw there

  -- while idle nothing changes: no thread 255 exists
  pub turned_idle : QueueStored q k → t ≡ idle → Turned o l q k l q t
  unfolding sliced turned spent
  turned_idle st i e r p n m s = settled _ _ q k (take k q) (sym same) st s ∙ rw none
    where
      ts : List Thread
      ts = threads_in (columns e r p n m o l)

      out : length ts ≤ t
      out = rw (threads_length (columns e r p n m o l)) (omega arith)

      none : get_or ts t absent ≡ absent
      none = get_or-eq_default ts absent {n = t} out

      same : set ts t (counted (get_or ts t absent)) ≡ ts
      same = set_out ts t (counted (get_or ts t absent)) out

  -- before the end of its slice, and at it
  module _ (l' : List ℕ) (z : length l ≡ 64) (h : t < 64) (a : l' ≡ set l t (slice_after (get_or o t 0) (get_or l t 0))) where
    pub turned_stays : QueueStored q k → spent (get_or o t 0) (get_or l t 0) ≡ false → Turned o l q k l' q t
    turned_stays st f = turned_by l' q z h a (st ∙ ap (λ (d : Bool). queue_from (cond d (to_tail (take k q) t) (take k q))) (sym f))

    pub turned_last : (q' : List ℕ) → spent (get_or o t 0) (get_or l t 0) ≡ true → queue_in q' k ≡ queue_from (to_tail (take k q) t) → Turned o l q k l' q' t
    turned_last q' f g = turned_by l' q' z h a (g ∙ ap (λ (d : Bool). queue_from (cond d (to_tail (take k q) t) (take k q))) (sym f))

  -- a thread that is not round robin is not counted
  pub turned_other : length l ≡ 64 → t < 64 → QueueStored q k → get_or o t 0 ≢ round_robin → Turned o l q k l q t
  turned_other z h st n =
      let none : slice_after (get_or o t 0) (get_or l t 0) ≡ get_or l t 0 = uncounted (get_or o t 0) (get_or l t 0) n in
      let same : l ≡ set l t (slice_after (get_or o t 0) (get_or l t 0)) = sym (ap (set l t) none ∙ set-get_or l t 0) in
      turned_by l q z h same (st ∙ ap (λ (d : Bool). queue_from (cond d (to_tail (take k q) t) (take k q))) (spent_other (get_or o t 0) (get_or l t 0) n))

-- while idle no slice ends
pub spent_idle : (o : List ℕ) (l t : ℕ) → length o ≡ 64 → t ≡ idle → false ≡ spent (get_or o t 0) l
spent_idle o l t h i =
    let none : get_or o t 0 ≡ 0 = get_or-eq_default o 0 {n = t} (rw (h, i) (omega arith)) in
    spent_other (get_or o t 0) l (rw none (omega arith))

-- a sound state has what a tick needs
pub turning_of : (c : Settings) (u : List ℕ) (k : Clock) (ts : Columns) (q h : List ℕ) → length ts.slices ≡ 64 → length q ≡ 64
    → Sound (state_of c u k ts q) h → Turning ts.slices q k.queued k.running
turning_of c u k ts q h a b g = record {
  slices = a;
  stored = queue_stored q k.queued b g.settled.stored;
  few = g.settled.stored.few;
  once = g.settled.queue.once;
  inside = λ on. g.settled.queue.inside k.running (g.runs.queued on);
  runs = g.runs.queued;
}
