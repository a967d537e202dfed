-- What the model's action is for each kind.
use mathlib.Core.Logic.{◌⊎◌, inl, inr}
use mathlib.Core.Path.{◌≡◌, refl, sym, ap, ◌∙◌}
use Prim.Native.Nat.{ℕ, ◌-◌, ◌≤◌, ◌<◌}
use mathlib.Core.Bool.{true, false, cond}
use mathlib.Core.List.{List, [], ◌∷◌, ◌++◌}
use lib.ListN.{length, get_or, set, take, replicate, length-set}
use native.Mathlib.Omega.{arith}
use lib.Dec.{eqb}
use Rattle.model.specs.State.{absent, thread, State, Thread}
use Rattle.model.specs.Event.{kind_of, thread_of, partition_of, priority_of, mask_of, policy_of, known}
use Rattle.model.specs.Slices.{slice_for}
use Rattle.model.specs.Step.{with_thread, with_ready, returned, with_priority, created, joins, goes, leaves, requeued, reprioritized, act}
use Rattle.lists.proofs.Tests.{both}
use Rattle.model.specs.Arrays.{flag, plain, Columns, with_ready_column, with_priority_column, with_slice_column, threads_in, Sized, Regular, Tables, with_tables}
use Rattle.model.proofs.Table.{thread_at_law, plain_put, put_record, flag_low, returned_put}
use Rattle.threads.specs.Entries.{queue_in, queue_from}
use Rattle.threads.specs.Able.{Acted}
use Rattle.event.specs.declared.kinds.Action.{Action}
use Rattle.event.specs.declared.kinds.Action.TheVariants.{Unknown, Tick, Create, Ready, Block, SetPriority, End, Resume}
use Rattle.event.specs.Kinds.{kind_number}

module _ (s : State) (b : List ℕ) where
  pub act_create : kind_of b ≡ 2 → act s b ≡ with_thread s (thread_of b) (created (partition_of b) (priority_of b) (mask_of b) (policy_of b))
  unfolding act
  act_create e = rw e

  pub act_ready : kind_of b ≡ 3 → act s b ≡ joins s (thread_of b)
  unfolding act
  act_ready e = rw e

  pub act_block : kind_of b ≡ 4 → act s b ≡ goes s (thread_of b) (with_ready (thread s (thread_of b)) false)
  unfolding act
  act_block e = rw e

  pub act_priority : kind_of b ≡ 5 → act s b ≡ reprioritized s (thread_of b) (priority_of b)
  unfolding act
  act_priority e = rw e

  pub act_end : kind_of b ≡ 6 → act s b ≡ goes s (thread_of b) absent
  unfolding act
  act_end e = rw e

  pub act_none : kind_of b ≡ 0 ⊎ (kind_of b ≡ 1 ⊎ kind_of b ≡ 7) → act s b ≡ s
  unfolding act
  act_none (inl e) = rw e
  act_none (inr (inl e)) = rw e
  act_none (inr (inr e)) = rw e

-- ---- the same of the threads and the queue alone

-- a state with these threads and the queue of this list
pub settled : (ts ts' : List Thread) (q : List ℕ) (k : ℕ) (l : List ℕ) → ts ≡ ts' → queue_in q k ≡ queue_from l → (s : State)
    → with_tables s (record { threads = ts; queue = q; queued = k }) ≡ with_tables s (record { threads = ts'; queue = l ++ replicate (64 - length l) 0; queued = length l })
unfolding queue_from
settled ts ts' q k l e f s = λ i. with_tables s (record { threads = e i; queue = (f i).entries; queued = (f i).length })

module _ (old : Tables) (b : List ℕ) (ts : List Thread) where
  abbrev record_of : Thread
  record_of = get_or old.threads (thread_of b) absent

  pub acted_create : kind_of b ≡ 2 → ts ≡ set old.threads (thread_of b) (created (partition_of b) (priority_of b) (mask_of b) (policy_of b))
      → Acted old (record { threads = ts; queue = old.queue; queued = old.queued }) b
  acted_create k e s = (λ i. with_tables s (record { threads = e i; queue = old.queue; queued = old.queued })) ∙ sym (act_create (with_tables s old) b k)

  pub acted_priority : (q : List ℕ) (n : ℕ) → kind_of b ≡ 5 → ts ≡ set old.threads (thread_of b) (with_priority record_of (priority_of b))
      → queue_in q n ≡ queue_from (requeued record_of.ready record_of.priority (priority_of b) (thread_of b) (take old.queued old.queue))
      → Acted old (record { threads = ts; queue = q; queued = n }) b
  acted_priority q n k e f s = settled ts _ q n _ e f s ∙ sym (act_priority (with_tables s old) b k)

  pub acted_ready : (q : List ℕ) (n : ℕ) → kind_of b ≡ 3 → ts ≡ set old.threads (thread_of b) (returned record_of)
      → queue_in q n ≡ queue_from (take old.queued old.queue ++ (thread_of b ∷ [])) → Acted old (record { threads = ts; queue = q; queued = n }) b
  acted_ready q n k e f s = settled ts _ q n _ e f s ∙ sym (act_ready (with_tables s old) b k)

  pub acted_block : (q : List ℕ) (n : ℕ) → kind_of b ≡ 4 → ts ≡ set old.threads (thread_of b) (with_ready record_of false)
      → queue_in q n ≡ queue_from (leaves (take old.queued old.queue) (thread_of b)) → Acted old (record { threads = ts; queue = q; queued = n }) b
  acted_block q n k e f s = settled ts _ q n _ e f s ∙ sym (act_block (with_tables s old) b k)

  pub acted_end : (q : List ℕ) (n : ℕ) → kind_of b ≡ 6 → ts ≡ set old.threads (thread_of b) absent
      → queue_in q n ≡ queue_from (leaves (take old.queued old.queue) (thread_of b)) → Acted old (record { threads = ts; queue = q; queued = n }) b
  acted_end q n k e f s = settled ts _ q n _ e f s ∙ sym (act_end (with_tables s old) b k)

-- the record's readiness and priority are the numbers in the arrays
pub place_of : (ts : Columns) (t v : ℕ) (q : List ℕ) → t < 64
    → requeued (eqb (get_or ts.ready t 0) 1) (get_or ts.priorities t 0) v t q
    ≡ requeued (get_or (threads_in ts) t absent).ready (get_or (threads_in ts) t absent).priority v t q
place_of ts t v q h = ap (λ (x : Thread). requeued x.ready x.priority v t q) (sym (thread_at_law ts t h))

-- ---- the columns keep their lengths, and flags stay flags

module _ (ts : Columns) (s : Regular ts) (t : ℕ) (h : t < 64) where
  flags : (plain ts.exists ≡ true) × (plain ts.ready ≡ true)
  flags = both (plain ts.exists) (plain ts.ready) s.flags

  pub regular_all : (x : Thread) → Regular (put_record ts t x)
  regular_all x =
      let z : Sized ts = s.sized in
      record {
        sized = record {
          exists = length-set ts.exists t (flag x.exists) ∙ z.exists;
          ready = length-set ts.ready t (flag x.ready) ∙ z.ready;
          partitions = length-set ts.partitions t x.partition ∙ z.partitions;
          priorities = length-set ts.priorities t x.priority ∙ z.priorities;
          masks = length-set ts.masks t x.mask ∙ z.masks;
          policies = length-set ts.policies t x.policy ∙ z.policies;
          slices = length-set ts.slices t x.slice ∙ z.slices;
        };
        flags = rw (
          plain_put ts.exists t (flag x.exists) z.exists h (flag_low x.exists) flags.0,
          plain_put ts.ready t (flag x.ready) z.ready h (flag_low x.ready) flags.1,
        );
      }

  pub regular_ready : (r' : List ℕ) (v : ℕ) → v ≤ 1 → r' ≡ set ts.ready t v → Regular (with_ready_column ts r')
  regular_ready r' v x i =
      let z : Sized ts = s.sized in
      record {
        sized = record {
          exists = z.exists;
          ready = ap length i ∙ length-set ts.ready t v ∙ z.ready;
          partitions = z.partitions;
          priorities = z.priorities;
          masks = z.masks;
          policies = z.policies;
          slices = z.slices;
        };
        flags = rw (i, flags.0, plain_put ts.ready t v z.ready h x flags.1);
      }

  -- one that becomes ready, with a full slice
  module _ (r' l' : List ℕ) (i : r' ≡ set ts.ready t 1) (j : l' ≡ set ts.slices t (slice_for (get_or ts.policies t 0))) where
    pub joined : threads_in (with_slice_column (with_ready_column ts r') l') ≡ set (threads_in ts) t (returned (get_or (threads_in ts) t absent))
    joined = (λ k. threads_in (with_slice_column (with_ready_column ts (i k)) (j k))) ∙ returned_put ts s t h

    pub regular_joined : Regular (with_slice_column (with_ready_column ts r') l')
    regular_joined =
        let g : Regular (with_ready_column ts r') = regular_ready r' 1 (omega arith) i in
        let z : Sized (with_ready_column ts r') = g.sized in
        record {
          sized = record {
            exists = z.exists;
            ready = z.ready;
            partitions = z.partitions;
            priorities = z.priorities;
            masks = z.masks;
            policies = z.policies;
            slices = ap length j ∙ length-set ts.slices t (slice_for (get_or ts.policies t 0)) ∙ z.slices;
          };
          flags = g.flags;
        }

  pub regular_priority : (n' : List ℕ) (v : ℕ) → n' ≡ set ts.priorities t v → Regular (with_priority_column ts n')
  regular_priority n' v i =
      let z : Sized ts = s.sized in
      record {
        sized = record {
          exists = z.exists;
          ready = z.ready;
          partitions = z.partitions;
          priorities = ap length i ∙ length-set ts.priorities t v ∙ z.priorities;
          masks = z.masks;
          policies = z.policies;
          slices = z.slices;
        };
        flags = s.flags;
      }

-- ---- an action's own number

pub own_kind : (a : Action) → kind_number a ≡ cond (known (kind_number a)) (kind_number a) 0
unfolding known
own_kind Unknown = refl
own_kind Tick = refl
own_kind Create = refl
own_kind Ready = refl
own_kind Block = refl
own_kind SetPriority = refl
own_kind End = refl
own_kind Resume = refl
