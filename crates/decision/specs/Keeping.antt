-- The invariant of the leads, over the arrays that stand for the threads and the line of queued threads; what holds of it while it is restored.
use Rattle.std.specs.Prelude.{◌≢◌, ◌≡◌, ℕ, ◌≤◌, ◌<◌, true, false, List, [], ◌∷◌, ◌++◌, length, get_or, take}
use Rattle.lists.specs.Lists.{member}
use Rattle.sets.specs.Bits.{in_set}
use Rattle.model.specs.Step.{requeued}
use Rattle.decision.specs.Leads.{lead_of, any_of, level_of, tops_of, firsts_of, numbers, runnable}
use Rattle.decision.specs.declared.leads.Lead.{Lead}
use Rattle.decision.specs.declared.leads.ReadyQueue.{ReadyQueue}

-- the numbers at p are the lead of the threads l with the priorities f
pub record Right (f : ℕ → ℕ) (l tops firsts : List ℕ) (set p : ℕ) : Type 0 where
  pub top : get_or tops p 0 ≡ level_of f l
  pub thread : get_or firsts p 0 ≡ lead_of f l
  pub competes : in_set set p ≡ any_of l

-- the same of partition p, on a core, of the line
abbrev pub RightAt : ℕ → List ℕ → List ℕ → List ℕ → List ℕ → List ℕ → List ℕ → ℕ → ℕ → Type 0
RightAt core partitions priorities masks line tops firsts set p =
    Right (numbers priorities) (runnable core partitions masks p line) tops firsts set p

-- every partition's are
pub record KeptIn (core : ℕ) (partitions priorities masks line tops firsts : List ℕ) (set : ℕ) : Type 0 where
  pub wide : length tops ≡ 16
  pub long : length firsts ≡ 16
  pub right : (p : ℕ) → p < 16 → RightAt core partitions priorities masks line tops firsts set p

-- all but those of the partitions in a set; of these no thread is above the number in tops
pub record Stale (core : ℕ) (partitions priorities masks line tops firsts : List ℕ) (set stale : ℕ) : Type 0 where
  pub wide : length tops ≡ 16
  pub long : length firsts ≡ 16
  pub right : (p : ℕ) → p < 16 → in_set stale p ≡ false → RightAt core partitions priorities masks line tops firsts set p
  pub below : (p : ℕ) → p < 16 → in_set stale p ≡ true → level_of (numbers priorities) (runnable core partitions masks p line) ≤ get_or tops p 0

-- after thread t of partition p left its place in the line
pub record Left (core : ℕ) (partitions priorities masks line tops firsts : List ℕ) (set p t : ℕ) : Type 0 where
  pub wide : length tops ≡ 16
  pub long : length firsts ≡ 16
  pub others : (q : ℕ) → q < 16 → q ≢ p → RightAt core partitions priorities masks line tops firsts set q
  pub same : get_or firsts p 0 ≢ t → RightAt core partitions priorities masks line tops firsts set p
  pub below : level_of (numbers priorities) (runnable core partitions masks p line) ≤ get_or tops p 0

-- after the priority of the queued thread t changed, and it went where that puts it: they were right with the old priorities and the old line
pub record Changed (core : ℕ) (partitions priorities masks line tops firsts : List ℕ) (set t : ℕ) : Type 0 where
  pub partition : get_or partitions t 0 < 16
  pub old : List ℕ
  pub old_line : List ℕ
  pub queued : member t old_line ≡ true
  pub others : (u : ℕ) → u ≢ t → get_or priorities u 0 ≡ get_or old u 0
  pub moved : line ≡ requeued true (get_or old t 0) (get_or priorities t 0) t old_line
  pub kept : KeptIn core partitions old masks old_line tops firsts set

-- what a walk along the queue needs: its entries are thread numbers, and their partitions partition numbers
pub record Lined (partitions queue : List ℕ) (queued core : ℕ) : Type 0 where
  pub core_inside : core ≤ 7
  pub few : queued ≤ 64
  pub full : length queue ≡ 64
  pub entries : (i : ℕ) → i < queued → get_or queue i 0 < 64
  pub partitions_inside : (i : ℕ) → i < queued → get_or partitions (get_or queue i 0) 0 < 16

-- whatever the line was, with t at its tail the leads are right again
abbrev pub Joins : ℕ → List ℕ → List ℕ → List ℕ → ℕ → List ℕ → List ℕ → ℕ → List ℕ → List ℕ → ℕ → Type 0
Joins core partitions priorities masks t tops firsts set tops' firsts' set' =
    (line : List ℕ) → KeptIn core partitions priorities masks line tops firsts set → KeptIn core partitions priorities masks (line ++ (t ∷ [])) tops' firsts' set'

-- ---- the same over the leads as they are kept, and the queue with its threads as it is lent

abbrev pub KeptOf : ReadyQueue → List Lead → ℕ → Type 0
KeptOf q leads set = KeptIn q.core q.partitions.now q.priorities.now q.masks.now (take q.queued q.queue.now) (tops_of leads) (firsts_of leads) set

abbrev pub StaleOf : ReadyQueue → List Lead → ℕ → ℕ → Type 0
StaleOf q leads set stale = Stale q.core q.partitions.now q.priorities.now q.masks.now (take q.queued q.queue.now) (tops_of leads) (firsts_of leads) set stale

abbrev pub LeftOf : ReadyQueue → List Lead → ℕ → ℕ → ℕ → Type 0
LeftOf q leads set p t = Left q.core q.partitions.now q.priorities.now q.masks.now (take q.queued q.queue.now) (tops_of leads) (firsts_of leads) set p t

abbrev pub ChangedOf : ReadyQueue → List Lead → ℕ → ℕ → Type 0
ChangedOf q leads set t = Changed q.core q.partitions.now q.priorities.now q.masks.now (take q.queued q.queue.now) (tops_of leads) (firsts_of leads) set t

abbrev pub LinedOf : ReadyQueue → Type 0
LinedOf q = Lined q.partitions.now q.queue.now q.queued q.core

abbrev pub JoinsOf : ReadyQueue → ℕ → List Lead → ℕ → List Lead → ℕ → Type 0
JoinsOf q t leads set leads' set' =
    Joins q.core q.partitions.now q.priorities.now q.masks.now t (tops_of leads) (firsts_of leads) set (tops_of leads') (firsts_of leads') set'
