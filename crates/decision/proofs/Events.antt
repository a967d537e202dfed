-- What each kind of event does to the queue and the threads' numbers is what the functions of the leads ask for.
use mathlib.Core.Logic.{◌≢◌, ◌⊎◌, inl, inr}
use mathlib.Core.Path.{◌≡◌, refl, sym, ap, subst, ◌∙◌}
use Prim.Native.Nat.{ℕ, ◌≤◌, ◌<◌}
use mathlib.Core.Bool.{true, false, not}
use mathlib.Core.List.{List, [], ◌∷◌, ◌++◌}
use lib.ListN.{get_or, set, take}
use lib.Seq.{get_or-set_same, get_or-set_other, take-append_seam}
use lib.Dec.{eqb}
use native.Mathlib.Omega.{arith}
use native.Mathlib.Decide.{ℕ_discrete}
use borrow.Author.Tests.{eqb-false, not-true, eq-eqb, ne_eqb}
use Rattle.lists.specs.Lists.{member}
use Rattle.lists.proofs.Tests.{clash, both}
use Rattle.lists.proofs.All.{member_keep}
use Rattle.lists.proofs.Loops.{member_here}
use Rattle.model.specs.State.{absent, thread, queue_of, State, Thread}
use Rattle.model.specs.Event.{kind_of, thread_of, partition_of, priority_of, mask_of, policy_of}
use Rattle.model.specs.Step.{with_thread, with_ready, returned, with_priority, created, joins, goes, requeued, reprioritized, leaves, act}
use Rattle.model.specs.Facts.{Settled}
use Rattle.model.specs.Arrays.{Columns, state_of}
use Rattle.model.proofs.Ahead.{requeued_unready, requeued_member}
use Rattle.model.proofs.Table.{threads_length, thread_at_law}
use Rattle.threads.proofs.ActionsLaws as Actions
use Rattle.event.specs.Kinds.{kind_number}
use Rattle.event.specs.declared.kinds.Action.{Action}
use Rattle.event.specs.declared.kinds.Action.TheVariants.{Unknown, Tick, Create, Ready, Block, SetPriority, End, Resume}
use Rattle.decision.specs.Keeping.{KeptIn, Left, Changed, Lined, Joins}
use Rattle.decision.proofs.LeadsLaws.{kept_as, left_kept}
use Rattle.decision.proofs.States.{partition_is, priority_is, mask_is, valid}
use Rattle.decision.specs.Follow.{Before, state_before, with_lent, Followed}

-- what the model's action is for each kind, by the thread's number
module _ (s : State) (b : List ℕ) (t : ℕ) (n : t ≡ thread_of b) where
  act_create : kind_of b ≡ 2 → act s b ≡ with_thread s t (created (partition_of b) (priority_of b) (mask_of b) (policy_of b))
  act_create e = rw n (Actions.act_create s b e)

  act_ready : kind_of b ≡ 3 → act s b ≡ joins s t
  act_ready e = rw n (Actions.act_ready s b e)

  act_block : kind_of b ≡ 4 → act s b ≡ goes s t (with_ready (thread s t) false)
  act_block e = rw n (Actions.act_block s b e)

  act_priority : kind_of b ≡ 5 → act s b ≡ reprioritized s t (priority_of b)
  act_priority e = rw n (Actions.act_priority s b e)

  act_end : kind_of b ≡ 6 → act s b ≡ goes s t absent
  act_end e = rw n (Actions.act_end s b e)

act_tick : (s : State) (b : List ℕ) → kind_of b ≡ 1 → act s b ≡ s
unfolding act
act_tick s b e = rw e

act_resume : (s : State) (b : List ℕ) → kind_of b ≡ 7 → act s b ≡ s
unfolding act
act_resume s b e = rw e

act_unknown : (s : State) (b : List ℕ) → kind_of b ≡ 0 → act s b ≡ s
unfolding act
act_unknown s b e = rw e

module _ {core : ℕ} {r ps ns ms q : List ℕ} {queued : ℕ} {tops firsts : List ℕ} {set₀ : ℕ} {action : Action} {t p : ℕ}
    (h : Followed core r ps ns ms q queued tops firsts set₀ action t p) where
  abbrev o : Before
  o = h.before

  abbrev s₀ : State
  s₀ = state_before o

  abbrev line₀ : List ℕ
  line₀ = queue_of s₀

  abbrev line : List ℕ
  line = take queued q

  -- the threads after, and the state, as far as they go
  abbrev ts : Columns
  ts = with_lent h.others r ps ns ms

  abbrev s : State
  s = state_of o.settings o.totals o.clock ts q

  settled : Settled s₀ h.history
  settled = h.settled

  -- a thread's three numbers are those of before
  abbrev Same : ℕ → Type 0
  Same u = (get_or ps u 0 ≡ get_or o.threads.partitions u 0) × (get_or ns u 0 ≡ get_or o.threads.priorities u 0) × (get_or ms u 0 ≡ get_or o.threads.masks u 0)

  now_in : (u : ℕ) (x : Thread) → thread s u ≡ x → (get_or ps u 0 ≡ x.partition) × (get_or ns u 0 ≡ x.priority) × (get_or ms u 0 ≡ x.mask)
  now_in u x e = (
    sym (partition_is o.settings o.totals o.clock ts q h.still u) ∙ ap (λ (y : Thread). y.partition) e,
    sym (priority_is o.settings o.totals o.clock ts q h.still u) ∙ ap (λ (y : Thread). y.priority) e,
    sym (mask_is o.settings o.totals o.clock ts q h.still u) ∙ ap (λ (y : Thread). y.mask) e,
  )

  was_in : (u : ℕ) → ((thread s₀ u).partition ≡ get_or o.threads.partitions u 0) × ((thread s₀ u).priority ≡ get_or o.threads.priorities u 0) × ((thread s₀ u).mask ≡ get_or o.threads.masks u 0)
  was_in u = (
    partition_is o.settings o.totals o.clock o.threads o.queue h.sizes u,
    priority_is o.settings o.totals o.clock o.threads o.queue h.sizes u,
    mask_is o.settings o.totals o.clock o.threads o.queue h.sizes u,
  )

  same_as : (u : ℕ) → thread s u ≡ thread s₀ u → Same u
  same_as u e =
      let (a, b, c) = now_in u (thread s₀ u) e in
      let (x, y, z) = was_in u in
      (a ∙ x, b ∙ y, c ∙ z)

  module _ (x : Thread) (stored : (act s₀ h.bytes).threads ≡ set s₀.threads t x) where
    others : (u : ℕ) → u ≢ t → Same u
    others u n = same_as u (ap (λ (l : List Thread). get_or l u absent) (h.threads ∙ stored) ∙ get_or-set_other s₀.threads t u x absent n)

    here : t < 64 → thread s t ≡ x
    here b = ap (λ (l : List Thread). get_or l t absent) (h.threads ∙ stored)
        ∙ get_or-set_same s₀.threads t x absent (omega (arith, b, threads_length o.threads))

  inside : 2 ≤ kind_number action → kind_number action ≤ 6 → t < 64
  inside lo hi = rw h.named (h.names.thread_inside (rw h.kind lo) (rw h.kind hi))

  -- a queued thread's partition was a partition's number
  was_valid : (u : ℕ) → member u line₀ ≡ true → get_or o.threads.partitions u 0 < 16
  was_valid u m =
      let b = valid o.settings o.totals o.clock o.threads o.queue h.sizes h.history settled u m in
      omega (arith, b, settled.limits.count_high)

  walkable : ((u : ℕ) → member u line ≡ true → (u < 64) × (get_or ps u 0 < 16)) → Lined ps q queued core
  walkable f = record {
    core_inside = rw h.on settled.limits.core;
    few = h.few;
    full = h.full;
    entries = λ i b. (f (get_or q i 0) (there i b)).0;
    partitions_inside = λ i b. (f (get_or q i 0) (there i b)).1;
  }
    where
      there : (i : ℕ) → i < queued → member (get_or q i 0) line ≡ true
      there i b = member_here q (get_or q i 0) i queued (omega (arith, h.full, h.few, b)) b refl

  -- ---- the thread exists, and its partition is a partition's number

  home_in : 3 ≤ kind_number action → kind_number action ≤ 6 → get_or o.threads.partitions t 0 < 16
  home_in lo hi =
      let exists = h.names.exists (rw h.kind lo) (rw h.kind hi) in
      let b = inside (omega (arith, lo)) hi in
      let e : (thread s₀ t).exists ≡ true = ap (λ (v : ℕ). (thread s₀ v).exists) h.named ∙ exists in
      let low = (settled.proper t b).partition e in
      omega (arith, low, (was_in t).0, settled.limits.count_high)

  -- ---- ready

  module _ (k : action ≡ Ready) where
    kind_ready : kind_number action ≡ 3
    kind_ready = ap kind_number k

    does_ready : act s₀ h.bytes ≡ joins s₀ t
    does_ready = act_ready s₀ h.bytes t h.named (h.kind ∙ kind_ready)

    pub ready_asks : (t < 64) × (core ≤ 7) × (get_or ps t 0 < 16)
    ready_asks =
        let b = inside (omega (arith, kind_ready)) (omega (arith, kind_ready)) in
        let e = now_in t (returned (thread s₀ t)) (here (returned (thread s₀ t)) (ap (λ (y : State). y.threads) does_ready) b) in
        (b, rw h.on settled.limits.core, omega (arith, e.0, (was_in t).0, home_in (omega (arith, kind_ready)) (omega (arith, kind_ready))))

    pub ready_kept : (tops' firsts' : List ℕ) (set' : ℕ) → Joins core ps ns ms t tops firsts set₀ tops' firsts' set' → KeptIn core ps ns ms line tops' firsts' set'
    ready_kept tops' firsts' set' j =
        let x = returned (thread s₀ t) in
        let stored = ap (λ (y : State). y.threads) does_ready in
        let b = inside (omega (arith, kind_ready)) (omega (arith, kind_ready)) in
        let same : (u : ℕ) → member u line₀ ≡ true → Same u = λ u m. at u (ℕ_discrete u t) b in
        let e : line₀ ++ (t ∷ []) ≡ line = sym (h.line ∙ ap queue_of does_ready ∙ take-append_seam (line₀ ++ (t ∷ [])) _) in
        subst (λ (l : List ℕ). KeptIn core ps ns ms l tops' firsts' set') e
        (j line₀ (kept_as core ps ns ms o.threads.partitions o.threads.priorities o.threads.masks line₀ tops firsts set₀ same h.kept))
      where
        at : (u : ℕ) → Dec (u ≡ t) → t < 64 → Same u
        at u (yes e) b =
            let (a, c, d) = now_in t (returned (thread s₀ t)) (here (returned (thread s₀ t)) (ap (λ (y : State). y.threads) does_ready) b) in
            let (x, y, z) = was_in t in
            subst Same (sym e) (a ∙ x, c ∙ y, d ∙ z)
        at u (no n) b = others (returned (thread s₀ t)) (ap (λ (y : State). y.threads) does_ready) u n

  -- ---- block and end

  members_left : (u : ℕ) → member u (leaves line₀ t) ≡ true → (member u line₀ ≡ true) × (not (eqb u t) ≡ true)
  unfolding leaves
  members_left u m = both (member u line₀) (not (eqb u t)) (sym (member_keep (λ v. not (eqb v t)) line₀ u) ∙ m)

  module _ (x : Thread) (lo : 3 ≤ kind_number action) (hi : kind_number action ≤ 6) (does : act s₀ h.bytes ≡ goes s₀ t x) where
    gone_line : leaves line₀ t ≡ line
    gone_line = sym (h.line ∙ ap queue_of does ∙ take-append_seam (leaves line₀ t) _)

    gone_asks : (p < 16) × Lined ps q queued core × Left core ps ns ms line tops firsts set₀ p t
    gone_asks =
        let stored = ap (λ (y : State). y.threads) does in
        let low = home_in lo hi in (
          rw h.home low,
          walkable (λ u m. fits u (subst (λ (l : List ℕ). member u l ≡ true) (sym gone_line) m)),
          subst (λ (l : List ℕ). Left core ps ns ms l tops firsts set₀ p t) gone_line
              (subst (λ (j : ℕ). Left core ps ns ms (leaves line₀ t) tops firsts set₀ j t) (sym h.home)
              (left_kept core ps ns ms o.threads.partitions o.threads.priorities o.threads.masks t (others x stored) line₀ tops firsts set₀ low h.kept)),
        )
      where
        fits : (u : ℕ) → member u (leaves line₀ t) ≡ true → (u < 64) × (get_or ps u 0 < 16)
        fits u m =
            let (i, n) = members_left u m in
            let e = others x (ap (λ (y : State). y.threads) does) u (eqb-false u t (not-true (eqb u t) n)) in
            (settled.queue.inside u i, omega (arith, e.0, was_valid u i))

  does_block : action ≡ Block → act s₀ h.bytes ≡ goes s₀ t (with_ready (thread s₀ t) false)
  does_block k = act_block s₀ h.bytes t h.named (h.kind ∙ ap kind_number k)

  does_end : action ≡ End → act s₀ h.bytes ≡ goes s₀ t absent
  does_end k = act_end s₀ h.bytes t h.named (h.kind ∙ ap kind_number k)

  block_asks : action ≡ Block → (p < 16) × Lined ps q queued core × Left core ps ns ms line tops firsts set₀ p t
  block_asks k = let n : kind_number action ≡ 4 = ap kind_number k in gone_asks (with_ready (thread s₀ t) false) (omega (arith, n)) (omega (arith, n)) (does_block k)

  end_asks : action ≡ End → (p < 16) × Lined ps q queued core × Left core ps ns ms line tops firsts set₀ p t
  end_asks k = let n : kind_number action ≡ 6 = ap kind_number k in gone_asks absent (omega (arith, n)) (omega (arith, n)) (does_end k)

  pub leave_asks : (action ≡ Block) ⊎ (action ≡ End) → (p < 16) × Lined ps q queued core × Left core ps ns ms line tops firsts set₀ p t
  leave_asks (inl k) = block_asks k
  leave_asks (inr k) = end_asks k

  -- ---- a thread outside the queue

  elsewhere : (x : Thread) → (act s₀ h.bytes).threads ≡ set s₀.threads t x → queue_of (act s₀ h.bytes) ≡ line₀ → member t line₀ ≡ false
      → KeptIn core ps ns ms line tops firsts set₀
  elsewhere x stored same n =
      subst (λ (l : List ℕ). KeptIn core ps ns ms l tops firsts set₀) (sym (h.line ∙ same))
      (kept_as core ps ns ms o.threads.partitions o.threads.priorities o.threads.masks line₀ tops firsts set₀
      (λ u m. others x stored u (λ e. clash m (subst (λ (v : ℕ). member v line₀ ≡ false) (sym e) n))) h.kept)

  create_kept : action ≡ Create → KeptIn core ps ns ms line tops firsts set₀
  create_kept k =
      let n : kind_number action ≡ 2 = ap kind_number k in
      let b = inside (omega (arith, n)) (omega (arith, n)) in
      let gone : (thread s₀ t).exists ≡ false = ap (λ (v : ℕ). (thread s₀ v).exists) h.named ∙ h.names.absent (h.kind ∙ n) in
      let none = ap (λ (y : Thread). y.ready) ((settled.proper t b).none gone) in
      let does = act_create s₀ h.bytes t h.named (h.kind ∙ n) in
      elsewhere _ (ap (λ (y : State). y.threads) does) (ap queue_of does) (sym (settled.queue.ready t b) ∙ none)

  -- ---- nothing

  none_kept : act s₀ h.bytes ≡ s₀ → KeptIn core ps ns ms line tops firsts set₀
  none_kept does =
      subst (λ (l : List ℕ). KeptIn core ps ns ms l tops firsts set₀) (sym (h.line ∙ ap queue_of does))
      (kept_as core ps ns ms o.threads.partitions o.threads.priorities o.threads.masks line₀ tops firsts set₀
      (λ u m. same_as u (ap (λ (l : List Thread). get_or l u absent) (h.threads ∙ ap (λ (y : State). y.threads) does))) h.kept)

  tick_kept : action ≡ Tick → KeptIn core ps ns ms line tops firsts set₀
  tick_kept k = none_kept (act_tick s₀ h.bytes (h.kind ∙ ap kind_number k))

  resume_kept : action ≡ Resume → KeptIn core ps ns ms line tops firsts set₀
  resume_kept k = none_kept (act_resume s₀ h.bytes (h.kind ∙ ap kind_number k))

  unknown_kept : action ≡ Unknown → KeptIn core ps ns ms line tops firsts set₀
  unknown_kept k = none_kept (act_unknown s₀ h.bytes (h.kind ∙ ap kind_number k))

  pub quiet_kept : (action ≡ Create) ⊎ ((action ≡ Tick) ⊎ ((action ≡ Resume) ⊎ (action ≡ Unknown))) → KeptIn core ps ns ms line tops firsts set₀
  quiet_kept (inl k) = create_kept k
  quiet_kept (inr (inl k)) = tick_kept k
  quiet_kept (inr (inr (inl k))) = resume_kept k
  quiet_kept (inr (inr (inr k))) = unknown_kept k

  -- ---- a priority

  module _ (k : action ≡ SetPriority) where
    kind_set : kind_number action ≡ 5
    kind_set = ap kind_number k

    abbrev new : Thread
    new = with_priority (thread s₀ t) (priority_of h.bytes)

    does_set : act s₀ h.bytes ≡ reprioritized s₀ t (priority_of h.bytes)
    does_set = act_priority s₀ h.bytes t h.named (h.kind ∙ kind_set)

    stored_set : (act s₀ h.bytes).threads ≡ set s₀.threads t new
    stored_set = ap (λ (y : State). y.threads) does_set

    pub set_inside : t < 64
    set_inside = inside (omega (arith, kind_set)) (omega (arith, kind_set))

    own : thread s t ≡ new
    own = here new stored_set set_inside

    -- the line after it, by the flag and the priority of before
    line_set : queue_of (act s₀ h.bytes) ≡ requeued (thread s₀ t).ready (thread s₀ t).priority (priority_of h.bytes) t line₀
    line_set = ap queue_of does_set ∙ take-append_seam (requeued (thread s₀ t).ready (thread s₀ t).priority (priority_of h.bytes) t line₀) _

    -- the flag says whether it is queued
    flag_was : eqb (get_or r t 0) 1 ≡ (thread s₀ t).ready
    flag_was = sym (ap (λ (y : Thread). y.ready) (thread_at_law ts t set_inside)) ∙ ap (λ (y : Thread). y.ready) own

    flag_is : eqb (get_or r t 0) 1 ≡ member t line₀
    flag_is = flag_was ∙ settled.queue.ready t set_inside

    pub set_outside : get_or r t 0 ≢ 1 → KeptIn core ps ns ms line tops firsts set₀
    set_outside n =
        let off = ne_eqb (get_or r t 0) 1 n in
        elsewhere new stored_set (line_set ∙ requeued_unready _ _ _ t line₀ (sym flag_was ∙ off)) (sym flag_is ∙ off)

    others_set : (u : ℕ) → u ≢ t → Same u
    others_set = others new stored_set

    -- its partition and its mask stay
    placed : (u : ℕ) → (get_or ps u 0 ≡ get_or o.threads.partitions u 0) × (get_or ms u 0 ≡ get_or o.threads.masks u 0)
    placed u = at (ℕ_discrete u t)
      where
        at : Dec (u ≡ t) → (get_or ps u 0 ≡ get_or o.threads.partitions u 0) × (get_or ms u 0 ≡ get_or o.threads.masks u 0)
        at (yes e) =
            let (a, b, c) = now_in t new own in
            let (x, y, z) = was_in t in
            subst (λ (v : ℕ). (get_or ps v 0 ≡ get_or o.threads.partitions v 0) × (get_or ms v 0 ≡ get_or o.threads.masks v 0)) (sym e) (a ∙ x, c ∙ z)
        at (no n) = let (a, b, c) = others_set u n in (a, c)

    module _ (e : get_or r t 0 ≡ 1) where
      on : (thread s₀ t).ready ≡ true
      on = sym flag_was ∙ eq-eqb (get_or r t 0) 1 e

      queued_was : member t line₀ ≡ true
      queued_was = sym flag_is ∙ eq-eqb (get_or r t 0) 1 e

      moved_line : line ≡ requeued true (get_or o.threads.priorities t 0) (get_or ns t 0) t line₀
      moved_line =
          h.line ∙ line_set
          ∙ (λ i. requeued (on i) ((was_in t).1 i) (sym (now_in t new own).1 i) t line₀)

      fits : (u : ℕ) → member u line ≡ true → (u < 64) × (get_or ps u 0 < 16)
      fits u m =
          let m₀ : member u line₀ ≡ true =
          sym (ap (member u) moved_line ∙ requeued_member u t true (get_or o.threads.priorities t 0) (get_or ns t 0) line₀ queued_was) ∙ m in
          (settled.queue.inside u m₀, rw (placed u).0 (was_valid u m₀))

      pub set_asks : (t < 64) × Lined ps q queued core × Changed core ps ns ms line tops firsts set₀ t
      set_asks = (
        set_inside,
        walkable fits,
        record {
          partition = rw (placed t).0 (was_valid t queued_was);
          old = o.threads.priorities;
          old_line = line₀;
          queued = queued_was;
          others = λ u n. (others_set u n).1;
          moved = moved_line;
          kept =
              kept_as core ps o.threads.priorities ms o.threads.partitions o.threads.priorities o.threads.masks line₀ tops firsts set₀
              (λ u m. ((placed u).0, refl, (placed u).1)) h.kept;
        },
      )
