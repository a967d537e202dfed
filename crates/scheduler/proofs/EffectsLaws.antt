-- What the steps of an accepted event need, and their result as the model's.
use mathlib.Core.Logic.{◌≢◌}
use mathlib.Core.Path.{◌≡◌, refl, sym, ap, subst, transport, ◌∙◌}
use Prim.Native.Nat.{ℕ, ◌+◌, ◌*◌, ◌≤◌, ◌<◌}
use mathlib.Core.Bool.{Bool, true, cond}
use mathlib.Core.List.{List, [], ◌∷◌, ◌++◌}
use lib.ListN.{length, get_or, take, drop, length-append, length-take, length-drop}
use lib.Seq.{length-take-le}
use lib.Dec.{eqb}
use native.Mathlib.Omega.{arith}
use native.Mathlib.Decide.{ℕ_discrete}
use borrow.Author.Tests.{eq-eqb, ne_eqb}
use Rattle.lists.specs.Lists.{sum, member}
use Rattle.lists.proofs.Tests.{clash}
use Rattle.lists.proofs.Sums.{entry_le}
use Rattle.lists.proofs.Parts.{row_end, part_at}
use Rattle.units.specs.Units.{elapsed_of, next_of}
use Rattle.sheet.specs.Settings.{W, C, need}
use Rattle.sheet.specs.declared.Settings.{Settings}
use Rattle.model.specs.State.{thread, queue_of, idle, wanted, State, Thread}
use Rattle.model.specs.Typed.{Lengths}
use Rattle.model.specs.Event
use Rattle.model.specs.Event.{kind_of, thread_of, stamp_of}
use Rattle.model.specs.Facts.{Settled}
use Rattle.model.specs.Slices.{spent, ends}
use Rattle.model.specs.Step.{Saved, saved, charge, move_slot, to_tail, turned, sliced, ticked, restart, act, apply}
use Rattle.model.specs.Arrays.{Columns, Seen, with_slice_column, Regular, tables_in, with_tables, state_of}
use Rattle.model.specs.declared.Clock.{Clock}
use Rattle.model.specs.declared.StateMut.{StateMut}
use Rattle.model.specs.declared.StateRef.{StateRef}
use Rattle.model.proofs.Bounds.{running_inside, charge_fits, total_fits, next_inside}
use Rattle.model.proofs.Table.{thread_at_law, threads_length}
use Rattle.invariants.proofs.Acts.{act_settled}
use Rattle.invariants.proofs.Kept.{charge_settled, length_charge}
use Rattle.invariants.proofs.Applied.{Left, apply_left}
use Rattle.invariants.proofs.Turns.{none_above, sliced_queue}
use Rattle.event.specs.declared.kinds.Action.{Action}
use Rattle.event.specs.Kinds.{kind_number}
use Rattle.event.specs.Bytes.{bytes_of}
use Rattle.event.specs.declared.Event.{Event}
use Rattle.event.proofs.EventLaws.{known_form}
use Rattle.threads.specs.Turned.{Turning, Turned}
use Rattle.threads.proofs.EntriesLaws.{queue_stored}
use Rattle.threads.proofs.TurnsLaws.{turning_of, spent_idle}
use Rattle.accounts.specs.Kept.{Priced}
use Rattle.accounts.specs.Charged.{payer_of, Pays, Payable, Charged}
use Rattle.accounts.proofs.ChargingLaws.{used_at_law, map_length}
use Rattle.accounts.specs.Lowered as Slots
use Rattle.accounts.specs.Solvency.{WeighedIn, Reweighed}
use Rattle.accounts.specs.Window.{Restarted}
use Rattle.threads.specs.Able.{Able, Acted}
use Rattle.threads.proofs.ActionsLaws.{act_ready}
use Rattle.decision.specs.Keeping as Keeping
use Rattle.decision.specs.Keeping.{KeptIn, Lined}
use Rattle.decision.specs.Upkeep.{HeldBy}
use Rattle.decision.specs.Follow.{Followed, FollowedTurn}
use Rattle.decision.proofs.LeadsLaws.{tail_kept}
use Rattle.decision.proofs.States.{lined, partition_is}
use Rattle.decision.specs.Seen.{queue_seen}
use Rattle.decision.specs.declared.kept.Sets.{Sets}
use Rattle.decision.specs.declared.leads.ReadyQueue.{ReadyQueue}
use Rattle.scheduler.specs.Effects.{Ready, Applied, Ticking, Ticked}

module _ (v : Saved) (b : List ℕ) where
  applied_resume : kind_of b ≡ 7 → restart v (stamp_of b) ≡ apply v b
  unfolding apply
  applied_resume e = rw e

  applied_tick : kind_of b ≡ 1 → ticked (charge v (stamp_of b)) ≡ apply v b
  unfolding apply
  applied_tick e = rw e

  applied_other : (kind_of b ≡ 7 → ⊥) → (kind_of b ≡ 1 → ⊥) → (y : Saved) (r : State) → y ≡ charge v (stamp_of b) → r ≡ act y.state b → saved r y.history ≡ apply v b
  unfolding apply
  applied_other n m y r e f =
      ap (λ (z : State). saved z y.history) f ∙ ap (λ (z : Saved). saved (act z.state b) z.history) e
      ∙ rw (ne_eqb (kind_of b) 7 n, ne_eqb (kind_of b) 1 m)

-- where each total is its row's sum, it is at least what stands in a slot
covered : (w k n : ℕ) (u h : List ℕ) → k < w → n * w ≤ length h
    → ((p : ℕ) → p < n → get_or u p 0 ≡ sum (take w (drop (p * w) h))) → (p : ℕ) → p < n → get_or h (p * w + k) 0 ≤ get_or u p 0
covered w k n u h inside room totals p b =
    let row : List ℕ = take w (drop (p * w) h) in
    let long : k < length row = simp (length-take, length-drop) (omega (arith, row_end p n w b)) in
    omega (arith, totals p b, entry_le row k long, part_at h (p * w) w k inside)

charge_slot : (v : Saved) (stamp : ℕ) → (charge v stamp).state.slot ≡ v.state.slot
unfolding charge
charge_slot v stamp = refl

charge_queued : (v : Saved) (stamp : ℕ) → (charge v stamp).state.queued ≡ v.state.queued
unfolding charge
charge_queued v stamp = refl

charge_running : (v : Saved) (stamp : ℕ) → (charge v stamp).state.running ≡ v.state.running
unfolding charge
charge_running v stamp = refl

charge_wanted : (v : Saved) (stamp : ℕ) → wanted (charge v stamp).state ≡ wanted v.state
unfolding charge
charge_wanted v stamp = refl

move_queued : (v : Saved) → (move_slot v).state.queued ≡ v.state.queued
unfolding move_slot
move_queued v = refl

restart_queued : (v : Saved) (stamp : ℕ) → (restart v stamp).state.queued ≡ v.state.queued
unfolding restart
restart_queued v stamp = refl

module _ {c : Settings} {u : List ℕ} {k : Clock} {ts : Columns} {q h budgets tops firsts : List ℕ} {sets : Sets} {x : Event}
    (g : Ready c u k ts q h budgets tops firsts sets x) where
  abbrev p : List ℕ
  p = ts.partitions

  abbrev s : State
  s = state_of c u k ts q

  abbrev v : Saved
  v = saved s h

  abbrev b : List ℕ
  b = bytes_of x

  abbrev took : ℕ
  took = elapsed_of x.stamp k.stamp

  abbrev settled : Settled s h
  settled = g.accepted.fit.sound.settled

  lengths : Lengths s
  lengths = record { shares = g.shares; used = map_length u ∙ g.sixteen; threads = threads_length ts; queue = g.full }

  pub left : Left v b (apply v b)
  left = apply_left v b lengths g.accepted

  -- ---- the charge, of an event that is no resume

  module _ (no_resume : kind_of b ≢ 7) where
    short : k.since.0 + took ≤ 2 * C c
    short = subst (λ (i : ℕ). k.since.0 + elapsed_of i k.stamp ≤ 2 * C c) (sym g.stamped) (g.accepted.short no_resume)

    pays : k.running ≢ 255 → Pays c u k p h took
    pays on =
        let room = g.accepted.fit.room in
        let (low, inside) = running_inside s h g.accepted.fit.sound on in
        let who : (thread s k.running).partition ≡ payer_of k p = ap (λ (t : Thread). t.partition) (thread_at_law ts k.running low) in
        let a : payer_of k p < c.count = subst (λ (i : ℕ). i < c.count) who inside in
        record {
          running = low;
          sixteen = omega (arith, settled.limits.count_high);
          total = omega (arith, total_fits s h room settled (payer_of k p) took a short, used_at_law u (payer_of k p));
          slot = settled.books.inside;
          number = omega (arith, charge_fits s h room settled (payer_of k p) took a short, settled.limits.tick_high);
          row = omega (arith, row_end (payer_of k p) c.count (W c) a, room);
        }

    pub payable : Payable c u k p h x.stamp
    payable = record { since = omega (arith, short, settled.limits.tick_high); pays = pays }

    charged : Settled (charge v x.stamp).state (charge v x.stamp).history
    charged =
        subst (λ (i : ℕ). Settled (charge v i).state (charge v i).history) (sym g.stamped)
        (charge_settled v b lengths.used g.accepted.fit.room g.accepted.fit.sound (g.accepted.short no_resume))

    charged_room : wanted (charge v x.stamp).state ≤ length (charge v x.stamp).history
    charged_room =
        subst (λ (i : ℕ). wanted (charge v i).state ≤ length (charge v i).history) (sym g.stamped)
        (omega (arith, charge_wanted v (stamp_of b), length_charge v b, g.accepted.fit.room))

    -- ---- a tick

    movable : (u' : List ℕ) (k' : Clock) (h' : List ℕ) → Charged c u k p h u' k' h' x.stamp
        → (k'.slot.0 < W c) × Slots.Covered u' h' (W c) c.count (next_of k'.slot.0 (W c))
    movable u' k' h' d =
        let y : Saved = saved (state_of c u' k' ts q) h' in
        let same : y ≡ charge v x.stamp = d ts q in
        let fine : Settled y.state y.history = subst (λ (z : Saved). Settled z.state z.history) (sym same) charged in
        let room : wanted y.state ≤ length y.history = subst (λ (z : Saved). wanted z.state ≤ length z.history) (sym same) charged_room in
        let inside : k'.slot.0 < W c = fine.books.inside in
        let inside' : next_of k'.slot.0 (W c) < W c = next_inside y.state inside in (
          inside,
          record {
            few = fine.limits.count_high;
            inside = inside';
            rows = room;
            covers = covered (W c) (next_of k'.slot.0 (W c)) c.count u' h' inside' room (λ a l. sym (used_at_law u' a) ∙ fine.books.totals a l);
          },
        )

    pub ticking : Ticking c u k p h x.stamp
    ticking = record { payable = payable; movable = movable }

  -- what is kept, where of it the budgets stay, and who has one above 0
  kept_by : (u' : List ℕ) (k' : Clock) (ts' : Columns) (q' : List ℕ) {budgets' tops' firsts' : List ℕ} {sets' : Sets} → budgets' ≡ budgets → sets'.paying ≡ sets.paying
      → Reweighed u u' budgets (need c) sets.solvent sets'.solvent → KeptIn c.core ts'.partitions ts'.priorities ts'.masks (take k'.queued q') tops' firsts' sets'.competing
      → HeldBy c u' k' ts' q' budgets' tops' firsts' sets'
  kept_by u' k' ts' q' {sets' = sets'} same payers w led = record {
    priced = transport (λ i. Priced c (sym same i) (sym payers i)) g.held.priced;
    led = led;
    weighed = subst (λ (l : List ℕ). WeighedIn u' l (need c) c.count sets'.solvent) (sym same) (w c.count settled.limits.count_high g.held.weighed);
  }

  -- ---- a tick's slice

  pub turning : (length ts.policies ≡ 64) × Turning ts.slices q k.queued k.running
  turning = (g.sizes.sized.policies, turning_of c u k ts q h g.sizes.sized.slices g.full g.accepted.fit.sound)

  module _ (i : kind_of b ≡ 1) (u' : List ℕ) (k' : Clock) (h' : List ℕ) (d : Ticked c u k p h u' k' h' x.stamp) (l' q' : List ℕ)
      (f : Turned ts.policies ts.slices q k.queued l' q' k.running) (long : length l' ≡ 64) where
    abbrev later : Columns
    later = with_slice_column ts l'

    abbrev moved : State
    moved = state_of c u' k' ts q

    same_queued : k'.queued ≡ k.queued
    same_queued = ap (λ (z : Saved). z.state.queued) (d ts q) ∙ move_queued (charge v x.stamp) ∙ charge_queued v x.stamp

    -- the tick of the running thread, after the move to the next slot
    counted_down : state_of c u' k' later q' ≡ sliced moved k.running
    counted_down =
        (λ j. with_tables moved (tables_in later q' (same_queued j)))
        ∙ f ts.exists ts.ready p ts.priorities ts.masks moved
        ∙ (λ j. sliced (with_tables moved (tables_in ts q (sym same_queued j))) k.running)

    tick_state : saved (state_of c u' k' later q') h' ≡ apply v b
    tick_state =
        ap (λ (z : State). saved z h') counted_down
        ∙ ap (λ (z : Saved). saved (sliced z.state k.running) z.history) (d ts q)
        ∙ ap (λ (t : ℕ). saved (sliced (move_slot (charge v x.stamp)).state t) (move_slot (charge v x.stamp)).history) (sym (charge_running v x.stamp))
        ∙ ap (λ (j : ℕ). ticked (charge v j)) g.stamped ∙ applied_tick v b i

    abbrev over : Bool
    over = spent (get_or ts.policies k.running 0) (get_or ts.slices k.running 0)

    -- what the arrays tell of the running thread is its record's
    over_is : ends (thread moved k.running) ≡ over
    unfolding spent
    over_is = go (ℕ_discrete k.running idle)
      where
        go : Dec (k.running ≡ idle) → ends (thread moved k.running) ≡ over
        go (yes e) =
            ap ends (none_above moved k.running (threads_length ts) (omega arith))
            ∙ spent_idle ts.policies (get_or ts.slices k.running 0) k.running g.sizes.sized.policies e
        go (no n) = ap ends (thread_at_law ts k.running (turning.1.inside n))

    tick_line : take k.queued q' ≡ cond over (to_tail (take k.queued q) k.running) (take k.queued q)
    unfolding turned
    tick_line =
        (λ j. take (sym same_queued j) q') ∙ ap queue_of counted_down ∙ sliced_queue moved k.running (threads_length ts)
        ∙ (λ j. cond (over_is j) (to_tail (take (same_queued j) q) k.running) (take (same_queued j) q))

    regular_later : Regular later
    regular_later = record {
      sized = record {
        exists = g.sizes.sized.exists;
        ready = g.sizes.sized.ready;
        partitions = g.sizes.sized.partitions;
        priorities = g.sizes.sized.priorities;
        masks = g.sizes.sized.masks;
        policies = g.sizes.sized.policies;
        slices = long;
      };
      flags = g.sizes.flags;
    }

    pub followed_turn : (ended : Bool) → ended ≡ over
        → FollowedTurn c.core p ts.priorities ts.masks q' k.queued tops firsts sets.competing k.running ended
    followed_turn ended e = record {
      stays = λ f. subst (λ (l : List ℕ). KeptIn c.core p ts.priorities ts.masks l tops firsts sets.competing) (sym (line f)) g.held.led;
      inside = λ t. (there t).0;
      home = home;
      walkable = λ t. subst (λ (j : ℕ). Lined p q' j c.core) same_queued
          (lined c u' k' later q' regular_later h' (subst (λ (z : Saved). Settled z.state z.history) (sym tick_state) left.settled)
          (ap (λ (z : Saved). length z.state.queue) tick_state ∙ left.lengths.queue));
      moved = λ t. subst (λ (l : List ℕ). Keeping.Left c.core p ts.priorities ts.masks l tops firsts sets.competing (get_or p k.running 0) k.running) (sym (line t))
          (tail_kept c.core p ts.priorities ts.masks (take k.queued q) tops firsts sets.competing k.running (turning.1.runs (on t)) (home t) g.held.led);
    }
      where
        line : {z : Bool} → ended ≡ z → take k.queued q' ≡ cond z (to_tail (take k.queued q) k.running) (take k.queued q)
        line f = tick_line ∙ ap (λ (z : Bool). cond z (to_tail (take k.queued q) k.running) (take k.queued q)) (sym e ∙ f)

        -- while idle no slice ends
        on : ended ≡ true → k.running ≢ idle
        on t i = clash (sym e ∙ t) (sym (spent_idle ts.policies (get_or ts.slices k.running 0) k.running g.sizes.sized.policies i))

        there : ended ≡ true → (k.running < 64) × ((thread s k.running).partition < c.count)
        there t = running_inside s h g.accepted.fit.sound (on t)

        home : ended ≡ true → get_or p k.running 0 < 16
        home t = omega (arith, (there t).1, partition_is c u k ts q g.sizes k.running, settled.limits.count_high)

    pub tick_applied : {budgets' tops' firsts' : List ℕ} {sets' : Sets} → budgets' ≡ budgets → sets'.paying ≡ sets.paying
        → Reweighed u u' budgets (need c) sets.solvent sets'.solvent → KeptIn c.core p ts.priorities ts.masks (take k.queued q') tops' firsts' sets'.competing
        → Applied c v u' k' later q' h' budgets' tops' firsts' sets' b
    tick_applied {tops' = tops'} {firsts' = firsts'} {sets' = sets'} same payers w led = record {
      state = tick_state;
      sizes = regular_later;
      held = kept_by u' k' later q' same payers w (subst (λ (j : ℕ). KeptIn c.core p ts.priorities ts.masks (take j q') tops' firsts' sets'.competing) (sym same_queued) led);
    }

  pub resumed : kind_of b ≡ 7 → (u' : List ℕ) (k' : Clock) (h' : List ℕ) {set' : ℕ} → Restarted c u k h u' k' h' x.stamp → WeighedIn u' budgets (need c) c.count set'
      → Applied c v u' k' ts q h' budgets tops firsts (record { paying = sets.paying; competing = sets.competing; solvent = set' }) b
  resumed i u' k' h' d w = record {
    state = d ts q ∙ ap (λ (j : ℕ). restart v j) g.stamped ∙ applied_resume v b i;
    sizes = g.sizes;
    held = record {
      priced = g.held.priced;
      led = subst (λ (j : ℕ). KeptIn c.core p ts.priorities ts.masks (take j q) tops firsts sets.competing) (sym (same_queued)) g.held.led;
      weighed = w;
    };
  }
    where
      same_queued : k'.queued ≡ k.queued
      same_queued = ap (λ (z : Saved). z.state.queued) (d ts q) ∙ restart_queued v x.stamp

  -- ---- the action

  module _ (no_tick : kind_of b ≢ 1) (no_resume : kind_of b ≢ 7) where
    kinds_are : (2 ≤ kind_of b) × (kind_of b ≤ 6)
    kinds_are = let (lo, hi) = known_form b g.accepted.formed in (omega (arith, lo, no_tick), omega (arith, hi, no_resume))

    pub inside : x.thread < 64
    inside = g.accepted.named.thread_inside kinds_are.0 kinds_are.1

    free : kind_of b ≡ Event.ready → k.queued < 64
    free is =
        let z = act_settled s b h lengths.threads g.accepted.named settled in
        let most : length (queue_of s ++ (thread_of b ∷ [])) ≤ 64 = subst (λ (i : State). i.queued ≤ 64) (act_ready s b is) z.stored.few in
        omega (arith, length-append (queue_of s) (thread_of b ∷ []), most, length-take-le k.queued q (omega (arith, settled.stored.few, g.full)))

    -- a ready thread whose priority is set is queued
    waits : kind_of b ≡ Event.set_priority → get_or ts.ready (thread_of b) 0 ≡ 1 → member (thread_of b) (take k.queued q) ≡ true
    waits is on =
        let there : eqb (get_or ts.ready (thread_of b) 0) 1 ≡ member (thread_of b) (queue_of s) =
        ap (λ (t : Thread). t.ready) (sym (thread_at_law ts (thread_of b) inside)) ∙ settled.queue.ready (thread_of b) inside in
        sym there ∙ eq-eqb (get_or ts.ready (thread_of b) 0) 1 on

    pub able : Able ts q k.queued b
    able =
        record {
          thread_inside = g.accepted.named.thread_inside;
          sizes = g.sizes;
          stored = queue_stored q k.queued g.full settled.stored;
          few = settled.stored.few;
          once = settled.queue.once;
          free = free;
          waits = waits;
        }

    abbrev with_queued : Clock → ℕ → Clock
    with_queued j i = record { stamp = j.stamp; slot = j.slot; since = j.since; queued = i; running = j.running }

    module _ (u' : List ℕ) (k' : Clock) (h' : List ℕ) (ts' : Columns) (q' : List ℕ) (i : ℕ) (d : Charged c u k p h u' k' h' x.stamp)
        (a : Acted (tables_in ts q k.queued) (tables_in ts' q' i) b) (sized : Regular ts') where
      worked : saved (state_of c u' (with_queued k' i) ts' q') h' ≡ apply v b
      worked =
          let first = d ts q in
          let y = state_of c u' k' ts q in
          let kept : k.queued ≡ k'.queued = sym (ap (λ (z : Saved). z.state.queued) first ∙ charge_queued v x.stamp) in
          applied_other v b no_resume no_tick (saved y h') (state_of c u' (with_queued k' i) ts' q')
          (first ∙ ap (charge v) g.stamped) (a y ∙ ap (λ (j : ℕ). act (with_tables y (tables_in ts q j)) b) kept)

      pub followed : (y : Action) (t home : ℕ) → x.action ≡ y → t ≡ x.thread → home ≡ get_or p t 0 → Followed c.core ts'.ready ts'.partitions ts'.priorities ts'.masks q' i tops firsts sets.competing y t home
      followed y t home is same there = record {
        before = record { settings = c; totals = u; clock = k; threads = ts; queue = q };
        history = h;
        bytes = b;
        others = ts';
        settled = settled;
        names = g.accepted.named;
        sizes = g.sizes;
        still = sized;
        full = ap (λ (z : Saved). length z.state.queue) worked ∙ left.lengths.queue;
        few = subst (λ (j : ℕ). j ≤ 64) (sym (ap (λ (z : Saved). z.state.queued) worked)) left.settled.stored.few;
        kind = ap kind_number is;
        named = same;
        home = there;
        on = refl;
        threads = ap (λ (z : State). z.threads) (a s);
        line = ap queue_of (a s);
        kept = g.held.led;
      }

      pub applied : {budgets' tops' firsts' : List ℕ} {sets' : Sets} → budgets' ≡ budgets → sets'.paying ≡ sets.paying
          → Reweighed u u' budgets (need c) sets.solvent sets'.solvent → KeptIn c.core ts'.partitions ts'.priorities ts'.masks (take i q') tops' firsts' sets'.competing
          → Applied c v u' (with_queued k' i) ts' q' h' budgets' tops' firsts' sets' b
      applied same payers w led = record { state = worked; sizes = sized; held = kept_by u' (with_queued k' i) ts' q' same payers w led }

-- ---- what a kind is not

pub not_resume : (x : Event) → kind_of (bytes_of x) ≡ 1 → kind_of (bytes_of x) ≢ 7
not_resume x e z = omega (arith, e, z)

-- ---- a queue that was made from what is lent

module _ {x : StateMut} {s : StateRef} (seen : Seen x s) {q : ReadyQueue} {n core : ℕ} (made : q ≡ queue_seen s n core)
    (P : (core : ℕ) (partitions priorities masks queue : List ℕ) (queued : ℕ) → Type 0) where
  same_queue : P core x.partitions.now x.priorities.now x.masks.now x.queue.now n ≡ P q.core q.partitions.now q.priorities.now q.masks.now q.queue.now q.queued
  same_queue =
      (λ i. P core (sym seen.threads i).partitions (sym seen.threads i).priorities (sym seen.threads i).masks (sym seen.queue i) n)
      ∙ (λ i. let y : ReadyQueue = sym made i in P y.core y.partitions.now y.priorities.now y.masks.now y.queue.now y.queued)

  pub to_queue : P core x.partitions.now x.priorities.now x.masks.now x.queue.now n → P q.core q.partitions.now q.priorities.now q.masks.now q.queue.now q.queued
  to_queue = transport same_queue

  pub of_queue : P q.core q.partitions.now q.priorities.now q.masks.now q.queue.now q.queued → P core x.partitions.now x.priorities.now x.masks.now x.queue.now n
  of_queue = transport (sym same_queue)
