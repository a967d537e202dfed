-- DEMAND 2, THE ACCOUNT: after a fresh start and any list of events, state, history and answers are what the sheet and the accepted events say.
use mathlib.Core.Logic.{◌≢◌}
use mathlib.Core.Path.{◌≡◌, refl, sym, ap, subst, ◌∙◌}
use Prim.Native.Nat.{ℕ, suc, ◌+◌, ◌-◌, ◌*◌, ◌%◌, ◌≤◌, ◌<◌}
use mathlib.Core.Bool.{Bool, true, false, not, cond, ◌||◌}
use mathlib.Core.Option.{Option, none, some}
use mathlib.Core.List.{List, [], ◌∷◌, ◌++◌, map, reverse_aux}
use lib.ListN.{length, get_or, drop, replicate, length-drop, length-replicate, get_or-replicate, get_or-eq_default}
use lib.Seq.{ext_get_or, length-take-le, drop_at}
use lib.Dec.{eqb}
use borrow.Author.Tests.{eqb-true, ne_eqb}
use native.Mathlib.Omega.{arith}
use native.Mathlib.Decide.{dec_lt}
use native.Mathlib.Nat.{zero-mod, suc-mod, mod-lt}
use Rattle.lists.specs.Lists.{below, any, sum, cons_if, keep}
use Rattle.lists.proofs.Tests.{clash}
use Rattle.lists.proofs.Tables.{table_length, table_at, zeros_after}
use Rattle.lists.proofs.Parts.{row_of, row_get}
use Rattle.units.specs.Units.{elapsed_of}
use Rattle.units.specs.declared.Cycles.{Cycles}
use Rattle.sheet.specs.Settings.{W, Limits}
use Rattle.sheet.specs.Sheet.{settings_of}
use Rattle.sheet.specs.declared.Settings.{Settings}
use Rattle.model.specs.State.{cycles, absent, thread, queue_of, used, Thread, State}
use Rattle.model.specs.Policy.{Decided, decide}
use Rattle.model.specs.Event
use Rattle.model.specs.Event.{kind_of, stamp_of, elapsed_at}
use Rattle.model.specs.Step.{Saved, Answer, billed, favoured, charge, move_slot, sliced, act, settle, restart, apply, answer}
use Rattle.model.specs.Run.{Entry, run, fresh_state, fresh, after}
use Rattle.model.specs.Doors.{refused_start}
use Rattle.model.specs.Facts.{Settled}
use Rattle.guarantee.specs.Demand3 as demand
use Rattle.guarantee.specs.Demand3.{Last, charge_of}
use Rattle.guarantee.specs.Ledger.{add_first, ledger, accepted_of}
use Rattle.guarantee.specs.Account.{record_by, record_from, queue_by, queue_after, standing_by, standing, stamp_from, elapsed_from, since_from, ticks_from, slot_from, picture, decision_of, charge_by, periods_by, periods_from, used_from, favoured_from, favoured_after, decision_from, decisions_from, age_of, Accounted, Account, Answers}
use Rattle.invariants.specs.Promises.{idle_decision}
use Rattle.invariants.specs.Charges.{part_of}
use Rattle.guarantee.specs.Scheduler.{HistoryMoved}
use Rattle.guarantee.proofs.Window.{newest_le_sum, window}
use Rattle.invariants.proofs.Books.{share_outside}
use Rattle.invariants.proofs.Acts.{act_since}
use Rattle.invariants.proofs.Kept.{billed_inside}
use Rattle.invariants.proofs.Applied.{Left, after_event, apply_cases, after_left}
use Rattle.invariants.proofs.Answered.{Good, accepts, answer_accepted, answer_refused, accepted, good_settle}
use Rattle.guarantee.proofs.Instance.{kind_for, rows, good_slot, good_row, good_moved}
use Rattle.invariants.proofs.Decision.{idle_exactly}
use Rattle.invariants.proofs.Fresh.{start_of, start_good}
use Rattle.guarantee.proofs.Log.{accepted_is}
use Rattle.guarantee.proofs.Agrees.{Agrees, agrees, decision_is, charge_is}
use Rattle.guarantee.proofs.Periods.{filled}
use Rattle.guarantee.proofs.Ledgers.{newest_first, ledger_is}
use Rattle.guarantee.proofs.Totals.{used_is, fresh_row}
use Rattle.invariants.proofs.Zeros.{zeros_length}
use Rattle.invariants.proofs.Looks.{decide_kept, decide_same}
use Rattle.invariants.proofs.Ties.{decide_again}
use Rattle.guarantee.proofs.Ages.{window_at, period_at}
use Rattle.guarantee.proofs.Told.{after_record, after_queue}

-- what the account says of the last accepted event
abbrev last_from : Settings → List (List ℕ) → Last
last_from c es = record { stamp = stamp_from es; mode = (decision_from c es).mode; partition = (decision_from c es).partition }

-- ---- the decision, from what it looks at

-- the threads, the queue and the charges are those of the account
record View (c : Settings) (es : List (List ℕ)) (v : Saved) : Type 0 where
  pub good : Good c v
  pub threads : (t : ℕ) → thread v.state t ≡ record_from c es t
  pub queue : queue_of v.state ≡ queue_after c es
  pub window : (p : ℕ) → p < c.count → newest_first c p v ≡ filled (W c) (periods_from c es p)
  pub outside : (p : ℕ) → c.count ≤ p → sum (periods_from c es p) ≡ 0

module _ (c : Settings) (es : List (List ℕ)) (v : Saved) (m : View c es v) where
  abbrev s : State
  s = v.state

  k : Settled s v.history
  k = m.good.fit.sound.settled

  total_is : (p : ℕ) → used s p ≡ used_from c es p
  total_is p = go (dec_lt p c.count) (dec_lt p 16)
    where
      go : Dec (p < c.count) → Dec (p < 16) → used s p ≡ used_from c es p
      go (yes i) z = used_is c p i v (periods_from c es p) m.good (m.window p i)
      go (no i) (yes z) =
          let none : used s p ≡ 0 = k.rest.no_total p z (subst (λ (d : Settings). d.count ≤ p) (sym m.good.settings) (omega arith)) in
          omega (arith, newest_le_sum (W c) (periods_from c es p), m.outside p (omega arith))
      go (no i) (no z) =
          let none : used s p ≡ 0 = ap (λ (x : Cycles). x.0) (get_or-eq_default s.used (cycles 0) {n = p} (rw m.good.lengths.used (omega arith))) in
          omega (arith, newest_le_sum (W c) (periods_from c es p), m.outside p (omega arith))

  queued_is : s.queued ≡ length (queue_after c es)
  queued_is = sym (length-take-le s.queued s.queue (rw m.good.lengths.queue k.stored.few)) ∙ ap length m.queue

  stored_is : s.queue ≡ queue_after c es ++ replicate (64 - length (queue_after c es)) 0
  stored_is =
      zeros_after s.queue s.queued 64 m.good.lengths.queue k.stored.few k.stored.zeros
      ∙ ap (λ (q : List ℕ). q ++ replicate (64 - length q) 0) m.queue

  abbrev totals : ℕ → Cycles
  totals = λ p. cycles (used_from c es p)

  decided : decide s (favoured_from c es) ≡ decision_from c es
  unfolding decision_of
  decided = decide_same s (picture c (record_from c es) (queue_after c es) (used_from c es)) (favoured_from c es) m.good.settings
      (ext_get_or (cycles 0) s.used (map totals (below 16)) (m.good.lengths.used ∙ sym (table_length totals 16))
      (λ p b. ap cycles (total_is p) ∙ sym (table_at totals 16 p (cycles 0) (rw m.good.lengths.used at b))))
      (ext_get_or absent s.threads (map (record_from c es) (below 64)) (m.good.lengths.threads ∙ sym (table_length (record_from c es) 64))
      (λ t b. m.threads t ∙ sym (table_at (record_from c es) 64 t absent (rw m.good.lengths.threads at b))))
      stored_is queued_is

  -- once its thread runs: what the decision door answers
  decided_again : billed s ≡ favoured_after (decision_from c es) → decide s (favoured s) ≡ decision_from c es
  decided_again e =
      let f : Option ℕ = favoured_from c es in
      decide_again s f (favoured s) (e ∙ ap favoured_after (sym decided) ∙ sym (decision_is s v.history k f)) ∙ decided

-- ---- the charges of the account

module _ (e : List ℕ) (x : ℕ) where
  added_some : (ys : List ℕ) → 0 < length ys → 0 < length (add_first x ys)
  added_some [] h = h
  added_some (y ∷ ys) h = omega arith

  by_some : (ys : List ℕ) → 0 < length ys → 0 < length (periods_by e x ys)
  unfolding periods_by
  by_some ys h = go (eqb (kind_of e) Event.resume) refl (eqb (kind_of e) Event.tick) refl
    where
      go : (y : Bool) → eqb (kind_of e) Event.resume ≡ y → (z : Bool) → eqb (kind_of e) Event.tick ≡ z → 0 < length (periods_by e x ys)
      go true q z r = rw (periods_by, q) (omega arith)
      go false q true r = rw (periods_by, q, r) (omega arith)
      go false q false r = rw (periods_by, q, r) (added_some ys h)

  added_sum : (ys : List ℕ) → sum (add_first x ys) ≤ sum ys + x
  added_sum [] = omega arith
  added_sum (y ∷ ys) = omega arith

  by_sum : (ys : List ℕ) → sum (periods_by e x ys) ≤ sum ys + x
  unfolding periods_by
  by_sum ys = go (eqb (kind_of e) Event.resume) refl (eqb (kind_of e) Event.tick) refl
    where
      go : (y : Bool) → eqb (kind_of e) Event.resume ≡ y → (z : Bool) → eqb (kind_of e) Event.tick ≡ z → sum (periods_by e x ys) ≤ sum ys + x
      go true q z r = rw (periods_by, q) (omega arith)
      go false q true r = rw (periods_by, q, r) (omega (arith, added_sum ys))
      go false q false r = rw (periods_by, q, r) (added_sum ys)

periods_some : (c : Settings) (es : List (List ℕ)) (p : ℕ) → 0 < length (periods_from c es p)
unfolding standing standing_by
periods_some c [] p = omega arith
periods_some c (e ∷ es) p = by_some e _ (periods_from c es p) (periods_some c es p)

-- ---- state and history are those of the account

record Matches (c : Settings) (lent : List ℕ) (es : List (List ℕ)) (v : Saved) : Type 0 where
  pub view : View c es v
  pub last : Agrees (last_from c es) v
  pub since : v.state.since.0 ≡ since_from es
  pub slot : v.state.slot.0 ≡ slot_from c es
  pub past : drop (c.count * W c) v.history ≡ drop (c.count * W c) lent
  pub size : length v.history ≡ length lent
  pub running : v.state.running ≡ (decision_from c es).thread

module _ (c : Settings) (lent : List ℕ) (es : List (List ℕ)) (v : Saved) (m : Matches c lent es v) where
  limits : Limits c
  limits = subst Limits m.view.good.settings m.view.good.fit.sound.settled.limits

  accounted : Accounted c lent es v
  accounted = record {
    settings = m.view.good.settings;
    threads = m.view.threads;
    queue = m.view.queue;
    stamp = sym m.last.stamp;
    since = m.since;
    slot = m.slot;
    totals = total_is c es v m.view;
    history = λ p k i j. number p k i j;
    past = m.past;
    size = m.size;
    decision = decided_again c es v m.view m.last.runs;
    running = m.running;
  }
    where
      number : (p k : ℕ) → p < c.count → k < W c → get_or v.history (p * W c + k) 0 ≡ get_or (periods_from c es p) (age_of c es k) 0
      number p k i j =
          let slot : ℕ = v.state.slot.0 in
          let row : List ℕ = row_of (W c) v.history p in
          sym (row_get (W c) v.history p k j)
          ∙ sym (window_at (W c) row (good_row c v m.view.good p i) slot k (good_slot c v m.view.good) j)
          ∙ ap (λ (n : ℕ). get_or (window slot row) ((n + W c - k) % W c) 0) m.slot
          ∙ ap (λ (l : List ℕ). get_or l (age_of c es k) 0) (m.view.window p i)
          ∙ period_at (W c) (age_of c es k) (periods_from c es p) (mod-lt (slot_from c es + W c - k) (omega arith))

  -- ---- an event that is accepted
  module _ (b : List ℕ) (ok : accepts v b ≡ true) where
    abbrev v' : Saved
    v' = after_event v b

    abbrev entry : Entry
    entry = record { event = b; answer = answer v b }

    taken : demand.accepted entry ≡ true
    taken = accepted_is v entry refl ∙ ok

    after_is : (answer v b).after ≡ v'
    after_is = ap (λ (x : Answer). x.after) (answer_accepted v b ok)

    charged_is : (p : ℕ) → charge_by (decision_from c es) p (elapsed_from es b) ≡ part_of (billed v.state) p (elapsed_at v.state b)
    unfolding charge_by charge_of
    charged_is p = charge_is p (last_from c es) v entry m.last

    window_after : (p : ℕ) → p < c.count → newest_first c p v' ≡ filled (W c) (periods_from c (b ∷ es) p)
    unfolding ledger periods_by standing standing_by charge_by charge_of
    window_after p i =
        ap (newest_first c p) (sym after_is)
        ∙ ledger_is c p i (entry ∷ []) v (last_from c es) ys m.view.good (refl, tt) m.last (periods_some c es p) (m.view.window p i)
        ∙ ap (λ (z : Bool). filled (W c) (cond (not z) ys next)) taken
      where
        ys : List ℕ
        ys = periods_from c es p

        x : ℕ
        x = charge_by (decision_from c es) p (elapsed_from es b)

        next : List ℕ
        next = cond (eqb (kind_of b) Event.resume) (0 ∷ []) (cond (eqb (kind_of b) Event.tick) (0 ∷ add_first x ys) (add_first x ys))

    outside_after : (p : ℕ) → c.count ≤ p → sum (periods_from c (b ∷ es) p) ≡ 0
    unfolding standing standing_by
    outside_after p out = omega (arith, by_sum b x (periods_from c es p), nothing, m.view.outside p out)
      where
        x : ℕ
        x = charge_by (decision_from c es) p (elapsed_from es b)

        inside : (r : ℕ) → billed v.state ≡ some r → r < c.count
        inside = subst (λ (d : Settings). (r : ℕ) → billed v.state ≡ some r → r < d.count) m.view.good.settings
            (billed_inside v.state v.history m.view.good.fit.sound)

        nothing : x ≡ 0
        nothing = charged_is p ∙ share_outside c.count (billed v.state) p (elapsed_at v.state b) inside out

    -- the thread that ran until now
    abbrev ran : ℕ
    ran = (decision_from c es).thread

    view_after : View c (b ∷ es) v'
    unfolding standing standing_by
    view_after = record {
      good = good_settle c v b m.view.good ok;
      threads = λ t.
          after_record c v m.view.good b (accepted v b ok) t
          ∙ ap (λ (n : ℕ). record_by b n t (thread v.state t)) m.running
          ∙ ap (λ (r : Thread). record_by b ran t r) (m.view.threads t);
      queue =
          after_queue c v m.view.good b (accepted v b ok)
          ∙ ap (λ (n : ℕ). queue_by b n (thread v.state) (queue_of v.state)) m.running
          ∙ (λ i. queue_by b ran (λ (t : ℕ). m.view.threads t i) (m.view.queue i));
      window = window_after;
      outside = outside_after;
    }

    decided_after : decide (apply v b).state (favoured v.state) ≡ decision_from c (b ∷ es)
    unfolding standing standing_by
    decided_after =
        let f : Option ℕ = favoured v.state in
        sym (decide_kept f (apply v b) f) ∙ ap (decide v'.state) m.last.runs ∙ decided c (b ∷ es) v' view_after

    answered : (answer v b).decision ≡ decision_from c (b ∷ es)
    answered = ap (λ (x : Answer). x.decision) (answer_accepted v b ok) ∙ decided_after

    last_after : Agrees (last_from c (b ∷ es)) v'
    unfolding stamp_from
    last_after = subst (λ (x : Saved). Agrees (last_from c (b ∷ es)) x) after_is
        (subst (λ (d : Decided). Agrees (record { stamp = stamp_of b; mode = d.mode; partition = d.partition }) (answer v b).after) answered
        (agrees c v m.view.good entry refl taken))

    since_after : v'.state.since.0 ≡ since_from (b ∷ es)
    unfolding since_from settle restart charge move_slot sliced
    since_after = apply_cases v b (λ x. (settle (favoured v.state) x).state.since.0 ≡ since_from (b ∷ es)) (λ q. rw q) (λ q. rw q) (λ n t. longer n t)
      where
        untimed : (n : ℕ) → kind_of b ≢ Event.resume → kind_of b ≢ Event.tick → n ≡ cond (eqb (kind_of b) Event.tick || eqb (kind_of b) Event.resume) 0 n
        untimed n a t = rw (ne_eqb (kind_of b) Event.tick t, ne_eqb (kind_of b) Event.resume a)

        longer : kind_of b ≢ Event.resume → kind_of b ≢ Event.tick → (act (charge v (stamp_of b)).state b).since.0 ≡ since_from (b ∷ es)
        longer a t =
            act_since (charge v (stamp_of b)).state b
            ∙ ap (λ (n : ℕ). n + elapsed_of (stamp_of b) v.state.stamp) m.since
            ∙ ap (λ (n : ℕ). since_from es + elapsed_of (stamp_of b) n) (sym m.last.stamp)
            ∙ untimed (since_from es + elapsed_from es b) a t

    resumed_slot : kind_of b ≡ Event.resume → v'.state.slot.0 ≡ 0
    unfolding settle restart
    resumed_slot k = apply_cases v b (λ x. (settle (favoured v.state) x).state.slot.0 ≡ 0) (λ q. refl) (λ q. let z : ⊥ = omega arith in absurd z) (λ n t. absurd (n k))

    slot_after : v'.state.slot.0 ≡ slot_from c (b ∷ es)
    unfolding ticks_from
    slot_after = go (eqb (kind_of b) Event.resume) refl (eqb (kind_of b) Event.tick) refl
      where
        first : HistoryMoved (W c) (rows (W c)) (kind_for (kind_of b)) v v' 0 (part_of (billed v.state) 0 (elapsed_at v.state b))
        first = good_moved c v b m.view.good 0 (omega (arith, limits.count_low))

        go : (y : Bool) → eqb (kind_of b) Event.resume ≡ y → (z : Bool) → eqb (kind_of b) Event.tick ≡ z
            → v'.state.slot.0 ≡ cond y 0 (cond z (suc (ticks_from es)) (ticks_from es)) % W c
        go true q z r = resumed_slot (eqb-true _ _ q) ∙ sym (zero-mod (W c))
        go false q true r = first.by_tick_slot (rw r) ∙ ap (λ (n : ℕ). suc n % W c) m.slot ∙ sym (suc-mod (ticks_from es) (W c))
        go false q false r = first.by_other_slot (rw (r, q)) ∙ m.slot

    running_after : v'.state.running ≡ (decision_from c (b ∷ es)).thread
    unfolding settle
    running_after = ap (λ (d : Decided). d.thread) decided_after

    matches_after : Matches c lent (b ∷ es) (answer v b).after
    matches_after = subst (λ (x : Saved). Matches c lent (b ∷ es) x) (sym after_is) (record {
      view = view_after;
      last = last_after;
      since = since_after;
      slot = slot_after;
      past = subst (λ (d : Settings). drop (d.count * W d) v'.history ≡ drop (d.count * W d) v.history) m.view.good.settings left.past ∙ m.past;
      size = left.size ∙ m.size;
      running = running_after;
    })
      where
        left : Left v b v'
        left = after_left v b m.view.good.lengths (accepted v b ok)

  -- one that is refused
  matches_kept : (b : List ℕ) → accepts v b ≡ false → Matches c lent es (answer v b).after
  matches_kept b no_entry = subst (λ (x : Saved). Matches c lent es x) (sym (answer_refused v b no_entry)) m

-- ---- a fresh start

module _ (sheet h : List ℕ) (e : refused_start sheet h ≡ 0) where
  abbrev c₀ : Settings
  c₀ = settings_of sheet

  view_fresh : View c₀ [] (fresh c₀ h)
  unfolding standing
  view_fresh = record {
    good = start_good sheet h e;
    threads = λ t. none_there t (dec_lt t 64);
    queue = refl;
    window = λ p i. fresh_row c₀ h p (start_of sheet h e).0 i;
    outside = λ p out. refl;
  }
    where
      none_there : (t : ℕ) → Dec (t < 64) → get_or (replicate 64 absent) t absent ≡ absent
      none_there t (yes i) = get_or-replicate 64 t absent absent i
      none_there t (no i) = get_or-eq_default (replicate 64 absent) absent {n = t} (omega arith)

  idle_fresh : decision_from c₀ [] ≡ idle_decision
  unfolding any
  idle_fresh =
      sym (decided c₀ [] (fresh c₀ h) view_fresh)
      ∙ (idle_exactly (fresh_state c₀) (fresh c₀ h).history (start_good sheet h e).fit.sound.settled (favoured_from c₀ [])).when (λ t a. clash a.queued refl)

  matches_fresh : Matches c₀ h [] (fresh c₀ h)
  unfolding stamp_from since_from ticks_from billed
  matches_fresh = record {
    view = view_fresh;
    last = record { stamp = refl; runs = subst (λ (d : Decided). none ≡ cond (eqb d.mode 0) none (some d.partition)) (sym idle_fresh) refl };
    since = refl;
    slot = sym (zero-mod (W c₀));
    past = drop_at (replicate (c₀.count * W c₀) 0) (drop (c₀.count * W c₀) h) (c₀.count * W c₀) (length-replicate (c₀.count * W c₀) 0);
    size = zeros_length c₀.count (W c₀) (drop (c₀.count * W c₀) h) ∙ rest;
    running = ap (λ (d : Decided). d.thread) (sym idle_fresh);
  }
    where
      rest : c₀.count * W c₀ + length (drop (c₀.count * W c₀) h) ≡ length h
      rest = rw (length-drop (c₀.count * W c₀) h) (omega (arith, (start_of sheet h e).1))

-- ---- a list of events

module _ (c : Settings) (lent : List ℕ) where
  matches_run : (bs : List (List ℕ)) (v : Saved) (es : List (List ℕ)) → Matches c lent es v → Matches c lent (reverse_aux (accepted_of v bs) es) (after v bs)
  unfolding accepted_of run keep after
  matches_run [] v es m = m
  matches_run (b ∷ bs) v es m = go (demand.accepted entry₀) refl (λ w fs n. matches_run bs w fs n)
    where
      entry₀ : Entry
      entry₀ = record { event = b; answer = answer v b }

      go : (z : Bool) → demand.accepted entry₀ ≡ z
          → ((w : Saved) (fs : List (List ℕ)) → Matches c lent fs w → Matches c lent (reverse_aux (accepted_of w bs) fs) (after w bs))
          → Matches c lent (reverse_aux (map (λ e. e.event) (cons_if z entry₀ (keep demand.accepted (run (answer v b).after bs)))) es) (after (answer v b).after bs)
      go true q ih = ih (answer v b).after (b ∷ es) (matches_after c lent es v m b (sym (accepted_is v entry₀ refl) ∙ q))
      go false q ih = ih (answer v b).after es (matches_kept c lent es v m b (sym (accepted_is v entry₀ refl) ∙ q))

  decisions_run : (bs : List (List ℕ)) (v : Saved) (es : List (List ℕ)) → Matches c lent es v
      → map (λ e. e.answer.decision) (keep demand.accepted (run v bs)) ≡ decisions_from c es (accepted_of v bs)
  unfolding accepted_of run keep decisions_from
  decisions_run [] v es m = refl
  decisions_run (b ∷ bs) v es m = go (demand.accepted entry₀) refl (λ w fs n. decisions_run bs w fs n)
    where
      entry₀ : Entry
      entry₀ = record { event = b; answer = answer v b }

      later : List Entry
      later = keep demand.accepted (run (answer v b).after bs)

      go : (z : Bool) → demand.accepted entry₀ ≡ z
          → ((w : Saved) (fs : List (List ℕ)) → Matches c lent fs w
          → map (λ e. e.answer.decision) (keep demand.accepted (run w bs)) ≡ decisions_from c fs (accepted_of w bs))
          → map (λ e. e.answer.decision) (cons_if z entry₀ later) ≡ decisions_from c es (map (λ e. e.event) (cons_if z entry₀ later))
      go true q ih =
          let ok : accepts v b ≡ true = sym (accepted_is v entry₀ refl) ∙ q in
          ap (λ (d : Decided). d ∷ map (λ e. e.answer.decision) later) (answered c lent es v m b ok)
          ∙ ap (λ (l : List Decided). decision_from c (b ∷ es) ∷ l) (ih (answer v b).after (b ∷ es) (matches_after c lent es v m b ok))
      go false q ih = ih (answer v b).after es (matches_kept c lent es v m b (sym (accepted_is v entry₀ refl) ∙ q))

-- THE ACCOUNT
pub account : Account
account sheet h e events = accounted (settings_of sheet) h _ _ (matches_run (settings_of sheet) h events (fresh (settings_of sheet) h) [] (matches_fresh sheet h e))

-- THE ANSWERS
pub answers : Answers
answers sheet h e events = decisions_run (settings_of sheet) h events (fresh (settings_of sheet) h) [] (matches_fresh sheet h e)
