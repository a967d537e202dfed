-- The answers of a step as the model's, and the invariant after it.
use mathlib.Core.Logic.{◌≢◌}
use mathlib.Core.Path.{◌≡◌, refl, sym, ap, subst, ◌∙◌}
use Prim.Native.Nat.{ℕ, ◌<◌}
use mathlib.Core.Bool.{Bool, true, false, cond}
use mathlib.Core.Option.{Option, none, some}
use mathlib.Core.List.{List}
use lib.ListN.{length, get_or}
use native.Mathlib.Omega.{arith}
use lib.Dec.{eqb}
use borrow.Author.Tests.{eqb-false}
use Rattle.std.specs.Prelude.{Result, Ok, Err}
use Rattle.refusals.specs.Refusals.{number_of, outcome_of}
use Rattle.refusals.specs.declared.Refusal.{Refusal}
use Rattle.refusals.proofs.Laws.{never_zero}
use Rattle.sheet.specs.declared.Settings.{Settings}
use Rattle.model.specs.Answers.{decided_of, line_of, answer_line}
use Rattle.model.specs.Event.{refused_state, refused_event, refused, stamp_of}
use Rattle.model.specs.Facts.{Settled}
use Rattle.model.specs.Arrays.{Columns, Regular, state_of}
use Rattle.model.specs.Lent.{refused_arrays}
use Rattle.model.specs.Policy.{Decided, decide}
use Rattle.model.specs.Step.{Saved, saved, with_running, favoured, settle, apply, answer}
use Rattle.model.specs.State.{thread, idle, State}
use Rattle.model.specs.declared.Clock.{Clock}
use Rattle.model.specs.declared.Decision.{Decision}
use Rattle.model.proofs.Accepted.{fit_of, of_fit, accepted_of_law}
use Rattle.model.proofs.Flags.{as_state}
use Rattle.model.proofs.Table.{threads_length}
use Rattle.invariants.proofs.Answered.{Good, good_answer}
use Rattle.invariants.proofs.Decision.{decide_works}
use Rattle.accounts.proofs.ChargingLaws.{map_length}
use Rattle.event.specs.Bytes.{bytes_of, DecodedFrom}
use Rattle.event.specs.declared.Event.{Event}
use Rattle.admission.specs.Tests.{RefusesAll, AcceptsAs}
use Rattle.decision.specs.Decides.{Favoured}
use Rattle.decision.specs.Upkeep.{HeldBy, works_for, worked_for, DecidesKept}
use Rattle.decision.proofs.States.{partition_is}
use Rattle.decision.proofs.UpkeepLaws as Upkeep
use Rattle.decision.specs.declared.kept.Sets.{Sets}
use Rattle.scheduler.specs.Effects.{Ready, Applied}
use Rattle.scheduler.proofs.EffectsLaws.{left}
use Rattle.scheduler.specs.Stepping.{Whole, StepAnswered}

-- ---- the answers

module _ (s : State) (h b : List ℕ) where
  refused_by_event : refused_state s h ≡ 0 → refused s h b ≡ refused_event s b
  unfolding refused
  refused_by_event e = rw e

  line_no : (r : Refusal) → refused s h b ≡ number_of r → line_of (Err r) ≡ answer_line (answer (saved s h) b)
  unfolding answer
  line_no r e = rw (e, never_zero r)

  after_no : (r : Refusal) → refused s h b ≡ number_of r → saved s h ≡ (answer (saved s h) b).after
  unfolding answer
  after_no r e = rw (e, never_zero r)

  line_yes : refused s h b ≡ 0 → (y : Saved) (d : Decision) → y ≡ apply (saved s h) b → decided_of d ≡ decide y.state (favoured s) → line_of (Ok d) ≡ answer_line (answer (saved s h) b)
  unfolding answer settle
  line_yes e y d f g = rw (e, ← f, ← g)

  after_yes : refused s h b ≡ 0 → (y : Saved) (d : Decision) → y ≡ apply (saved s h) b → decided_of d ≡ decide y.state (favoured s)
      → saved (with_running y.state d.thread) y.history ≡ (answer (saved s h) b).after
  unfolding answer settle
  after_yes e y d f g = rw (e, ← f, ← g)

  answer_zero : refused s h b ≡ 0 → (answer (saved s h) b).refusal ≡ 0
  unfolding answer
  answer_zero e = rw e

module _ {c : Settings} {u : List ℕ} {k : Clock} {ts : Columns} {q h budgets tops firsts : List ℕ} {sets : Sets} {set : ℕ}
    (g : Whole c u k ts q h budgets tops firsts sets set) where
  abbrev s : State
  s = state_of c u k ts q

  abbrev v : Saved
  v = saved s h

  -- what the next door finds
  pub taken_arrays : refused_arrays c u k ts q h ≡ 0
  taken_arrays = as_state c u k ts q h g.sizes.flags ∙ g.taken

  good : Good c v
  good = record {
    fit = fit_of s h g.taken;
    lengths = record { shares = g.shares; used = map_length u ∙ g.sixteen; threads = threads_length ts; queue = g.full };
    settings = refl;
  }

  -- the invariant after an event
  whole_after : (b u' : List ℕ) (k' : Clock) (ts' : Columns) (q' h' budgets' tops' firsts' : List ℕ) (sets' : Sets) (set' : ℕ)
      → saved (state_of c u' k' ts' q') h' ≡ (answer v b).after → Regular ts'
      → HeldBy c u' k' ts' q' budgets' tops' firsts' sets' → Favoured (worked_for ts'.partitions k'.running) set'
      → Whole c u' k' ts' q' h' budgets' tops' firsts' sets' set'
  whole_after b u' k' ts' q' h' budgets' tops' firsts' sets' set' same sized held favours =
      let a : Good c (answer v b).after = good_answer c v b good in
      record {
        sixteen = sym (map_length u') ∙ ap (λ (z : Saved). length z.state.used) same ∙ a.lengths.used;
        shares = g.shares;
        sizes = sized;
        full = ap (λ (z : Saved). length z.state.queue) same ∙ a.lengths.queue;
        taken = subst (λ (z : Saved). refused_state z.state z.history ≡ 0) (sym same) (of_fit _ _ a.fit);
        held = held;
        favours = favours;
      }

  -- ---- an event of the bytes b, as it was decoded and admitted

  module _ {b : List ℕ} {d : Result Event Refusal} (from : DecodedFrom b d) (o : Result Event Refusal) (tested : RefusesAll c k ts.exists ts.ready d o) where
    number : outcome_of o ≡ refused_event s b
    number = tested b from u ts q

    pub no_event : {x : Refusal} → o ≡ Err x → StepAnswered c v b (Err x) u k ts q h budgets tops firsts sets set
    no_event {x} is =
        let z : refused s h b ≡ number_of x = refused_by_event s h b g.taken ∙ sym number ∙ ap outcome_of is in
        record { line = line_no s h b x z; after = after_no s h b x z; whole = g }

    module _ (same : AcceptsAs d o) (x : Event) (yes : o ≡ Ok x) where
      taken : refused s h b ≡ 0
      taken = refused_by_event s h b g.taken ∙ sym number ∙ ap outcome_of yes

      bytes_are : b ≡ bytes_of x
      bytes_are = from.bytes x (same x yes)

      pub taken_event : (refused s h (bytes_of x) ≡ 0) × (x.stamp ≡ stamp_of (bytes_of x))
      taken_event = (ap (refused s h) (sym bytes_are) ∙ taken, from.stamp x (same x yes) ∙ ap stamp_of bytes_are)

      pub taken_still : (answer v b).refusal ≢ 0 → ⊥
      taken_still n = n (answer_zero s h b taken)

  module _ (x : Event) (yes : refused s h (bytes_of x) ≡ 0) (stamped : x.stamp ≡ stamp_of (bytes_of x)) where
    pub ready : Ready c u k ts q h budgets tops firsts sets x
    ready = record {
      sixteen = g.sixteen;
      shares = g.shares;
      sizes = g.sizes;
      full = g.full;
      accepted = accepted_of_law s h (bytes_of x) yes;
      stamped = stamped;
      held = g.held;
    }

    module _ {u' : List ℕ} {k' : Clock} {ts' : Columns} {q' h' budgets' tops' firsts' : List ℕ} {sets' : Sets} (d : Decision)
        (a : Applied c v u' k' ts' q' h' budgets' tops' firsts' sets' (bytes_of x)) (w : DecidesKept c u' budgets' tops' firsts' sets' set d) where
      abbrev y : Saved
      y = saved (state_of c u' k' ts' q') h'

      fine : Settled y.state y.history
      fine = subst (λ (z : Saved). Settled z.state z.history) (sym a.state) (left ready).settled

      -- the decision is that of the model, with the favoured partition of the state that the event found
      same_decision : decided_of d ≡ decide y.state (favoured s)
      same_decision =
          w k' ts' q' h' (worked_for ts.partitions k.running) a.sizes fine a.held g.favours
          ∙ ap (decide y.state) (Upkeep.favoured_is c u k ts q g.sizes)

      -- a thread that it names is one of the partition that it names
      works_for_law : d.thread ≢ idle → (get_or ts'.partitions d.thread 0 ≡ d.partition) × (d.partition < 16)
      works_for_law n =
          let (p, b) = subst (λ (e : Decided). e.thread ≢ idle → ((thread y.state e.thread).partition ≡ e.partition) × (e.partition < c.count))
          (sym same_decision) (decide_works y.state h' fine (favoured s)) n in
          (sym (partition_is c u' k' ts' q' a.sizes d.thread) ∙ p, omega (arith, b, fine.limits.count_high))

      pub decided_inside : d.thread ≢ idle → d.partition < 16
      decided_inside n = (works_for_law n).1

      favours_next : worked_for ts'.partitions d.thread ≡ works_for d.thread d.partition
      favours_next = go (eqb d.thread idle) refl
        where
          go : (z : Bool) → eqb d.thread idle ≡ z → cond z none (some (get_or ts'.partitions d.thread 0)) ≡ cond z none (some d.partition)
          go true e = refl
          go false e = ap some (works_for_law (eqb-false d.thread idle e)).0

      pub decided : (next : ℕ) → Favoured (works_for d.thread d.partition) next
          → StepAnswered c v (bytes_of x) (Ok d) u' (record { stamp = k'.stamp; slot = k'.slot; since = k'.since; queued = k'.queued; running = d.thread })
          ts' q' h' budgets' tops' firsts' sets' next
      decided next f =
          let b = bytes_of x in
          let then = after_yes s h b yes y d a.state same_decision in
          record {
            line = line_yes s h b yes y d a.state same_decision;
            after = then;
            whole = whole_after b u' (record { stamp = k'.stamp; slot = k'.slot; since = k'.since; queued = k'.queued; running = d.thread }) ts' q' h' budgets' tops' firsts' sets' next then a.sizes a.held
                (subst (λ (o : Option ℕ). Favoured o next) (sym favours_next) f);
          }
