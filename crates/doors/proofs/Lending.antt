-- What is lent, and the settings and the clock that were read from it: the doors' answers over what is lent.
use mathlib.Core.Logic.{◌≢◌}
use mathlib.Core.Path.{◌≡◌, refl, sym, ap, subst, ◌∙◌}
use Prim.Native.Nat.{ℕ, ◌+◌, ◌*◌, ◌/◌, min}
use Rattle.std.specs.Int.{div_ceil}
use mathlib.Core.Bool.{false}
use mathlib.Core.List.{List, ◌++◌}
use lib.Dec.{eqb}
use lib.ListN.{length, drop}
use Rattle.std.specs.Prelude.{Result, Ok, Err, ⊤}
use Rattle.refusals.specs.Refusals.{number_of, outcome_of}
use Rattle.refusals.specs.declared.Refusal.{Refusal}
use Rattle.refusals.proofs.Laws.{never_zero}
use Rattle.lists.proofs.Tables.{table_length}
use Rattle.lists.proofs.Tests.{clash}
use Rattle.sheet.specs.declared.Settings.{Settings}
use Rattle.model.specs.Answers.{Line, line_of, answer_line}
use Rattle.model.specs.Arrays.{Columns, columns_seen, state_of}
use Rattle.model.specs.Doors.{answer_to, after_run, lines_after, taken_by}
use Rattle.model.specs.Lent.{Lent, lent, lent_settings, lent_clock, words_of, saved_in, refused_arrays, refused_in}
use Rattle.model.specs.Run.{run, after}
use Rattle.model.specs.Step.{Saved, saved, Answer, answer, nothing}
use Rattle.model.specs.Stream.{event_count, events_in, lines_of}
use Rattle.model.specs.declared.Clock.{Clock}
use Rattle.model.specs.declared.Decision.{Decision}
use Rattle.decision.specs.declared.kept.Sets.{Sets}
use Rattle.scheduler.specs.Stepping.{StepAnswered, Same, Still}
use Rattle.scheduler.proofs.SchedulerLaws.{taken_arrays}
use Rattle.model.specs.declared.StateRef.{StateRef}
use Rattle.doors.specs.Doors.{lent_seen, Sizes, Answered, Ran}
use Rattle.doors.specs.Inner.{read_from, Tested, OpenedFrom, opened_from}
use Rattle.doors.specs.declared.opening.Opened.{Opened}

-- no refusal has the number 0
pub not_zero : (r : Refusal) → number_of r ≢ 0
not_zero r z = let w : eqb 0 0 ≡ false = rw z at (never_zero r) in clash refl w

-- ---- settings and clock were read from what is lent, and it was tested

pub opened_seen : (a b k : List ℕ) (s : StateRef) (i : Opened) (n : ℕ) → i ≡ read_from a b k → Tested i s n → OpenedFrom (lent_seen a b k s) i n
opened_seen a b k s i n e t = record {
  opened = e;
  refusal = t.refusal ∙ ap (λ (j : Opened). refused_arrays j.settings s.used.now j.clock (columns_seen s) s.queue.now s.history.now) e;
  room = record { sixteen = t.sixteen; shares = table_length _ 16; sizes = t.sizes; full = t.full };
}

module _ (x : Lent) where
  -- ---- the answers by the model's

  answer_yes : (b : List ℕ) → refused_in x ≡ 0 → answer_to x b ≡ answer (saved_in x) b
  unfolding answer_to
  answer_yes b z = rw z

  answer_no : (b : List ℕ) (r : Refusal) → refused_in x ≡ number_of r → answer_to x b ≡ record { refusal = number_of r; decision = nothing; after = saved_in x }
  unfolding answer_to
  answer_no b r z = rw (z, never_zero r)

  -- ---- what was opened

  pub lengths : {i : Opened} {n : ℕ} → OpenedFrom x i n → Sizes x
  lengths f = record { used = f.room.sixteen; queue = f.room.full }

  pub refused : {i : Opened} (o : Result ⊤ Refusal) (r : Refusal) → OpenedFrom x i (outcome_of o) → o ≡ Err r → refused_in x ≡ number_of r
  refused o r f e = sym f.refusal ∙ ap outcome_of e

  pub taken : {i : Opened} (o : Result ⊤ Refusal) {t : ⊤} → OpenedFrom x i (outcome_of o) → o ≡ Ok t → refused_in x ≡ 0
  taken o f e = sym f.refusal ∙ ap outcome_of e

  -- ---- what is refused

  pub answered_no : {i : Opened} (o : Result ⊤ Refusal) (r : Refusal) → OpenedFrom x i (outcome_of o) → o ≡ Err r → (b : List ℕ) → Answered x b (line_of (Err r)) x
  answered_no o r f e b =
      let z = refused o r f e in
      record {
        line = sym (ap answer_line (answer_no b r z));
        after = sym (ap (λ (y : Answer). y.after) (answer_no b r z));
        taken = λ w. w;
        still = λ _. refl;
        sizes = lengths f;
      }

  pub ran_no : {i : Opened} (o : Result ⊤ Refusal) (r : Refusal) → OpenedFrom x i (outcome_of o) → o ≡ Err r → (events lines : List ℕ) → Ran x events lines (number_of r) x lines
  unfolding after_run lines_after
  ran_no o r f e events lines =
      let z = refused o r f e in
      record {
        refusal = sym z;
        after = rw (z, never_zero r);
        written = rw (z, never_zero r);
        taken = λ w. w;
        still = λ _. refl;
        sizes = lengths f;
      }

  -- ---- what is not refused: u' to h' are left, and the clock k'

  module _ (o : Result ⊤ Refusal) (i : Opened) (f : OpenedFrom x i (outcome_of o)) {t : ⊤} (e : o ≡ Ok t) (u' : List ℕ) (k' : Clock) (ts' : Columns) (q' h' : List ℕ) where
    abbrev before : Opened → Saved
    before j = saved (state_of j.settings x.used j.clock x.threads x.queue) x.history

    -- with the clock's words k
    abbrev left : List ℕ → Lent
    left k = lent x.settings x.shares u' k ts' q' h'

    is_read : i ≡ opened_from x
    is_read = f.opened

    fine : refused_in x ≡ 0
    fine = taken o f e

    -- ---- the event door

    module _ (b : List ℕ) (w : Result Decision Refusal) (budgets tops firsts : List ℕ) (sets : Sets) (favoured : ℕ)
        (a : StepAnswered i.settings (before i) b w u' k' ts' q' h' budgets tops firsts sets favoured)
        (s : Still (before i) b x.used i.clock x.threads x.queue x.history u' k' ts' q' h') where
      stepped : StepAnswered (lent_settings x) (saved_in x) b w u' k' ts' q' h' budgets tops firsts sets favoured
      stepped =
          subst (λ (j : Opened). StepAnswered j.settings (before j) b w u' k' ts' q' h' budgets tops firsts sets favoured) is_read a

      line : line_of w ≡ answer_line (answer_to x b)
      line = stepped.line ∙ sym (ap answer_line (answer_yes b fine))

      after_it : saved (state_of (lent_settings x) u' k' ts' q') h' ≡ (answer_to x b).after
      after_it = stepped.after ∙ sym (ap (λ (y : Answer). y.after) (answer_yes b fine))

      sound_after : refused_arrays (lent_settings x) u' k' ts' q' h' ≡ 0
      sound_after = taken_arrays stepped.whole

      -- the event was accepted, and the clock is stored
      pub answered_yes : (d : Decision) → w ≡ Ok d → (k : List ℕ) → k ≡ words_of k' → Answered x b (line_of (Ok d)) (left k)
      answered_yes d g k is = record {
        line = ap line_of (sym g) ∙ line;
        after = ap (λ (n : List ℕ). saved_in (left n)) is ∙ after_it;
        taken = λ _. ap (λ (n : List ℕ). refused_in (left n)) is ∙ sound_after;
        still = λ n. absurd (n (sym (ap (λ (l : Line). l.refusal) line) ∙ ap (λ (v : Result Decision Refusal). (line_of v).refusal) g));
        sizes = lengths f;
      }

      -- the event was refused
      pub answered_refused : (r : Refusal) → w ≡ Err r → Answered x b (line_of (Err r)) (left x.clock)
      answered_refused r g = record {
        line = ap line_of (sym g) ∙ line;
        after = ap (λ (j : Clock). saved (state_of (lent_settings x) u' j ts' q') h') (sym same.clock) ∙ after_it;
        taken = λ _. ap (λ (j : Clock). refused_arrays (lent_settings x) u' j ts' q' h') (sym same.clock) ∙ sound_after;
        still = λ _. λ j. lent x.settings x.shares (same.totals j) x.clock (same.threads j) (same.queue j) (same.history j);
        sizes = lengths f;
      }
        where
          number : (answer (saved_in x) b).refusal ≡ number_of r
          number = sym (ap (λ (l : Line). l.refusal) stepped.line) ∙ ap (λ (v : Result Decision Refusal). (line_of v).refusal) g

          still_lent : Still (saved_in x) b x.used (lent_clock x) x.threads x.queue x.history u' k' ts' q' h'
          still_lent = subst (λ (j : Opened). Still (before j) b x.used j.clock x.threads x.queue x.history u' k' ts' q' h') is_read s

          same : Same x.used (lent_clock x) x.threads x.queue x.history u' k' ts' q' h'
          same = still_lent (λ z. not_zero r (sym number ∙ z))

    -- ---- the run door

    pub ran_yes : (events lines lines' : List ℕ) (n : ℕ) → saved (state_of i.settings u' k' ts' q') h' ≡ after (before i) (events_in events n)
        → lines' ≡ lines_of (run (before i) (events_in events n)) ++ drop (12 * n) lines
        → refused_arrays i.settings u' k' ts' q' h' ≡ 0
        → n ≡ min (event_count events) (length lines / 12)
        → (k : List ℕ) → k ≡ words_of k' → Ran x events lines 0 (left k) lines'
    unfolding after_run lines_after taken_by
    ran_yes events lines lines' n a l t g k is =
        let a' = subst (λ (j : Opened). saved (state_of j.settings u' k' ts' q') h' ≡ after (before j) (events_in events n)) is_read a in
        let l' = subst (λ (j : Opened). lines' ≡ lines_of (run (before j) (events_in events n)) ++ drop (12 * n) lines) is_read l in
        record {
          refusal = sym fine;
          after = rw (fine, ← g) (ap (λ (w : List ℕ). saved_in (left w)) is ∙ a');
          written = rw (fine, ← g) l';
          taken = λ _. ap (λ (w : List ℕ). refused_in (left w)) is ∙ subst (λ (j : Opened). refused_arrays j.settings u' k' ts' q' h' ≡ 0) is_read t;
          still = λ j. absurd (j fine);
          sizes = lengths f;
        }

-- the same answer, told otherwise
pub answered_as : {x : Lent} {b : List ℕ} {m n : Line} {y : Lent} → m ≡ n → Answered x b n y → Answered x b m y
answered_as {x} {b} {m} {n} {y} e d = subst (λ (i : Line). Answered x b i y) (sym e) d

pub ran_as : {x : Lent} {events lines : List ℕ} {m n : ℕ} {y : Lent} {lines' : List ℕ} → m ≡ n → Ran x events lines n y lines' → Ran x events lines m y lines'
ran_as {x} {events} {lines} {m} {n} {y} {lines'} e d = subst (λ (i : ℕ). Ran x events lines i y lines') (sym e) d
