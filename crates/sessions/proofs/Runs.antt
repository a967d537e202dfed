-- A run of many events does what calls of the event door do, one for each record that it takes.
use mathlib.Core.Logic.{◌≢◌}
use mathlib.Core.Path.{◌≡◌, refl, sym, ap, ap₂, subst, ◌∙◌}
use Prim.Native.Nat.{ℕ, zero, suc, ◌*◌}
use mathlib.Core.Bool.{Bool, true, false}
use mathlib.Core.List.{List, [], ◌∷◌, ◌++◌, map}
use lib.ListN.{length, get_or, drop, length-map}
use lib.Dec.{eqb, leb}
use lib.Seq.{ext_get_or}
use borrow.Author.Tests.{ne_eqb}
use native.Mathlib.Decide.{ℕ_discrete}
use Rattle.lists.specs.Lists.{below}
use Rattle.lists.proofs.Tests.{clash, and}
use Rattle.lists.proofs.All.{below_all}
use Rattle.lists.proofs.Tables.{table_length, table_at}
use Rattle.units.specs.declared.Cycles.{Cycles}
use Rattle.model.specs.State.{cycles, absent, Thread}
use Rattle.model.specs.Arrays.{flag, Columns, columns, thread_in, threads_in, plain}
use Rattle.model.specs.Typed.{Lengths}
use Rattle.model.specs.Event.{refused_state}
use Rattle.model.specs.Step.{Saved, Answer, answer}
use Rattle.model.specs.Run.{run, after}
use Rattle.model.specs.Answers.{answer_line, text_of}
use Rattle.model.specs.Lent as Lent
use Rattle.model.specs.Lent.{Lent, lent, lent_clock, state_in, saved_in, refused_in}
use Rattle.model.specs.Stream.{events_in, lines_of}
use Rattle.model.specs.Doors.{taken_by, answer_to, after_run, lines_after}
use Rattle.model.proofs.Accepted.{fit_of, of_fit}
use Rattle.model.proofs.Flags.{as_state}
use Rattle.model.proofs.Table.{flag_on}
use Rattle.invariants.proofs.Answered.{Good, answer_refused, refusal_tells, good_answer}
use Rattle.doors.specs.Doors.{Sizes, Answered, Ran}
use Rattle.sessions.specs.Calls.{Call, Calls, left_by, given_to, as_entries, call_lines, taken_of, AsCalls, RunIsCalls}
use Rattle.sessions.proofs.Calls.{answer_yes, answer_no, lengths, not_refused, calls_are_run}

-- ---- every state can be lent: arrays that stand for it

abbrev number : (Thread → ℕ) → List Thread → List ℕ
number f ts = map f ts

abbrev columns_of : List Thread → Columns
columns_of l =
    columns (number (λ t. flag t.exists) l) (number (λ t. flag t.ready) l) (number (λ t. t.partition) l) (number (λ t. t.priority) l)
    (number (λ t. t.mask) l) (number (λ t. t.policy) l) (number (λ t. t.slice) l)

-- settings as in x
abbrev stored : Lent → Saved → Lent
stored x v =
    let s = v.state in
    lent x.settings x.shares (map (λ c. c.0) s.used) (s.stamp ∷ s.slot.0 ∷ s.since.0 ∷ s.queued ∷ s.running ∷ [])
    (columns_of s.threads) s.queue v.history

used_back : (l : List Cycles) → map cycles (map (λ c. c.0) l) ≡ l
used_back [] = refl
used_back (x ∷ l) = ap (λ (k : List Cycles). x ∷ k) (used_back l)

number_at : (f : Thread → ℕ) → f absent ≡ 0 → (ts : List Thread) (i : ℕ) → get_or (number f ts) i 0 ≡ f (get_or ts i absent)
number_at f z [] i = sym z
number_at f z (t ∷ ts) zero = refl
number_at f z (t ∷ ts) (suc i) = number_at f z ts i

module _ (l : List Thread) (h : length l ≡ 64) where
  thread_back : (i : ℕ) → thread_in (columns_of l) i ≡ get_or l i absent
  thread_back i = λ j. record {
    exists = (ap (λ (k : ℕ). eqb k 1) (number_at (λ t. flag t.exists) refl l i) ∙ flag_on (get_or l i absent).exists) j;
    ready = (ap (λ (k : ℕ). eqb k 1) (number_at (λ t. flag t.ready) refl l i) ∙ flag_on (get_or l i absent).ready) j;
    partition = number_at (λ t. t.partition) refl l i j;
    priority = number_at (λ t. t.priority) refl l i j;
    mask = number_at (λ t. t.mask) refl l i j;
    policy = number_at (λ t. t.policy) refl l i j;
    slice = number_at (λ t. t.slice) refl l i j;
  }

  threads_back : threads_in (columns_of l) ≡ l
  unfolding threads_in
  threads_back =
      ext_get_or absent _ l (table_length (thread_in (columns_of l)) 64 ∙ sym h) (λ i b.
      table_at (thread_in (columns_of l)) 64 i absent (rw (table_length (thread_in (columns_of l)) 64) at b) ∙ thread_back i)

flags_plain : (f : Thread → Bool) → f absent ≡ false → (ts : List Thread) → plain (number (λ t. flag (f t)) ts) ≡ true
unfolding plain
flags_plain f z ts = below_all (λ i. leb (get_or (number (λ t. flag (f t)) ts) i 0) 1) 64 (λ i b. rw (number_at (λ t. flag (f t)) (ap flag z) ts i) (one (f (get_or ts i absent))))
  where
    one : (b : Bool) → leb (flag b) 1 ≡ true
    one true = refl
    one false = refl

stored_back : (x : Lent) (v : Saved) → Lengths v.state → v.state.settings ≡ Lent.lent_settings x → saved_in (stored x v) ≡ v
stored_back x v l e = λ i. record {
  state = record {
    settings = sym e i;
    used = used_back v.state.used i;
    stamp = v.state.stamp;
    slot = v.state.slot;
    since = v.state.since;
    threads = threads_back v.state.threads l.threads i;
    queue = v.state.queue;
    queued = v.state.queued;
    running = v.state.running;
  };
  history = v.history;
}

kept_after : (v : Saved) (b : List ℕ) → (answer v b).refusal ≢ 0 → (answer v b).after ≡ v
kept_after v b n = answer_refused v b (sym (refusal_tells v b) ∙ ne_eqb _ _ n)

abbrev is_empty : List (List ℕ) → Bool
is_empty [] = true
is_empty (_ ∷ _) = false

no_cons : {b : List ℕ} {bs : List (List ℕ)} → b ∷ bs ≡ [] → ⊥
no_cons e = clash (ap is_empty e) refl

pub no_events : (bytes : List ℕ) → events_in bytes 0 ≡ []
unfolding below
no_events bytes = refl

-- ---- every event has an answer that the contract of `event` allows

answer_there : (x : Lent) → Sizes x → (b : List ℕ) → (y : Lent) × Answered x b (answer_line (answer_to x b)) y × Sizes y
answer_there x s b = go (ℕ_discrete (refused_in x) 0)
  where
    go : Dec (refused_in x ≡ 0) → (y : Lent) × Answered x b (answer_line (answer_to x b)) y × Sizes y
    go (no n) = (
      x,
      record { line = refl; after = sym (ap (λ (a : Answer). a.after) (answer_no x b n)); taken = λ z. z; still = λ _. refl; sizes = s },
      s,
    )
    go (yes z) = accepts (ℕ_discrete (answer_to x b).refusal 0)
      where
        good : Good (Lent.lent_settings x) (answer (saved_in x) b).after
        good =
            good_answer (Lent.lent_settings x) (saved_in x) b
            (record { fit = fit_of (state_in x) x.history (not_refused x z); lengths = lengths x s; settings = refl })

        v : Saved
        v = (answer (saved_in x) b).after

        back : saved_in (stored x v) ≡ v
        back = stored_back x v good.lengths good.settings

        sizes : Sizes (stored x v)
        sizes = record { used = length-map v.state.used (λ c. c.0) ∙ good.lengths.used; queue = good.lengths.queue }

        fine : refused_in (stored x v) ≡ 0
        fine =
            as_state (Lent.lent_settings x) (stored x v).used (lent_clock (stored x v)) (stored x v).threads (stored x v).queue v.history
            (and (flags_plain (λ t. t.exists) refl v.state.threads) (flags_plain (λ t. t.ready) refl v.state.threads))
            ∙ subst (λ (w : Saved). refused_state w.state w.history ≡ 0) (sym back) (of_fit v.state v.history good.fit)

        accepts : Dec ((answer_to x b).refusal ≡ 0) → (y : Lent) × Answered x b (answer_line (answer_to x b)) y × Sizes y
        accepts (yes a) = (
          stored x v,
          record { line = refl; after = back ∙ sym (ap (λ (w : Answer). w.after) (answer_yes x b z)); taken = λ _. fine; still = λ k. absurd (k a); sizes = s },
          sizes,
        )
        accepts (no a) = (x, record { line = refl; after = sym (refused_after a); taken = λ k. k; still = λ _. refl; sizes = s }, s)
          where
            refused_after : (answer_to x b).refusal ≢ 0 → (answer_to x b).after ≡ saved_in x
            refused_after k = ap (λ (w : Answer). w.after) (answer_yes x b z) ∙ kept_after (saved_in x) b (λ i. k (ap (λ (w : Answer). w.refusal) (answer_yes x b z) ∙ i))

pub calls_there : (x : Lent) → Sizes x → (bs : List (List ℕ)) → (calls : List Call) × Calls x calls × (given_to calls ≡ bs)
calls_there x s [] = ([], tt, refl)
calls_there x s (b ∷ bs) =
    let (y, q, s') = answer_there x s b in
    let (cs, qs, e) = calls_there y s' bs in
    (record { bytes = b; line = answer_line (answer_to x b); left = y } ∷ cs, (q, qs), ap (λ (l : List (List ℕ)). b ∷ l) e)

-- ---- a run is calls

lines_are : (cs : List Call) → call_lines cs ≡ lines_of (as_entries cs)
unfolding lines_of
lines_are [] = refl
lines_are (c ∷ cs) = ap (λ (l : List ℕ). text_of c.line ++ l) (lines_are cs)

module _ (x : Lent) (events out : List ℕ) (i : ℕ) (y : Lent) (out' : List ℕ) (d : Ran x events out i y out') where
  as_calls : (calls : List Call) → Calls x calls → given_to calls ≡ events_in events (taken_of i events out) → AsCalls x events out i y out' calls
  unfolding after_run lines_after
  as_calls calls q e = go (ℕ_discrete (refused_in x) 0)
    where
      v : Saved
      v = saved_in x

      go : Dec (refused_in x ≡ 0) → AsCalls x events out i y out' calls
      go (yes z) =
          let n = taken_by events (length out) in
          let zero_is : i ≡ 0 = d.refusal ∙ z in
          let some : taken_of i events out ≡ n = rw zero_is refl in
          let is = (calls_are_run x calls q z).0 in
          let given : given_to calls ≡ events_in events n = e ∙ ap (events_in events) some in
          let state : saved_in y ≡ after v (events_in events n) = rw z at d.after in
          let written : out' ≡ lines_of (run v (events_in events n)) ++ drop (12 * n) out = rw z at d.written in
          record {
            called = q;
            records = e;
            left = is.left ∙ ap (after v) given ∙ sym state;
            lines = written ∙ ap₂ (λ (a b : List ℕ). a ++ b) (sym (lines_are calls ∙ ap lines_of (is.entries ∙ ap (run v) given))) (ap (λ (k : ℕ). drop (12 * k) out) (sym some));
          }
      go (no k) =
          let none : taken_of i events out ≡ 0 = rw (d.refusal, ne_eqb (refused_in x) 0 k) refl in
          let empty : given_to calls ≡ [] = e ∙ ap (events_in events) none ∙ no_events events in
          let same : y ≡ x = d.still k in
          let kept : out' ≡ out = d.written ∙ rw (ne_eqb (refused_in x) 0 k) refl in
          record {
            called = q;
            records = e;
            left = ap saved_in (no_calls calls empty) ∙ ap saved_in (sym same);
            lines = kept ∙ ap₂ (λ (a : List ℕ) (b : ℕ). a ++ drop (12 * b) out) (sym (no_lines calls empty)) (sym none);
          }
        where
          no_calls : (cs : List Call) → given_to cs ≡ [] → left_by x cs ≡ x
          no_calls [] f = refl
          no_calls (c ∷ cs) f = absurd (no_cons f)

          no_lines : (cs : List Call) → given_to cs ≡ [] → call_lines cs ≡ []
          no_lines [] f = refl
          no_lines (c ∷ cs) f = absurd (no_cons f)

pub run_is_calls : RunIsCalls
run_is_calls x events out i y out' d =
    let any = as_calls x events out i y out' d in
    let (calls, q, e) = calls_there x d.sizes (events_in events (taken_of i events out)) in
    ((calls, any calls q e), any)
