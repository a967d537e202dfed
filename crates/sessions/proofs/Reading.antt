-- The text of a line tells its numbers: those of every answer have no more digits than the text has.
use mathlib.Core.Path.{◌≡◌, refl, sym, ap, ap₂, subst}
use Prim.Native.Nat.{ℕ, ◌*◌, ◌≤◌, ◌<◌}
use mathlib.Core.Bool.{Bool, true, false, not, cond, ◌&&◌}
use mathlib.Core.Option.{Option, none, some}
use mathlib.Core.List.{List, [], ◌∷◌, ◌++◌, map, append_assoc}
use lib.ListN.{length}
use lib.Seq.{take_at, drop_at}
use lib.Dec.{eqb, ltb}
use borrow.Author.Tests.{ne_eqb}
use native.Mathlib.Omega.{arith}
use native.Mathlib.Decide.{ℕ_discrete}
use Rattle.lists.specs.Lists.{any}
use Rattle.sheet.specs.Records.{Said, digits_of}
use Rattle.sheet.specs.Settings.{W, budget, within_limits}
use Rattle.sheet.specs.declared.Settings.{Settings}
use Rattle.sheet.proofs.Digits.{read_written}
use Rattle.model.specs.State.{wanted, State}
use Rattle.model.specs.Policy.{competing, has_budget, partitions, mode, winner, decide}
use Rattle.model.specs.Arrays.{flags_fit}
use Rattle.model.specs.Sound.{sound}
use Rattle.model.specs.Facts.{Settled}
use Rattle.model.specs.Event.{refused_state, refused_event, refused, well_formed, too_long, wrong_thread, wrong_place, wrong_readiness}
use Rattle.model.specs.Step.{Saved, favoured, apply, answer_by, answer}
use Rattle.model.specs.Answers.{Line, answer_line, decision_line, refusal_line, text_of}
use Rattle.model.specs.Doors.{answer_to}
use Rattle.model.specs.Lent.{Lent, lent_settings, state_in, saved_in, refused_in, refused_arrays}
use Rattle.model.proofs.Accepted.{accepted_of_law}
use Rattle.invariants.proofs.Decision.{decide_picks, decide_idle}
use Rattle.invariants.proofs.Applied.{apply_left}
use Rattle.scheduler.proofs.Longer.{text_length}
use Rattle.doors.specs.Doors.{Sizes}
use Rattle.sessions.specs.Calls.{Call, Calls, call_lines}
use Rattle.sessions.specs.Uses.{line_in, lines_in}
use Rattle.sessions.proofs.Calls.{answer_yes, answer_no, lengths}

record Short (l : Line) : Type 0 where
  pub refusal : l.refusal < 100
  pub mode : l.mode < 10
  pub partition : l.partition < 100
  pub thread : l.thread < 1000

-- ---- a line that is short is read as it was written

line_read : (l : Line) → Short l → line_in (text_of l) ≡ l
unfolding text_of digits_of
line_read l s = λ i. record {
  refusal = ap (λ (s : Said). s.value) (read_written 2 l.refusal s.refusal) i;
  mode = ap (λ (s : Said). s.value) (read_written 1 l.mode s.mode) i;
  partition = ap (λ (s : Said). s.value) (read_written 2 l.partition s.partition) i;
  thread = ap (λ (s : Said). s.value) (read_written 3 l.thread s.thread) i;
}

-- ---- every answer is short

state_most : (a b c : Bool) → cond a 8 (cond b 7 (cond c 8 0)) ≤ 14
state_most true b c = omega arith
state_most false true c = omega arith
state_most false false true = omega arith
state_most false false false = omega arith

lent_most : (x : Lent) → refused_in x ≤ 14
unfolding refused_arrays
lent_most x =
    let c : Settings = lent_settings x in
    state_most (not (within_limits c)) (ltb (length x.history) (c.count * W c))
    (not (flags_fit x.threads && sound (state_in x) x.history))

event_most : (s : State) (b : List ℕ) → refused_event s b ≤ 14
unfolding refused_event
event_most s b = go (not (eqb (length b) 12)) (not (well_formed b)) (too_long s b) (wrong_thread s b) (wrong_place s b) (wrong_readiness s b)
  where
    go : (a b c d e f : Bool) → cond a 14 (cond b 9 (cond c 10 (cond d 11 (cond e 12 (cond f 13 0))))) ≤ 14
    go true b c d e f = omega arith
    go false true c d e f = omega arith
    go false false true d e f = omega arith
    go false false false true e f = omega arith
    go false false false false true f = omega arith
    go false false false false false true = omega arith
    go false false false false false false = omega arith

refused_most : (s : State) (h b : List ℕ) → refused s h b ≤ 14
unfolding refused refused_state
refused_most s h b = go (not (eqb (refused_state s h) 0))
  where
    go : (z : Bool) → cond z (refused_state s h) (refused_event s b) ≤ 14
    go true = state_most (not (within_limits s.settings)) (ltb (length h) (wanted s)) (not (sound s h))
    go false = event_most s b

mode_most : (s : State) → mode s ≤ 3
unfolding mode
mode_most s =
    go (not (any (competing s) (partitions s))) (any (λ p. not (eqb (budget s.settings p) 0) && not (competing s p)) (partitions s))
    (any (λ p. competing s p && has_budget s p) (partitions s))
  where
    go : (a b c : Bool) → cond a 0 (cond b 1 (cond c 2 3)) ≤ 3
    go true b c = omega arith
    go false true c = omega arith
    go false false true = omega arith
    go false false false = omega arith

decision_short : (s : State) (h : List ℕ) → Settled s h → (f : Option ℕ) → Short (decision_line (decide s f))
decision_short s h k f = go (winner s f) refl
  where
    go : (o : Option ℕ) → winner s f ≡ o → Short (decision_line (decide s f))
    go none e = rw (decide_idle s h k f e) (record { refusal = omega arith; mode = omega arith; partition = omega arith; thread = omega arith })
    go (some w) e =
        let d = decide_picks s h k f w e in
        record {
          refusal = omega arith;
          mode = omega (arith, d.busy.mode_is, mode_most s);
          partition = omega (arith, d.busy.won.inside, k.limits.count_high);
          thread = omega (arith, d.inside);
        }

refusal_short : (n : ℕ) → n ≤ 14 → Short (refusal_line n)
refusal_short n h = record { refusal = omega arith; mode = omega arith; partition = omega arith; thread = omega arith }

answer_short : (x : Lent) (b : List ℕ) → Sizes x → Short (answer_line (answer_to x b))
unfolding answer
answer_short x b sizes = go (ℕ_discrete (refused_in x) 0)
  where
    v : Saved
    v = saved_in x

    n : ℕ
    n = refused (state_in x) x.history b

    inner : Dec (n ≡ 0) → Short (answer_line (answer_by n v b))
    inner (yes z) =
        subst (λ (k : ℕ). Short (answer_line (answer_by k v b))) (sym z)
        (decision_short (apply v b).state (apply v b).history
        (apply_left v b (lengths x sizes) (accepted_of_law (state_in x) x.history b z)).settled (favoured (state_in x)))
    inner (no z) = rw (ne_eqb n 0 z) (refusal_short n (refused_most (state_in x) x.history b))

    go : Dec (refused_in x ≡ 0) → Short (answer_line (answer_to x b))
    go (yes z) = rw (answer_yes x b z) (inner (ℕ_discrete n 0))
    go (no k) = rw (answer_no x b k) (refusal_short (refused_in x) (lent_most x))

-- ---- so the lines of calls are read back from their text

pub lines_read : (x : Lent) (cs : List Call) (rest : List ℕ) → Calls x cs → lines_in (length cs) (call_lines cs ++ rest) ≡ map (λ c. c.line) cs
lines_read x [] rest q = refl
lines_read x (c ∷ cs) rest (q, qs) =
    let text : List ℕ = text_of c.line in
    let more : List ℕ = call_lines cs ++ rest in
    let here : line_in text ≡ c.line = line_read c.line (subst Short (sym q.line) (answer_short x c.bytes q.sizes)) in
    rw (append_assoc text (call_lines cs) rest, take_at text more 12 (text_length c.line), drop_at text more 12 (text_length c.line))
    (ap₂ (λ (l : Line) (ls : List Line). l ∷ ls) here (lines_read c.left cs rest qs))
