-- The event door called again and again is a run of the model, so what is proved of the model's runs holds of what the doors leave.
use Prim.Native.Nat.{ℕ, ◌≤◌, ◌<◌}
use mathlib.Core.Logic.{◌≢◌}
use mathlib.Core.Path.{◌≡◌, refl, sym, ap, ap₂, subst, ◌∙◌}
use mathlib.Core.Bool.{Bool, true, false, not}
use mathlib.Core.List.{List, [], ◌∷◌, ◌++◌, map, map-map, reverse}
use lib.ListN.{length, take}
use lib.Dec.{eqb}
use lib.IntN.{pos}
use lib.Signed.{◌≤ℤ◌}
use borrow.Author.Tests.{eqb-true, ne_eqb, not-true}
use native.Mathlib.Decide.{ℕ_discrete}
use Rattle.lists.specs.Lists.{all, keep, sum}
use Rattle.lists.proofs.Tests.{both, and, clash}
use Rattle.lists.proofs.All.{all_append, keep_map}
use Rattle.lists.proofs.Tables.{table_length}
use Rattle.sheet.specs.Settings.{W}
use Rattle.sheet.specs.Sheet.{settings_of}
use Rattle.sheet.specs.declared.Settings.{Settings}
use Rattle.model.specs.State.{used}
use Rattle.model.specs.Typed.{Lengths}
use Rattle.model.specs.Event.{kind_of, tick, refused_state}
use Rattle.model.specs.Step.{Saved, Answer, answer, nothing}
use Rattle.model.specs.Run.{Entry, run, fresh, after}
use Rattle.model.specs.Doors.{refused_start, answer_to}
use Rattle.model.specs.Answers.{Line, answer_line}
use Rattle.model.specs.Lent as Lent
use Rattle.model.specs.Lent.{Lent, lent_clock, state_in, saved_in, refused_in}
use Rattle.model.proofs.Accepted.{fit_of}
use Rattle.model.proofs.Flags.{accepted}
use Rattle.model.proofs.Table.{threads_length}
use Rattle.guarantee.specs.Demand3 as Demand3
use Rattle.guarantee.specs.Ledger.{ledger, ledger_of, last_in, periods_in, accepted_of}
use Rattle.guarantee.specs.Account.{Accounted, decisions_from}
use Rattle.guarantee.proofs.Demand3.{demand3}
use Rattle.guarantee.proofs.Account.{account, answers}
use Rattle.guarantee.proofs.Totals.{used_given, totals_from, totals}
use Rattle.accounts.proofs.ChargingLaws.{map_length}
use Rattle.doors.specs.Doors.{Sizes, Answered}
use Rattle.sessions.specs.Calls.{Call, Calls, left_by, given_to, chosen_by, entry_of, as_entries, accepts, accepted_calls, Unmoved, Session}
use Rattle.sessions.specs.Calls.{CallsAreRun, RefusedStays, DoorDemand3, DoorTotalsFrom, DoorAccount, DoorAnswers, DoorTotals}

-- ---- calls are a run

pub answer_yes : (x : Lent) (b : List ℕ) → refused_in x ≡ 0 → answer_to x b ≡ answer (saved_in x) b
unfolding answer_to
answer_yes x b z = rw z

pub answer_no : (x : Lent) (b : List ℕ) → refused_in x ≢ 0 → answer_to x b ≡ record { refusal = refused_in x; decision = nothing; after = saved_in x }
unfolding answer_to
answer_no x b n = rw (ne_eqb (refused_in x) 0 n)

left_is : (x : Lent) (c : Call) → Answered x c.bytes c.line c.left → refused_in x ≡ 0 → saved_in c.left ≡ (answer (saved_in x) c.bytes).after
left_is x c q z = q.after ∙ ap (λ (a : Answer). a.after) (answer_yes x c.bytes z)

-- one call is the model's entry
entry_is : (x : Lent) (c : Call) → Answered x c.bytes c.line c.left → refused_in x ≡ 0
    → entry_of c ≡ record { event = c.bytes; answer = answer (saved_in x) c.bytes }
entry_is x c q z =
    ap₂ (λ (l : Line) (v : Saved). record { event = c.bytes; answer = record { refusal = l.refusal; decision = chosen_by l; after = v } })
    (q.line ∙ ap answer_line (answer_yes x c.bytes z)) (left_is x c q z)

entries_run : (x : Lent) (cs : List Call) → Calls x cs → refused_in x ≡ 0 → as_entries cs ≡ run (saved_in x) (given_to cs)
unfolding run
entries_run x [] q z = refl
entries_run x (c ∷ cs) (q, qs) z =
    ap₂ (λ (e : Entry) (es : List Entry). e ∷ es) (entry_is x c q z)
    (entries_run c.left cs qs (q.taken z) ∙ ap (λ (v : Saved). run v (given_to cs)) (left_is x c q z))

left_after_law : (x : Lent) (cs : List Call) → Calls x cs → refused_in x ≡ 0 → saved_in (left_by x cs) ≡ after (saved_in x) (given_to cs)
unfolding after
left_after_law x [] q z = refl
left_after_law x (c ∷ cs) (q, qs) z = left_after_law c.left cs qs (q.taken z) ∙ ap (λ (v : Saved). after v (given_to cs)) (left_is x c q z)

still_taken : (x : Lent) (cs : List Call) → Calls x cs → refused_in x ≡ 0 → refused_in (left_by x cs) ≡ 0
still_taken x [] q z = z
still_taken x (c ∷ cs) (q, qs) z = still_taken c.left cs qs (q.taken z)

pub calls_are_run : CallsAreRun
calls_are_run x calls q z = (
  record {
    entries = entries_run x calls q z;
    lines = sym (map-map line entry_of calls) ∙ ap (map line) (entries_run x calls q z);
    left = left_after_law x calls q z;
  },
  still_taken x calls q z,
)
  where
    line : Entry → Line
    line e = answer_line e.answer

pub refused_stays : RefusedStays
refused_stays x [] q n = tt
refused_stays x (c ∷ cs) (q, qs) n =
    let refusal : c.line.refusal ≡ refused_in x = ap (λ (l : Line). l.refusal) (q.line ∙ ap answer_line (answer_no x c.bytes n)) in
    let same : c.left ≡ x = q.still (λ z. n (sym (ap (λ (a : Answer). a.refusal) (answer_no x c.bytes n)) ∙ z)) in
    (refusal, same, refused_stays x cs (subst (λ (y : Lent). Calls y cs) same qs) n)

-- the last of several calls
pub last_call : (x : Lent) (calls : List Call) (c : Call) → Calls x (calls ++ (c ∷ [])) → Answered (left_by x calls) c.bytes c.line c.left
last_call x [] c q = q.0
last_call x (d ∷ calls) c q = last_call d.left calls c q.1

-- what an accepted call was given is not refused
pub taken_call : (x : Lent) (c : Call) → Answered x c.bytes c.line c.left → accepts c ≡ true → refused_in x ≡ 0
taken_call x c q yes_line = go (ℕ_discrete (refused_in x) 0)
  where
    go : Dec (refused_in x ≡ 0) → refused_in x ≡ 0
    go (yes z) = z
    go (no n) =
        let refusal : c.line.refusal ≡ refused_in x = ap (λ (l : Line). l.refusal) (q.line ∙ ap answer_line (answer_no x c.bytes n)) in
        absurd (n (sym refusal ∙ eqb-true _ _ yes_line))

-- so an accepted call is the model's accepted event
module _ (x : Lent) (c : Call) (q : Answered x c.bytes c.line c.left) (yes_line : accepts c ≡ true) where
  pub call_is : (entry_of c).answer ≡ answer (saved_in x) c.bytes
  call_is = ap (λ (e : Entry). e.answer) (entry_is x c q (taken_call x c q yes_line))

  pub call_accepted : (answer (saved_in x) c.bytes).refusal ≡ 0
  call_accepted = sym (ap (λ (w : Answer). w.refusal) call_is) ∙ eqb-true _ _ yes_line

-- ---- what is lent, as the model's theorems take it

pub lengths : (x : Lent) → Sizes x → Lengths (state_in x)
lengths x s = record {
  shares = table_length _ 16;
  used = map_length x.used ∙ s.used;
  threads = threads_length x.threads;
  queue = s.queue;
}

pub not_refused : (x : Lent) → refused_in x ≡ 0 → refused_state (state_in x) x.history ≡ 0
not_refused x z = (accepted (Lent.lent_settings x) x.used (lent_clock x) x.threads x.queue x.history z).1

-- ---- demand 3

-- no call on what is refused is accepted
none_accepted : (x : Lent) (cs : List Call) → Unmoved x cs → refused_in x ≢ 0 → all (λ e. not (Demand3.accepted e)) (as_entries cs) ≡ true
unfolding all
none_accepted x [] u n = refl
none_accepted x (c ∷ cs) (r, _, u) n =
    let here : not (eqb c.line.refusal 0) ≡ true = rw (r, ne_eqb (refused_in x) 0 n) refl in
    and here (none_accepted x cs u n)

none_there : (before : List Entry) (o : Entry) (rest : List Entry) → all (λ i. not (Demand3.accepted i)) (before ++ (o ∷ rest)) ≡ true → Demand3.accepted o ≡ true → ⊥
unfolding all
none_there before o rest none taken =
    let f : Entry → Bool = λ i. not (Demand3.accepted i) in
    let (_, last) = both (all f before) (all f (o ∷ rest)) (sym (all_append f before (o ∷ rest)) ∙ none) in
    let (shut, _) = both (not (Demand3.accepted o)) (all f rest) last in
    clash taken (not-true (Demand3.accepted o) shut)

abbrev is_nil : List Entry → Bool
is_nil [] = true
is_nil (_ ∷ _) = false

nothing_there : (l : List Entry) (o : Entry) (r : List Entry) → [] ≡ l ++ (o ∷ r) → ⊥
nothing_there [] o r i = clash (sym (ap is_nil i)) refl
nothing_there (_ ∷ _) o r i = clash (sym (ap is_nil i)) refl

-- DEMAND 3
pub door_demand3 : DoorDemand3
door_demand3 x [] q before opening within closing later e st = absurd (nothing_there before opening _ e)
door_demand3 x (c ∷ cs) q before opening within closing later e st = go (ℕ_discrete (refused_in x) 0)
  where
    calls : List Call
    calls = c ∷ cs

    Promised : Type 0
    Promised =
        (p : ℕ) → p < (state_in x).settings.count
        → ((n : ℕ) → n ≤ length within → Demand3.waits (state_in x) (before ++ (opening ∷ take n within)) p ≡ true)
        → Demand3.bound (state_in x).settings p ≤ℤ pos (Demand3.charged_to p (Demand3.last_of opening) (within ++ (closing ∷ [])))

    go : Dec (refused_in x ≡ 0) → Promised
    go (yes z) =
        demand3 (saved_in x) (lengths x q.0.sizes) (not_refused x z) (given_to calls)
        before opening within closing later (sym (entries_run x calls q z) ∙ e) st
    go (no n) =
        let none = subst (λ (l : List Entry). all (λ i. not (Demand3.accepted i)) l ≡ true) e (none_accepted x calls (refused_stays x calls q n) n) in
        let (opened, _) = both (Demand3.accepted opening) (eqb (kind_of opening.event) tick) st.opens in
        absurd (none_there before opening (within ++ (closing ∷ later)) none opened)

-- ---- DEMAND 2, the totals from what was lent

pub door_totals_from : DoorTotalsFrom
unfolding ledger
door_totals_from x [] q z p i = used_given (saved_in x) (fit_of (state_in x) x.history (not_refused x z)) p i
door_totals_from x (c ∷ cs) q z p i =
    let calls : List Call = c ∷ cs in
    ap (λ (v : Saved). used v.state p) (left_after_law x calls q z)
    ∙ totals_from (saved_in x) (lengths x q.0.sizes) (not_refused x z) (given_to calls) p i
    ∙ ap (λ (es : List Entry). sum (take (W (state_in x).settings) (ledger p (last_in (state_in x)) (periods_in (state_in x) x.history p) es)))
    (sym (entries_run x calls q z))

-- ---- from an accepted start

module _ (x : Lent) (sheet : List ℕ) (y : Lent) (calls : List Call) (k : Session x sheet y calls) where
  abbrev c : Settings
  c = settings_of sheet

  abbrev h : List ℕ
  h = x.history

  accepted_start : refused_start sheet h ≡ 0
  accepted_start = sym k.begun.refusal

  from_fresh : saved_in y ≡ fresh c h
  from_fresh = k.begun.after refl

  fresh_run : run (fresh c h) (given_to calls) ≡ as_entries calls
  fresh_run = ap (λ (v : Saved). run v (given_to calls)) (sym from_fresh) ∙ sym (entries_run y calls k.called (k.begun.taken refl))

  fresh_after : after (fresh c h) (given_to calls) ≡ saved_in (left_by y calls)
  fresh_after = ap (λ (v : Saved). after v (given_to calls)) (sym from_fresh) ∙ sym (left_after_law y calls k.called (k.begun.taken refl))

  kept : keep Demand3.accepted (run (fresh c h) (given_to calls)) ≡ as_entries (accepted_calls calls)
  kept = ap (keep Demand3.accepted) fresh_run ∙ keep_map Demand3.accepted entry_of calls

  kept_bytes : accepted_of (fresh c h) (given_to calls) ≡ given_to (accepted_calls calls)
  unfolding accepted_of
  kept_bytes = ap (map (λ (e : Entry). e.event)) kept ∙ map-map (λ (e : Entry). e.event) entry_of (accepted_calls calls)

  pub account_here : Accounted c h (reverse (given_to (accepted_calls calls))) (saved_in (left_by y calls))
  account_here =
      subst (λ (v : Saved). Accounted c h (reverse (given_to (accepted_calls calls))) v) fresh_after
      (subst (λ (es : List (List ℕ)). Accounted c h (reverse es) (after (fresh c h) (given_to calls))) kept_bytes
      (account sheet h accepted_start (given_to calls)))

  pub answers_here : map (λ i. chosen_by i.line) (accepted_calls calls) ≡ decisions_from c [] (given_to (accepted_calls calls))
  answers_here =
      sym (map-map (λ (e : Entry). e.answer.decision) entry_of (accepted_calls calls))
      ∙ ap (map (λ (e : Entry). e.answer.decision)) (sym kept)
      ∙ answers sheet h accepted_start (given_to calls)
      ∙ ap (decisions_from c []) kept_bytes

  pub totals_here : (p : ℕ) → p < c.count → used (state_in (left_by y calls)) p ≡ sum (take (W c) (ledger_of p (as_entries calls)))
  totals_here p i =
      ap (λ (v : Saved). used v.state p) (sym fresh_after)
      ∙ totals sheet h accepted_start (given_to calls) p i
      ∙ ap (λ (es : List Entry). sum (take (W c) (ledger_of p es))) fresh_run

-- DEMAND 2, the account, the answers and the ledger
pub door_account : DoorAccount
door_account x sheet y calls k = account_here x sheet y calls k

pub door_answers : DoorAnswers
door_answers x sheet y calls k = answers_here x sheet y calls k

pub door_totals : DoorTotals
door_totals x sheet y calls k = totals_here x sheet y calls k
