-- Runs and calls, one after the other, are calls of the event door and one run of the model, so the demands hold of the records that they took and
-- the lines that they answered.
use mathlib.Core.Logic.{◌≢◌}
use mathlib.Core.Path.{◌≡◌, refl, sym, ap, ap₂, subst, ◌∙◌}
use Prim.Native.Nat.{ℕ, ◌<◌}
use mathlib.Core.List.{List, [], ◌∷◌, ◌++◌, map, map-map, map-append, reverse}
use lib.ListN.{length, take, length-map}
use borrow.Author.Tests.{ne_eqb}
use native.Mathlib.Decide.{ℕ_discrete}
use Rattle.lists.specs.Lists.{sum, keep}
use Rattle.lists.proofs.All.{keep_map}
use Rattle.lists.proofs.Tables.{table_length}
use Rattle.sheet.specs.Settings.{W}
use Rattle.sheet.specs.Sheet.{settings_of}
use Rattle.model.specs.State.{used}
use Rattle.model.specs.Answers.{Line, answer_line}
use Rattle.model.specs.Lent.{Lent, state_in, saved_in, refused_in}
use Rattle.model.specs.Run.{Entry, run, after}
use Rattle.model.specs.Step.{Saved, answer}
use Rattle.model.specs.Stream.{event_at, events_in}
use Rattle.guarantee.specs.Demand3.{accepted, Served}
use Rattle.guarantee.specs.Ledger.{ledger, last_in, periods_in}
use Rattle.guarantee.specs.Account.{Accounted, decisions_from}
use Rattle.guarantee.proofs.Faces.{face, events_alike, decisions_alike, ledger_alike, served_alike}
use Rattle.doors.specs.Doors.{Sizes, Begun}
use Rattle.sessions.specs.Calls.{Call, left_by, given_to, chosen_by, entry_of, as_entries, accepted_calls, Session, AsCalls}
use Rattle.sessions.specs.Uses.{Batch, Use, one, many, Made, left_of, Uses, left_after, taken_in, taken_records, lines_in, lines_by, all_records, all_lines}
use Rattle.sessions.specs.Uses.{AsCalled, UsesAreCalls, UsesAreRun, ReadFrom, UsesDemand3, UsesTotals, accepted_in, AccountOf, UsesAccount}
use Rattle.sessions.proofs.Calls.{calls_are_run, refused_stays, door_demand3, door_totals_from, door_account, door_answers}
use Rattle.sessions.proofs.Runs.{no_events, calls_there, run_is_calls}
use Rattle.sessions.proofs.Reading.{lines_read}

-- ---- runs of the model, one after the other

abbrev seen : Entry → Line
seen e = answer_line e.answer

run_append : (v : Saved) (a b : List (List ℕ)) → run v (a ++ b) ≡ run v a ++ run (after v a) b
unfolding run after
run_append v [] b = refl
run_append v (e ∷ a) b = ap (λ (l : List Entry). record { event = e; answer = answer v e } ∷ l) (run_append (answer v e).after a b)

after_append : (v : Saved) (a b : List (List ℕ)) → after v (a ++ b) ≡ after (after v a) b
unfolding after
after_append v [] b = refl
after_append v (e ∷ a) b = after_append (answer v e).after a b

-- ---- on what is not refused

-- one use
record Did (x : Lent) (u : Use) : Type 0 where
  pub lines : lines_by u ≡ map seen (run (saved_in x) (taken_records u))
  pub left : saved_in (left_of u) ≡ after (saved_in x) (taken_records u)
  pub taken : refused_in (left_of u) ≡ 0

batch_did : (x : Lent) (r : Batch) → Made x (many r) → refused_in x ≡ 0 → Did x (many r)
batch_did x r d z = go (run_is_calls x r.events r.room r.number r.left r.text d).0
  where
    go : ((calls : List Call) × AsCalls x r.events r.room r.number r.left r.text calls) → Did x (many r)
    go (calls, is) =
        let v : Saved = saved_in x in
        let same = (calls_are_run x calls is.called z).0 in
        let many_is : length calls ≡ taken_in r =
        sym (length-map calls (λ c. c.bytes)) ∙ ap length is.records ∙ table_length (event_at r.events) (taken_in r) in
        record {
          lines =
              ap₂ lines_in (sym many_is) is.lines
              ∙ lines_read x calls _ is.called
              ∙ same.lines
              ∙ ap (λ (bs : List (List ℕ)). map seen (run v bs)) is.records;
          left = sym is.left ∙ same.left ∙ ap (after v) is.records;
          taken = d.taken z;
        }

did : (x : Lent) (u : Use) → Made x u → refused_in x ≡ 0 → Did x u
did x (one c) q z = let (is, taken) = calls_are_run x (c ∷ []) (q, tt) z in record { lines = is.lines; left = is.left; taken = taken }
did x (many r) d z = batch_did x r d z

-- all of them
pub uses_are_run : UsesAreRun
unfolding run after
uses_are_run x [] q z = (record { lines = refl; left = refl }, z)
uses_are_run x (u ∷ us) (q, qs) z =
    let v : Saved = saved_in x in
    let here : Did x u = did x u q z in
    let (is, taken) = uses_are_run (left_of u) us qs here.taken in (
      record {
        lines =
            ap₂ (λ (a b : List Line). a ++ b) here.lines (is.lines ∙ ap (λ (w : Saved). map seen (run w (all_records us))) here.left)
            ∙ sym (map-append seen (run v (taken_records u)) (run (after v (taken_records u)) (all_records us)))
            ∙ ap (map seen) (sym (run_append v (taken_records u) (all_records us)));
        left =
            is.left ∙ ap (λ (w : Saved). after w (all_records us)) here.left ∙ sym (after_append v (taken_records u) (all_records us));
      },
      taken,
    )

-- ---- on what is refused: a call is refused, a run takes no record, and all is left as it was

refused_calls : (x : Lent) (us : List Use) → Uses x us → refused_in x ≢ 0 → (calls : List Call) × AsCalled x us calls
refused_calls x [] q n = ([], record { called = tt; records = refl; lines = refl; left = refl })
refused_calls x (one c ∷ us) (q, qs) n =
    let same : c.left ≡ x = (refused_stays x (c ∷ []) (q, tt) n).1 in
    let (cs, is) = refused_calls c.left us qs (subst (λ (y : Lent). refused_in y ≢ 0) (sym same) n) in (
      c ∷ cs,
      record {
        called = (q, is.called);
        records = ap (λ (bs : List (List ℕ)). c.bytes ∷ bs) is.records;
        lines = ap (λ (ls : List Line). c.line ∷ ls) is.lines;
        left = is.left;
      },
    )
refused_calls x (many r ∷ us) (d, qs) n =
    let same : r.left ≡ x = d.still n in
    let none : taken_in r ≡ 0 = rw (d.refusal, ne_eqb (refused_in x) 0 n) refl in
    let (cs, is) = refused_calls x us (subst (λ (y : Lent). Uses y us) same qs) n in (
      cs,
      record {
        called = is.called;
        records = is.records ∙ ap (λ (bs : List (List ℕ)). bs ++ all_records us) (sym (ap (events_in r.events) none ∙ no_events r.events));
        lines = is.lines ∙ ap (λ (k : ℕ). lines_in k r.text ++ all_lines us) (sym none);
        left = is.left ∙ ap (λ (y : Lent). saved_in (left_after y us)) (sym same);
      },
    )

-- ---- so there are calls that do the same

sizes_of : (x : Lent) (u : Use) → Made x u → Sizes x
sizes_of x (one c) q = q.sizes
sizes_of x (many r) d = d.sizes

pub uses_are_calls : UsesAreCalls
uses_are_calls x [] q = ([], record { called = tt; records = refl; lines = refl; left = refl })
uses_are_calls x (u ∷ us) q = go (ℕ_discrete (refused_in x) 0)
  where
    uses : List Use
    uses = u ∷ us

    v : Saved
    v = saved_in x

    go : Dec (refused_in x ≡ 0) → (calls : List Call) × AsCalled x uses calls
    go (yes z) =
        let (calls, called, given) = calls_there x (sizes_of x u q.0) (all_records uses) in
        let is = (calls_are_run x calls called z).0 in
        let all = (uses_are_run x uses q z).0 in (
          calls,
          record {
            called = called;
            records = given;
            lines = is.lines ∙ ap (λ (bs : List (List ℕ)). map seen (run v bs)) given ∙ sym all.lines;
            left = is.left ∙ ap (after v) given ∙ sym all.left;
          },
        )
    go (no n) = refused_calls x uses q n

-- ---- the demands

-- what is seen of entries is the events and the lines
module _ (v : Saved) where
  zip : List (List ℕ) → List Line → List Entry
  zip [] ls = []
  zip (b ∷ bs) [] = []
  zip (b ∷ bs) (l ∷ ls) = record { event = b; answer = record { refusal = l.refusal; decision = chosen_by l; after = v } } ∷ zip bs ls

  zip_faces : (es : List Entry) → zip (map (λ e. e.event) es) (map seen es) ≡ map (face v) es
  unfolding zip
  zip_faces [] = refl
  zip_faces (e ∷ es) = ap (λ (l : List Entry). face v e ∷ l) (zip_faces es)

-- so entries that say what was seen look like those of the calls
module _ (x : Lent) (uses : List Use) (es : List Entry) (read : ReadFrom uses es) (calls : List Call) (is : AsCalled x uses calls) where
  abbrev v : Saved
  v = saved_in x

  same_faces : map (face v) (as_entries calls) ≡ map (face v) es
  same_faces =
      let events : map (λ e. e.event) (as_entries calls) ≡ map (λ e. e.event) es =
      map-map (λ (e : Entry). e.event) entry_of calls ∙ is.records ∙ sym read.events in
      let lines : map seen (as_entries calls) ≡ map seen es = map-map seen entry_of calls ∙ is.lines ∙ sym read.lines in
      sym (zip_faces v (as_entries calls)) ∙ ap₂ (zip v) events lines ∙ zip_faces v es

  served_here : Served (state_in x) es
  served_here = served_alike v (state_in x) (as_entries calls) es same_faces (door_demand3 x calls is.called)

  totals_here : refused_in x ≡ 0 → (p : ℕ) → p < (state_in x).settings.count
      → used (state_in (left_after x uses)) p
      ≡ sum (take (W (state_in x).settings) (ledger p (last_in (state_in x)) (periods_in (state_in x) x.history p) es))
  totals_here z p i =
      ap (λ (w : Saved). used w.state p) (sym is.left)
      ∙ door_totals_from x calls is.called z p i
      ∙ ap (λ (l : List ℕ). sum (take (W (state_in x).settings) l))
      (ledger_alike v p (last_in (state_in x)) (periods_in (state_in x) x.history p) (as_entries calls) es same_faces)

  kept : keep accepted (as_entries calls) ≡ as_entries (accepted_calls calls)
  kept = keep_map accepted entry_of calls

  kept_events : given_to (accepted_calls calls) ≡ accepted_in es
  kept_events =
      sym (ap (map (λ (e : Entry). e.event)) kept ∙ map-map (λ (e : Entry). e.event) entry_of (accepted_calls calls))
      ∙ events_alike v (as_entries calls) es same_faces

  kept_decisions : map (λ c. chosen_by c.line) (accepted_calls calls) ≡ map (λ e. e.answer.decision) (keep accepted es)
  kept_decisions =
      sym (ap (map (λ (e : Entry). e.answer.decision)) kept ∙ map-map (λ (e : Entry). e.answer.decision) entry_of (accepted_calls calls))
      ∙ decisions_alike v (as_entries calls) es same_faces

  account_here : (lent : Lent) (sheet : List ℕ) → Begun lent sheet 0 x → AccountOf lent sheet (saved_in (left_after x uses)) es
  account_here lent sheet begun =
      let session : Session lent sheet x calls = record { begun = begun; called = is.called } in
      record {
        state =
            subst (λ (w : Saved). Accounted (settings_of sheet) lent.history (reverse (accepted_in es)) w) is.left
            (subst (λ (l : List (List ℕ)). Accounted (settings_of sheet) lent.history (reverse l) (saved_in (left_by x calls))) kept_events
            (door_account lent sheet x calls session));
        answers =
            sym kept_decisions ∙ door_answers lent sheet x calls session ∙ ap (decisions_from (settings_of sheet) []) kept_events;
      }

pub uses_demand3 : UsesDemand3
uses_demand3 x uses q es read = let (calls, is) = uses_are_calls x uses q in served_here x uses es read calls is

pub uses_totals : UsesTotals
uses_totals x uses q z es read = let (calls, is) = uses_are_calls x uses q in totals_here x uses es read calls is z

pub uses_account : UsesAccount
uses_account x sheet y uses begun q es read = let (calls, is) = uses_are_calls y uses q in account_here y uses es read calls is x sheet begun
