-- A run, one record more: its records, its state and history, its lines.
use mathlib.Core.Path.{◌≡◌, refl, sym, ap, ap₂, ◌∙◌}
use Prim.Native.Nat.{ℕ, suc, ◌+◌, ◌*◌}
use mathlib.Core.List.{List, [], ◌∷◌, ◌++◌, map-append, append_assoc, append-nil}
use lib.ListN.{length, take, drop, length-append}
use lib.Seq.{take_at, drop_at, drop-drop}
use native.Mathlib.Omega.{arith}
use native.Mathlib.Numerals.{add-one}
use Rattle.lists.specs.Lists.{below}
use Rattle.lists.proofs.Tables.{table_length}
use Rattle.sheet.specs.Records.{digits_of}
use Rattle.model.specs.Step.{Saved, Answer, answer}
use Rattle.model.specs.Run.{Entry, run, after}
use Rattle.model.specs.Answers.{Line, answer_line, text_of}
use Rattle.model.specs.Stream.{event_at, events_in, lines_of}

-- ---- records

pub records_more : (bytes : List ℕ) (i : ℕ) → events_in bytes (i + 1) ≡ events_in bytes i ++ (event_at bytes i ∷ [])
unfolding below
records_more bytes i = rw add-one (map-append (event_at bytes) (below i) (i ∷ []))

-- ---- states

pub after_more : (v : Saved) (bs : List (List ℕ)) (b : List ℕ) → after v (bs ++ (b ∷ [])) ≡ (answer (after v bs) b).after
unfolding after
after_more v [] b = refl
after_more v (a ∷ bs) b = after_more (answer v a).after bs b

pub run_more : (v : Saved) (bs : List (List ℕ)) (b : List ℕ) → run v (bs ++ (b ∷ [])) ≡ run v bs ++ (record { event = b; answer = answer (after v bs) b } ∷ [])
unfolding run after
run_more v [] b = refl
run_more v (a ∷ bs) b = ap (λ (l : List Entry). record { event = a; answer = answer v a } ∷ l) (run_more (answer v a).after bs b)

run_length : (v : Saved) (bs : List (List ℕ)) → length (run v bs) ≡ length bs
unfolding run
run_length v [] = refl
run_length v (b ∷ bs) = ap suc (run_length (answer v b).after bs)

-- ---- lines

pub text_length : (l : Line) → length (text_of l) ≡ 12
unfolding text_of digits_of
text_length l = refl

pub lines_more : (es : List Entry) (e : Entry) → lines_of (es ++ (e ∷ [])) ≡ lines_of es ++ text_of (answer_line e.answer)
unfolding lines_of
lines_more [] e = append-nil (text_of (answer_line e.answer))
lines_more (d ∷ es) e =
    ap (λ (l : List ℕ). text_of (answer_line d.answer) ++ l) (lines_more es e) ∙ sym (append_assoc (text_of (answer_line d.answer)) (lines_of es) (text_of (answer_line e.answer)))

lines_length : (es : List Entry) → length (lines_of es) ≡ 12 * length es
unfolding lines_of
lines_length [] = refl
lines_length (e ∷ es) = length-append (text_of (answer_line e.answer)) (lines_of es) ∙ rw (text_length (answer_line e.answer), lines_length es) (omega arith)

pub run_lines_length : (v : Saved) (bytes : List ℕ) (i : ℕ) → length (lines_of (run v (events_in bytes i))) ≡ 12 * i
run_lines_length v bytes i = lines_length (run v (events_in bytes i)) ∙ rw (run_length v (events_in bytes i), table_length (event_at bytes) i)

-- ---- a run that has taken nothing yet

pub nothing_taken : (v : Saved) (bytes : List ℕ) → v ≡ after v (events_in bytes 0)
unfolding below after
nothing_taken v bytes = refl

pub nothing_written : (v : Saved) (bytes out : List ℕ) → out ≡ lines_of (run v (events_in bytes 0)) ++ drop (12 * 0) out
unfolding below run lines_of
nothing_written v bytes out = refl

-- ---- one record more, from where a run stands: x is its state and history, b the record

module _ (v : Saved) (bytes : List ℕ) (i : ℕ) (x : Saved) (b : List ℕ) (stands : x ≡ after v (events_in bytes i)) (next : b ≡ event_at bytes i) where
  same : answer x b ≡ answer (after v (events_in bytes i)) (event_at bytes i)
  same = ap₂ answer stands next

  pub state_next : (answer x b).after ≡ after v (events_in bytes (i + 1))
  state_next = ap (λ (a : Answer). a.after) same ∙ sym (after_more v (events_in bytes i) (event_at bytes i)) ∙ ap (after v) (sym (records_more bytes i))

  pub lines_next : (line : List ℕ) → line ≡ text_of (answer_line (answer x b)) → lines_of (run v (events_in bytes i)) ++ line ≡ lines_of (run v (events_in bytes (i + 1)))
  lines_next line e =
      ap (λ (l : List ℕ). lines_of (run v (events_in bytes i)) ++ l) (e ∙ ap (λ (a : Answer). text_of (answer_line a)) same)
      ∙ sym (lines_more (run v (events_in bytes i)) (record { event = event_at bytes i; answer = answer (after v (events_in bytes i)) (event_at bytes i) }))
      ∙ ap lines_of (sym (run_more v (events_in bytes i) (event_at bytes i)) ∙ ap (run v) (sym (records_more bytes i)))

-- a line put behind the ones that are there
pub line_put : (done line out first part : List ℕ) (i k : ℕ) → length done ≡ 12 * i → out ≡ done ++ drop (12 * i) first → k ≡ 12 → part ≡ line
    → take (12 * i) out ++ (part ++ drop k (drop (12 * i) out)) ≡ (done ++ line) ++ drop (12 * (i + 1)) first
line_put done line out first part i k d o e p =
    ap₂ (λ (a b : List ℕ). a ++ b) front (ap₂ (λ (a b : List ℕ). a ++ b) p back) ∙ sym (append_assoc done line (drop (12 * (i + 1)) first))
  where
    front : take (12 * i) out ≡ done
    front = rw o (take_at done (drop (12 * i) first) (12 * i) d)

    rest : drop (12 * i) out ≡ drop (12 * i) first
    rest = rw o (drop_at done (drop (12 * i) first) (12 * i) d)

    back : drop k (drop (12 * i) out) ≡ drop (12 * (i + 1)) first
    back = let w : 12 * i + 12 ≡ 12 * (i + 1) = omega arith in rw (rest, e, drop-drop 12 (12 * i) first, w)
