-- What decoding refused comes first; what it did not refuse has the form that the other tests ask for.
use mathlib.Core.Path.{◌≡◌, refl, sym, ap, ◌∙◌}
use Prim.Native.Nat.{ℕ}
use Rattle.std.specs.Prelude.{Result, Ok, Err}
use mathlib.Core.Bool.{Bool, true, false, not, cond}
use mathlib.Core.List.{List}
use lib.Dec.{eqb}
use lib.ListN.{length}
use borrow.Author.Tests.{eqb-true, eq-eqb}
use Rattle.lists.proofs.Tests.{clash}
use Rattle.refusals.specs.Refusals.{number_of, outcome_of}
use Rattle.refusals.specs.declared.Refusal.{Refusal}
use Rattle.refusals.proofs.Laws.{never_zero}
use Rattle.sheet.specs.declared.Settings.{Settings}
use Rattle.model.specs.State.{State}
use Rattle.model.specs.Arrays.{with_flag_columns, state_of}
use Rattle.model.specs.Event.{well_formed, stamp_of, refused_event}
use Rattle.model.specs.declared.Clock.{Clock}
use Rattle.event.specs.Bytes.{bytes_of, refused_form, DecodedFrom}
use Rattle.event.specs.declared.Event.{Event}
use Rattle.event.proofs.EventLaws.{formed_bytes}
use Rattle.admission.specs.Tests.{Formed, RefusesAll}

form_first : (s : State) (b : List ℕ) → eqb (refused_form b) 0 ≡ false → refused_form b ≡ refused_event s b
unfolding refused_form refused_event
form_first s b = go (eqb (length b) 12) (well_formed b) _
  where
    go : (x y : Bool) (rest : ℕ) → eqb (cond (not x) 14 (cond (not y) 9 0)) 0 ≡ false → cond (not x) 14 (cond (not y) 9 0) ≡ cond (not x) 14 (cond (not y) 9 rest)
    go false y rest e = refl
    go true false rest e = refl
    go true true rest e = clash refl e

module _ (c : Settings) (k : Clock) (e r : List ℕ) (d : Result Event Refusal) where
  pub refuses_form : (x : Refusal) → d ≡ Err x → RefusesAll c k e r d (Err x)
  refuses_form x f b w u ts q =
      let i : refused_form b ≡ number_of x = sym w.refusal ∙ ap outcome_of f in
      sym i ∙ form_first (state_of c u k (with_flag_columns ts e r) q) b (rw i (never_zero x))

pub formed : (b : List ℕ) (d : Result Event Refusal) → DecodedFrom b d → Formed d
formed b d w = record {
  form = λ x z. ap well_formed (sym (w.bytes x z)) ∙ (formed_bytes b (sym w.refusal ∙ ap outcome_of z)).1;
  stamp = λ x z. w.stamp x z ∙ ap stamp_of (w.bytes x z);
}

-- bytes that are not refused at all are the record of the event that was decoded
pub event_of_law : (s : State) (b : List ℕ) (d : Result Event Refusal) → DecodedFrom b d → refused_event s b ≡ 0
    → (x : Event) × (d ≡ Ok x) × (b ≡ bytes_of x) × (x.stamp ≡ stamp_of b)
event_of_law s b (Ok x) w z = (x, refl, w.bytes x refl, w.stamp x refl)
event_of_law s b (Err r) w z = clash (eq-eqb (refused_form b) 0 (form_first s b no ∙ z)) no
  where
    no : eqb (refused_form b) 0 ≡ false
    no = ap (λ (n : ℕ). eqb n 0) (sym w.refusal) ∙ never_zero r
