-- A state is lent to be looked at while it is lent to be worked on: what was found of the one holds of the other.
use mathlib.Core.Path.{◌≡◌, sym, subst}
use Prim.Native.Nat.{ℕ}
use mathlib.Core.List.{List}
use Rattle.std.specs.Prelude.{Result, Ok, ⊤}
use Rattle.refusals.specs.Refusals.{outcome_of}
use Rattle.refusals.specs.declared.Refusal.{Refusal}
use Rattle.model.specs.Arrays.{Columns, columns_in, columns_seen, Seen}
use Rattle.model.specs.Lent.{Lent, lent, refused_arrays}
use Rattle.model.specs.declared.StateMut.{StateMut}
use Rattle.model.specs.declared.StateRef.{StateRef}
use Rattle.decision.specs.Leads.{tops_of, firsts_of}
use Rattle.scheduler.specs.Stepping.{Whole, WholeIn}
use Rattle.doors.specs.Doors.{lent_in, lent_seen}
use Rattle.doors.specs.Inner.{Room, OpenedFrom, Begins}
use Rattle.doors.specs.declared.opening.Opened.{Opened}
use Rattle.doors.specs.declared.opening.Beside.{Beside}
use Rattle.doors.proofs.Entering.{whole}
use Rattle.doors.proofs.Lending.{taken}

-- the settings and the clock that were read are those of a state that is not refused, and the arrays have their lengths
pub fits : (x : Lent) (o : Result ⊤ Refusal) (i : Opened) → OpenedFrom x i (outcome_of o) → {t : ⊤} → o ≡ Ok t
    → Room i.settings x.used x.threads x.queue × (refused_arrays i.settings x.used i.clock x.threads x.queue x.history ≡ 0)
fits x o i f {t} e =
    let P : Opened → Type 0 = λ j. Room j.settings x.used x.threads x.queue × (refused_arrays j.settings x.used j.clock x.threads x.queue x.history ≡ 0) in
    subst P (sym f.opened) (f.room, taken x o f e)

module _ (s : StateMut) (r : StateRef) (e : Seen s r) where
  of_seen : (P : List ℕ → Columns → List ℕ → List ℕ → Type 0) → P r.used.now (columns_seen r) r.queue.now r.history.now → P s.used.now (columns_in s) s.queue.now s.history.now
  of_seen P f =
      subst (λ h. P s.used.now (columns_in s) s.queue.now h) e.history
      (subst (λ q. P s.used.now (columns_in s) q r.history.now) e.queue
      (subst (λ ts. P s.used.now ts r.queue.now r.history.now) e.threads
      (subst (λ u. P u (columns_seen r) r.queue.now r.history.now) e.used f)))

  module _ (a b k : List ℕ) (o : Result ⊤ Refusal) (i : Opened) (f : OpenedFrom (lent_seen a b k r) i (outcome_of o)) where
    pub opened_in : OpenedFrom (lent_in a b k s) i (outcome_of o)
    opened_in = of_seen (λ u ts q h. OpenedFrom (lent a b u k ts q h) i (outcome_of o)) f

    -- what a step needs
    pub whole_in : {t : ⊤} → o ≡ Ok t → (v : Beside) → Begins i.settings i.clock r v → WholeIn i.settings s i.clock v.cache v.favoured
    whole_in g v d =
        let z = fits (lent_seen a b k r) o i f g in
        of_seen (λ u ts q h. Whole i.settings u i.clock ts q h v.cache.budgets (tops_of v.cache.leads) (firsts_of v.cache.leads) v.cache.sets v.favoured)
        (whole i.settings r.used.now i.clock (columns_seen r) r.queue.now r.history.now z.0 z.1 v.cache.budgets (tops_of v.cache.leads) (firsts_of v.cache.leads) v.cache.sets v.favoured d.held d.favours)
