-- What the last accepted entry tells agrees with the state that it left; so the charges of a list are those of the trace.
use mathlib.Core.Path.{◌≡◌, refl, sym, subst, ◌∙◌}
use Prim.Native.Nat.{ℕ, ◌+◌}
use mathlib.Core.Bool.{Bool, true, false, not, cond, ◌&&◌}
use mathlib.Core.Option.{Option, none, some}
use mathlib.Core.List.{List, [], ◌∷◌}
use lib.Dec.{eqb}
use borrow.Author.Tests.{ne_eqb}
use native.Mathlib.Omega.{arith}
use Rattle.lists.specs.Lists.{cons_if}
use Rattle.sheet.specs.declared.Settings.{Settings}
use Rattle.model.specs.Event.{elapsed_at}
use Rattle.model.specs.Policy.{winner, decide}
use Rattle.model.specs.Step.{Saved, billed, favoured, apply, answer}
use Rattle.model.specs.Run.{Entry}
use Rattle.model.specs.State.{State}
use Rattle.model.specs.Facts.{Settled}
use Rattle.guarantee.specs.Demand3 as demand
use Rattle.guarantee.specs.Demand3.{Last, last_of, elapsed_since, charge_of, charged_to}
use Rattle.guarantee.specs.Account.{favoured_after}
use Rattle.invariants.specs.Charges.{part_of}
use Rattle.guarantee.specs.Scheduler.{charged}
use Rattle.invariants.proofs.Decision.{decide_picks, decide_idle, billed_winner}
use Rattle.invariants.proofs.Applied.{apply_left, after_left}
use Rattle.invariants.proofs.Answered.{Good, accepted, good_answer}
use Rattle.guarantee.proofs.Instance.{model}
use Rattle.guarantee.proofs.Log.{Log, translated, translate, accepted_is, when_accepted, when_refused}

abbrev pub chose : Last → Option ℕ
chose l = cond (eqb l.mode 0) none (some l.partition)

pub record Agrees (l : Last) (v : Saved) : Type 0 where
  pub stamp : l.stamp ≡ v.state.stamp
  pub runs : billed v.state ≡ chose l

pub decision_is : (s : State) (h : List ℕ) → Settled s h → (f : Option ℕ) → winner s f ≡ favoured_after (decide s f)
decision_is s h k f = go (winner s f) refl
  where
    go : (o : Option ℕ) → winner s f ≡ o → o ≡ favoured_after (decide s f)
    go none e = rw (decide_idle s h k f e)
    go (some w) e = let d = decide_picks s h k f w e in rw (ne_eqb (decide s f).mode 0 d.busy.mode_busy, d.partition)

module _ (c : Settings) (v : Saved) (g : Good c v) (e : Entry) (a : e.answer ≡ answer v e.event) where
  pub agrees : demand.accepted e ≡ true → Agrees (last_of e) e.answer.after
  agrees h =
      let b : List ℕ = e.event in
      let f : Option ℕ = favoured v.state in
      let ok = accepted v b (sym (accepted_is v e a) ∙ h) in
      let k : Settled (apply v b).state (apply v b).history = (apply_left v b g.lengths ok).settled in
      rw (when_accepted v e a h) (record {
        stamp = sym (after_left v b g.lengths ok).stamp;
        runs = billed_winner f (apply v b) k ∙ decision_is (apply v b).state (apply v b).history k f;
      })

pub elapsed_is : (l : Last) (v : Saved) (e : Entry) → Agrees l v → elapsed_since l e ≡ elapsed_at v.state e.event
elapsed_is l v e h = rw h.stamp

pub charge_is : (p : ℕ) (l : Last) (v : Saved) (e : Entry) → Agrees l v
    → charge_of p l e ≡ part_of (billed v.state) p (elapsed_at v.state e.event)
unfolding charge_of
charge_is p l v e h = rw (h.runs, ← elapsed_is l v e h) (go (eqb l.mode 0))
  where
    go : (z : Bool) → cond (not z && eqb l.partition p) (elapsed_since l e) 0 ≡ part_of (cond z none (some l.partition)) p (elapsed_since l e)
    go true = refl
    go false = refl

-- over a list
pub charged_is : (p : ℕ) (c : Settings) (es : List Entry) (v : Saved) (l : Last) → Good c v → Log v es → Agrees l v
    → charged model p v (translated v es) ≡ charged_to p l es
unfolding charged_to
charged_is p c [] v l g lg h = refl
charged_is p c (e ∷ es) v l g lg h = go (demand.accepted e) refl (λ w k. charged_is p c es w k)
  where
    go : (z : Bool) → demand.accepted e ≡ z
        → ((w : Saved) (k : Last) → Good c w → Log w es → Agrees k w → charged model p w (translated w es) ≡ charged_to p k es)
        → charged model p v (cons_if z (translate v e) (translated e.answer.after es))
        ≡ cond z (charge_of p l e + charged_to p (last_of e) es) (charged_to p l es)
    go true q ih =
        omega (arith, charge_is p l v e h, ih e.answer.after (last_of e) (rw lg.0 (good_answer c v e.event g)) lg.1 (agrees c v g e lg.0 q))
    go false q ih =
        let w : e.answer.after ≡ v = when_refused v e lg.0 q in
        subst (λ (x : Saved). charged model p v (translated x es) ≡ charged_to p l es) (sym w)
        (ih v l g (subst (λ (x : Saved). Log x es) w lg.1) h)
