-- Ties: the decision door repeats the last event's answer, and a tie moves the processor to no other partition.
use mathlib.Core.Logic.{◌≢◌, inl, inr}
use mathlib.Core.Path.{◌≡◌, refl, sym, ap, subst, ◌∙◌}
use Prim.Native.Nat.{ℕ, ◌<◌}
use mathlib.Core.Bool.{Bool, true, false}
use mathlib.Core.Option.{Option, some}
use mathlib.Core.List.{List}
use Rattle.model.specs.State.{State}
use Rattle.model.specs.Policy.{competing, winner, decide_for, decide}
use Rattle.model.specs.Step.{Saved, Answer, billed, favoured, settle, apply, answer}
use Rattle.model.specs.Typed.{Lengths}
use Rattle.model.specs.Facts.{Settled, Accepted}
use Rattle.model.proofs.Accepted.{of_fit}
use Rattle.model.proofs.Winner.{winner_again, favoured_beaten}
use Rattle.invariants.specs.Promises.{Repeated, Repeats, GivesWay, Switches}
use Rattle.invariants.proofs.Kept.{billed_inside}
use Rattle.invariants.proofs.Applied.{Left, after_event, apply_left, after_sound, after_room}
use Rattle.invariants.proofs.Answered.{accepts, accepted, accepts_it, accepted_answer, answer_accepted}
use Rattle.invariants.proofs.Decision.{decide_picks, billed_winner}
use Rattle.invariants.proofs.Looks.{competing_kept, compare_kept, decide_kept}

-- where the winner is itself favoured, the decision is the same
pub decide_again : (s : State) (f g : Option ℕ) → g ≡ winner s f → decide s g ≡ decide s f
unfolding decide
decide_again s f g e = ap (λ (o : Option ℕ). decide_for s (winner s o)) e ∙ ap (decide_for s) (winner_again s f)

-- so the decision stays the decision once its thread runs
pub decide_repeated : (f : Option ℕ) (x : Saved) → Settled x.state x.history
    → decide (settle f x).state (favoured (settle f x).state) ≡ decide x.state f
decide_repeated f x k =
    let g : Option ℕ = favoured (settle f x).state in
    decide_kept f x g ∙ decide_again x.state f g (billed_winner f x k)

module _ (v : Saved) (len : Lengths v.state) (b : List ℕ) (ok : accepts v b ≡ true) where
  a : Accepted v.state v.history b
  a = accepted v b ok

  abbrev f : Option ℕ
  f = favoured v.state

  -- the state before the decision
  abbrev x : Saved
  x = apply v b

  abbrev s : State
  s = x.state

  left : Left v b x
  left = apply_left v b len a

  repeated : Repeated (accepted_answer v b)
  repeated = record {
    taken = of_fit _ _ (record { room = after_room v b len a; sound = after_sound v b len a });
    decision = decide_repeated f x left.settled;
  }

  module _ (p q : ℕ) (from : billed v.state ≡ some p) (to : billed (after_event v b).state ≡ some q) (n : p ≢ q) where
    won : winner s f ≡ some q
    won = sym (billed_winner f x left.settled) ∙ to

    inside : p < s.settings.count
    inside = rw left.settings (billed_inside v.state v.history a.fit.sound p from)

    gives_way : GivesWay (after_event v b).state p q
    gives_way = go (competing s p) refl
      where
        go : (z : Bool) → competing s p ≡ z → GivesWay (after_event v b).state p q
        go true i = inl (compare_kept f x q p ∙ favoured_beaten s p q inside i (ap (winner s) (sym from) ∙ won) n)
        go false i = inr (competing_kept f x p ∙ i)

    switched : ((accepted_answer v b).decision.partition ≡ q) × GivesWay (after_event v b).state p q
    switched = ((decide_picks s x.history left.settled f q won).partition, gives_way)

pub repeats : Repeats
repeats v len b e = let ok : accepts v b ≡ true = accepts_it v b e in subst Repeated (sym (answer_accepted v b ok)) (repeated v len b ok)

pub switches : Switches
switches v len b e p q from =
    let ok : accepts v b ≡ true = accepts_it v b e in
    subst (λ (r : Answer). billed r.after.state ≡ some q → p ≢ q → (r.decision.partition ≡ q) × GivesWay r.after.state p q)
    (sym (answer_accepted v b ok)) (switched v len b ok p q from)
