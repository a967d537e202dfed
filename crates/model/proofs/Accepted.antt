-- What it says of a state, and of an event, that the door refuses it with no number.
use mathlib.Core.Path.{◌≡◌}
use Prim.Native.Nat.{ℕ, ◌≤◌}
use mathlib.Core.Bool.{Bool, false, not, cond, ◌&&◌, ◌||◌}
use mathlib.Core.List.{List}
use lib.ListN.{length}
use lib.Dec.{eqb, leb, ltb}
use borrow.Author.Tests.{eqb-true, eqb-false, eq-eqb, ne_eqb, leb-false, le-leb, ltb-false, le-ltb, not-false}
use native.Mathlib.Omega.{arith}
use Rattle.lists.proofs.Tests.{neither, and_right, passes, passes_number}
use Rattle.sheet.specs.Settings.{within_limits}
use Rattle.model.specs.State.{thread, wanted, State}
use Rattle.model.specs.Slices.{round_robin}
use Rattle.model.specs.Sound.{sound}
use Rattle.model.specs.Event
use Rattle.model.specs.Event.{kind_of, thread_of, partition_of, mask_of, policy_of, refused_state, refused_event, refused, too_long, names_thread, wrong_thread, wrong_place, wrong_readiness, well_formed}
use Rattle.model.specs.Facts.{Fit, Accepted}
use Rattle.sheet.proofs.Within.{of_limits}
use Rattle.model.proofs.Meaning.{sound_of, of_sound}

pub fit_of : (s : State) (h : List ℕ) → refused_state s h ≡ 0 → Fit s h
unfolding refused_state
fit_of s h e =
    let (a, e₁) = passes (not (within_limits s.settings)) 8 _ tt e in
    let (b, e₂) = passes (ltb (length h) (wanted s)) 7 _ tt e₁ in
    let (c, e₃) = passes (not (sound s h)) 8 0 tt e₂ in
    record { room = ltb-false _ _ b; sound = sound_of s h (not-false _ c) }

pub of_fit : (s : State) (h : List ℕ) → Fit s h → refused_state s h ≡ 0
unfolding refused_state
of_fit s h f = rw (of_limits s.settings f.sound.settled.limits, le-ltb (length h) (wanted s) f.room, of_sound s h f.sound)

pub accepted_of_law : (s : State) (h b : List ℕ) → refused s h b ≡ 0 → Accepted s h b
unfolding refused refused_event too_long names_thread wrong_thread wrong_place wrong_readiness
accepted_of_law s h b e =
    let (a₁, e₁) = passes_number (refused_state s h) _ e in
    let (a₂, e₂) = passes (not (eqb (length b) 12)) 14 _ tt e₁ in
    let (a₃, e₃) = passes (not (well_formed b)) 9 _ tt e₂ in
    let (a₄, e₄) = passes (too_long s b) 10 _ tt e₃ in
    let (a₅, e₅) = passes (wrong_thread s b) 11 _ tt e₄ in
    let (a₆, e₆) = passes (wrong_place s b) 12 _ tt e₅ in
    let (a₇, e₇) = passes (wrong_readiness s b) 13 0 tt e₆ in
    record {
      fit = fit_of s h a₁;
      twelve = eqb-true _ _ (not-false _ a₂);
      formed = not-false _ a₃;
      short = λ k. ltb-false _ _ (and_right (not (eqb (kind_of b) Event.resume)) _ a₄ (rw (ne_eqb _ _ k)));
      named = record {
        thread_inside = λ lo hi. leb-false _ _ (named a₅ lo hi).0;
        absent = λ k. rw (eq-eqb _ _ k) at (named a₅ (omega arith) (omega arith)).1;
        exists = λ lo hi. not-false _ (rw (ne_eqb (kind_of b) Event.create (omega arith)) at (named a₅ (omega arith) hi).1);
        partition_inside = λ k. leb-false _ _ (placed a₆ k).0;
        some_core = λ k. eqb-false _ _ (placed a₆ k).1;
        known_policy = λ k. ltb-false _ _ (placed a₆ k).2;
        not_ready = λ k. and_right _ _ (neither _ _ a₇).0 (eq-eqb _ _ k);
        was_ready = λ k. not-false _ (and_right _ _ (neither (eqb (kind_of b) Event.ready && (thread s (thread_of b)).ready) _ a₇).1 (eq-eqb _ _ k));
      };
    }
  where
    on : Bool
    on = (thread s (thread_of b)).exists

    placed : wrong_place s b ≡ false → kind_of b ≡ Event.create
        → (leb s.settings.count (partition_of b) ≡ false) × (eqb (mask_of b) 0 ≡ false) × (ltb round_robin (policy_of b) ≡ false)
    placed q k =
        let (x, z) = neither (leb s.settings.count (partition_of b) || eqb (mask_of b) 0) _ (and_right _ _ q (eq-eqb _ _ k)) in
        let (y, w) = neither (leb s.settings.count (partition_of b)) _ x in
        (y, w, z)

    named : wrong_thread s b ≡ false → Event.create ≤ kind_of b → kind_of b ≤ Event.end
        → (leb 64 (thread_of b) ≡ false) × (cond (eqb (kind_of b) Event.create) on (not on) ≡ false)
    named q lo hi = neither _ _ (and_right (leb Event.create (kind_of b) && leb (kind_of b) Event.end) _ q (rw (le-leb _ _ lo, le-leb _ _ hi)))
