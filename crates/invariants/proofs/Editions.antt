-- Only the limits look at whether the edition is stated, and where it is 1 they do not mind.
use mathlib.Core.Path.{◌≡◌, refl, sym, ap, subst, ◌∙◌}
use Prim.Native.Nat.{ℕ, ◌+◌}
use mathlib.Core.Bool.{Bool, true, false, cond}
use mathlib.Core.List.{List, [], ◌∷◌}
use mathlib.Core.Option.{Option, none, some}
use lib.Dec.{eqb}
use borrow.Author.Tests.{ne_eqb}
use Rattle.units.specs.Units.{elapsed_of}
use Rattle.sheet.specs.Limits.{edition_fits}
use Rattle.sheet.specs.Settings.{shares_fit, within_limits}
use Rattle.sheet.specs.declared.Settings.{Settings}
use Rattle.model.specs.State.{State}
use Rattle.model.specs.Policy.{Decided, decide}
use Rattle.model.specs.Sound.{slot_sum, sound_history, sound_queue, sound_rest, sound_running, sound}
use Rattle.model.specs.Event
use Rattle.model.specs.Event.{kind_of, stamp_of, too_long, wrong_thread, wrong_place, wrong_readiness, refused_state, refused_event, refused}
use Rattle.model.specs.Step.{Saved, Answer, saved, with_used, with_clock, with_running, billed, add_used, add_history, charge, move_slot, sliced, ticked, act, settle, restart, apply, accepted_with, refused_by, favoured, answer_by, answer}
use Rattle.model.specs.Run.{run, after}
use Rattle.model.specs.Answers.{Line, answer_line}
use Rattle.invariants.specs.Editions.{restated, lines_from, StatedOrNot}
use Rattle.invariants.proofs.Looks.{decide_at}
use Rattle.invariants.proofs.Acts.{act_cases, act_settings}

-- ---- an event leaves the settings as they are

apply_settings : (v : Saved) (b : List ℕ) → (apply v b).state.settings ≡ v.state.settings
unfolding apply restart charge move_slot sliced
apply_settings v b = go (eqb (kind_of b) Event.resume) (eqb (kind_of b) Event.tick)
  where
    st : ℕ
    st = stamp_of b

    go : (r t : Bool)
        → (cond r (restart v st) (cond t (ticked (charge v st)) (saved (act (charge v st).state b) (charge v st).history))).state.settings
        ≡ v.state.settings
    go true t = refl
    go false true = refl
    go false false = act_settings (charge v st).state b

answer_settings : (v : Saved) (b : List ℕ) → (answer v b).after.state.settings ≡ v.state.settings
unfolding answer settle
answer_settings v b = go (eqb (refused v.state v.history b) 0)
  where
    go : (z : Bool)
        → (cond z (accepted_with (favoured v.state) v b) (refused_by (refused v.state v.history b) v)).after.state.settings
        ≡ v.state.settings
    go true = apply_settings v b
    go false = refl

-- ---- each step of an event, where the edition is stated otherwise

module _ (n : ℕ) where
  -- the state alone
  abbrev other : State → State
  other s = (restated n (saved s [])).state

  -- the answer that leaves it so
  abbrev answered : Answer → Answer
  answered a = record { refusal = a.refusal; decision = a.decision; after = restated n a.after }

  decide_as : (s : State) (f : Option ℕ) → decide (other s) f ≡ decide s f
  decide_as s f = decide_at s n s.stamp s.slot s.since s.running f

  used_as : (s : State) (o : Option ℕ) (e : ℕ) → add_used (other s) o e ≡ add_used s o e
  unfolding add_used
  used_as s none e = refl
  used_as s (some p) e = refl

  history_as : (s : State) (o : Option ℕ) (e : ℕ) (h : List ℕ) → add_history (other s) o e h ≡ add_history s o e h
  unfolding add_history
  history_as s none e h = refl
  history_as s (some p) e h = refl

  charge_as : (v : Saved) (stamp : ℕ) → charge (restated n v) stamp ≡ restated n (charge v stamp)
  unfolding charge billed
  charge_as v stamp i =
      let s : State = v.state in
      let e : ℕ = elapsed_of stamp s.stamp in
      saved
      (other (with_clock (with_used s (used_as s (billed s) e i)) stamp s.slot.0 (s.since.0 + e)))
      (history_as s (billed s) e v.history i)

  act_as : (s : State) (b : List ℕ) → act (other s) b ≡ other (act s b)
  unfolding act
  act_as s b =
      act_cases s b (λ s'. act (other s) b ≡ other s') (λ q. rw q) (λ q. rw q) (λ q. rw q) (λ q. rw q) (λ q. rw q)
      (λ n₁ n₂ n₃ n₄ n₅. rw (ne_eqb _ _ n₁, ne_eqb _ _ n₂, ne_eqb _ _ n₃, ne_eqb _ _ n₄, ne_eqb _ _ n₅))

  apply_as : (v : Saved) (b : List ℕ) → apply (restated n v) b ≡ restated n (apply v b)
  unfolding apply restart move_slot sliced
  apply_as v b = go (eqb (kind_of b) Event.resume) (eqb (kind_of b) Event.tick)
    where
      st : ℕ
      st = stamp_of b

      acted : Saved → Saved
      acted w = saved (act w.state b) w.history

      go : (r t : Bool)
          → cond r (restart (restated n v) st) (cond t (ticked (charge (restated n v) st)) (acted (charge (restated n v) st)))
          ≡ restated n (cond r (restart v st) (cond t (ticked (charge v st)) (acted (charge v st))))
      go true t = refl
      go false true = ap ticked (charge_as v st)
      go false false =
          ap acted (charge_as v st) ∙ ap (λ (s : State). saved s (charge v st).history) (act_as (charge v st).state b)

  settle_as : (f : Option ℕ) (v : Saved) → settle f (restated n v) ≡ restated n (settle f v)
  unfolding settle
  settle_as f v = ap (λ (d : Decided). saved (other (with_running v.state d.thread)) v.history) (decide_as v.state f)

  accepted_as : (f : Option ℕ) (v : Saved) (b : List ℕ) → accepted_with f (restated n v) b ≡ answered (accepted_with f v b)
  accepted_as f v b i = record {
    refusal = 0;
    decision = (ap (λ (w : Saved). decide w.state f) (apply_as v b) ∙ decide_as (apply v b).state f) i;
    after = (ap (settle f) (apply_as v b) ∙ settle_as f (apply v b)) i;
  }

  -- ---- which events are refused

  module _ (s : State) (fits : edition_fits s.settings.edition n ≡ edition_fits s.settings.edition s.settings.stated) where
    refused_as : (h b : List ℕ) → refused (other s) h b ≡ refused s h b
    unfolding shares_fit within_limits slot_sum sound_history sound_queue sound_rest sound_running sound too_long wrong_thread wrong_place wrong_readiness
        refused_state refused_event refused
    refused_as h b = rw fits

    answer_as : (h b : List ℕ) → answer (restated n (saved s h)) b ≡ answered (answer (saved s h) b)
    unfolding answer billed
    answer_as h b =
        ap (λ (r : ℕ). answer_by r (restated n (saved s h)) b) (refused_as h b) ∙ go (eqb (refused s h b) 0)
      where
        go : (z : Bool)
            → cond z (accepted_with (favoured s) (restated n (saved s h)) b) (refused_by (refused s h b) (restated n (saved s h)))
            ≡ answered (cond z (accepted_with (favoured s) (saved s h) b) (refused_by (refused s h b) (saved s h)))
        go true = accepted_as (favoured s) (saved s h) b
        go false = refl

-- ---- a list of events

-- from settings that fit as well with the edition stated
stated_too : (v : Saved) (events : List (List ℕ))
    → edition_fits v.state.settings.edition 1 ≡ edition_fits v.state.settings.edition v.state.settings.stated
    → (lines_from (restated 1 v) events ≡ lines_from v events) × (after (restated 1 v) events ≡ restated 1 (after v events))
unfolding run after
stated_too v [] fits = (refl, refl)
stated_too v (b ∷ bs) fits =
    let same : answer (restated 1 v) b ≡ answered 1 (answer v b) = answer_as 1 v.state fits v.history b in
    let kept : (answer v b).after.state.settings ≡ v.state.settings = answer_settings v b in
    let still = subst (λ (c : Settings). edition_fits c.edition 1 ≡ edition_fits c.edition c.stated) (sym kept) fits in
    let (lines, left) = stated_too (answer v b).after bs still in (
      ap (λ (a : Answer). answer_line a ∷ lines_from a.after bs) same ∙ ap (λ (ls : List Line). answer_line (answer v b) ∷ ls) lines,
      ap (λ (a : Answer). after a.after bs) same ∙ left,
    )

pub stated_or_not : StatedOrNot
unfolding edition_fits
stated_or_not v e events = stated_too (restated 0 v) events (rw e)
