-- Where a thread stands after its priority changes, and what that means for who runs.
use mathlib.Core.Logic.{◌≢◌}
use mathlib.Core.Path.{◌≡◌, refl, sym, ap, subst, ◌∙◌}
use Prim.Native.Nat.{ℕ, ◌<◌}
use mathlib.Core.Bool.{Bool, true, cond}
use mathlib.Core.List.{List}
use lib.Dec.{eqb}
use borrow.Author.Tests.{eq-eqb, ne_eqb}
use Rattle.lists.specs.Lists.{member}
use Rattle.sheet.specs.declared.Settings.{Settings}
use Rattle.model.specs.State.{thread, queue_of, Thread, State}
use Rattle.model.specs.Typed.{Lengths}
use Rattle.model.specs.Event
use Rattle.model.specs.Event.{kind_of, thread_of, priority_of}
use Rattle.model.specs.Step.{Saved, Answer, requeued, with_priority, settle}
use Rattle.model.proofs.Ahead.{ahead, tail_behind, head_ahead, requeued_raised, requeued_lowered, requeued_same, requeued_unready}
use Rattle.invariants.proofs.Applied.{after_event}
use Rattle.invariants.proofs.Answered.{Good, accepts, accepts_it, accepted, accepted_answer, answer_accepted, good_settle}
use Rattle.guarantee.specs.Account.{record_named, record_by, queue_by}
use Rattle.guarantee.specs.Turns.{Equals}
use Rattle.guarantee.specs.Places.{Stands, Places, PassedOver, Ranked, AmongEquals}
use Rattle.guarantee.proofs.Told.{after_record, after_queue}
use Rattle.guarantee.proofs.Behind.{not_chosen, runs_other}

-- what the account says of the event
module _ (b : List ℕ) (k : kind_of b ≡ Event.set_priority) where
  queue_told : (n : ℕ) (records : ℕ → Thread) (q : List ℕ)
      → queue_by b n records q ≡ requeued (records (thread_of b)).ready (records (thread_of b)).priority (priority_of b) (thread_of b) q
  unfolding queue_by
  queue_told n records q = rw k

  record_told_law : (n t : ℕ) (r : Thread) → record_by b n t r ≡ cond (eqb (thread_of b) t) (with_priority r (priority_of b)) r
  unfolding record_by record_named
  record_told_law n t r = rw k

equals_turned : (s : State) (t u : ℕ) → Equals s t u → Equals s u t
equals_turned s t u m = record {
  two = λ e. m.two (sym e);
  one = m.other;
  other = m.one;
  partition = sym m.partition;
  priority = sym m.priority;
}

module _ (v : Saved) (len : Lengths v.state) (b : List ℕ) (k : kind_of b ≡ Event.set_priority) (ok : accepts v b ≡ true) where
  abbrev s : State
  s = v.state

  abbrev c : Settings
  c = s.settings

  abbrev t : ℕ
  t = thread_of b

  abbrev n : ℕ
  n = priority_of b

  abbrev s' : State
  s' = (after_event v b).state

  g : Good c v
  g = record { fit = (accepted v b ok).fit; lengths = len; settings = refl }

  line : queue_of s' ≡ requeued (thread s t).ready (thread s t).priority n t (queue_of s)
  line = after_queue c v g b (accepted v b ok) ∙ queue_told b k s.running (thread s) (queue_of s)

  record_of_law : (u : ℕ) → thread s' u ≡ cond (eqb t u) (with_priority (thread s u) n) (thread s u)
  record_of_law u = after_record c v g b (accepted v b ok) u ∙ record_told_law b k s.running u (thread s u)

  stands : Stands s s' t n
  stands = record {
    raised = λ z h. line ∙ requeued_raised _ _ n t (queue_of s) z h;
    lowered = λ z h. line ∙ requeued_lowered _ _ n t (queue_of s) z h;
    same = λ h. line ∙ requeued_same _ _ n t (queue_of s) h;
    unready = λ z. line ∙ requeued_unready _ _ n t (queue_of s) z;
    number = record_of_law t ∙ ap (λ (z : Bool). cond z (with_priority (thread s t) n) (thread s t)) (eq-eqb t t refl);
    others = λ u d. record_of_law u ∙ ap (λ (z : Bool). cond z (with_priority (thread s u) n) (thread s u)) (ne_eqb t u (λ q. d (sym q)));
  }

  -- who is ready after it was ready before
  g' : Good c (after_event v b)
  g' = good_settle c v b g ok

  was_ready : (u : ℕ) → member u (queue_of s') ≡ true → (thread s' u).ready ≡ (thread s u).ready → (thread s u).ready ≡ true
  was_ready u q e = sym e ∙ g'.fit.sound.settled.queue.ready u (g'.fit.sound.settled.queue.inside u q) ∙ q

  behind : (x y : ℕ) → Equals s' x y → ahead y x (queue_of s') ≡ true → PassedOver s' (accepted_answer v b).decision x
  unfolding settle
  behind x y m h = (not_chosen s' x y m h _ refl, runs_other c v g b ok n x y m h)

  module _ (u : ℕ) (m : Equals s' t u) where
    ready : (thread s t).ready ≡ true
    ready = was_ready t m.one.queued (ap (λ (r : Thread). r.ready) stands.number)

    other : u ≢ t
    other e = m.two (sym e)

    queued : member u (queue_of s) ≡ true
    queued =
        sym (g.fit.sound.settled.queue.ready u (g'.fit.sound.settled.queue.inside u m.other.queued))
        ∙ was_ready u m.other.queued (ap (λ (r : Thread). r.ready) (stands.others u other))

    after_raised : (thread s t).priority < n → PassedOver s' (accepted_answer v b).decision t
    after_raised h = behind t u m (rw (stands.raised ready h) (tail_behind u t (queue_of s) other queued))

    after_lowered : n < (thread s t).priority → PassedOver s' (accepted_answer v b).decision u
    after_lowered h = behind u t (equals_turned s' t u m) (rw (stands.lowered ready h) (head_ahead u t (queue_of s)))

  ranked : Ranked s s' (accepted_answer v b).decision t n
  ranked = record { raised = λ h u m. after_raised u m h; lowered = λ h u m. after_lowered u m h }

-- THE PLACE
pub places : Places
places v len b k e =
    let ok : accepts v b ≡ true = accepts_it v b e in
    subst (λ (x : Answer). Stands v.state x.after.state (thread_of b) (priority_of b)) (sym (answer_accepted v b ok)) (stands v len b k ok)

-- AMONG EQUALS
pub among_equals : AmongEquals
among_equals v len b k e =
    let ok : accepts v b ≡ true = accepts_it v b e in
    subst (λ (x : Answer). Ranked v.state x.after.state x.decision (thread_of b) (priority_of b)) (sym (answer_accepted v b ok))
    (ranked v len b k ok)
