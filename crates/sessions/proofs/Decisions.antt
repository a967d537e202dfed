-- An accepted call answers the decision for the state that it left, so what is proved of decisions holds of its answer.
use mathlib.Core.Path.{◌≡◌, sym, ap, subst, ◌∙◌}
use Prim.Native.Nat.{ℕ}
use mathlib.Core.Bool.{true}
use mathlib.Core.Option.{Option}
use mathlib.Core.List.{[], ◌∷◌}
use borrow.Author.Tests.{eqb-true}
use Rattle.model.specs.State.{State}
use Rattle.model.specs.Sound.{sound}
use Rattle.model.specs.Policy.{Decided, decide}
use Rattle.model.specs.Step.{Saved, Answer, favoured, apply, answer}
use Rattle.model.specs.Answers.{decision_line}
use Rattle.model.specs.Doors as Doors
use Rattle.model.specs.Lent.{Lent, state_in, saved_in, refused_in}
use Rattle.model.proofs.Accepted.{fit_of}
use Rattle.model.proofs.Meaning.{of_sound}
use Rattle.invariants.specs.Promises.{IdleExactly, Busy, Repeated}
use Rattle.invariants.proofs.Answered.{accepted_answer, answer_accepted, accepts_it}
use Rattle.invariants.proofs.Choices.{idles, chooses, budget_first}
use Rattle.invariants.proofs.Looks.{decide_kept}
use Rattle.invariants.proofs.Ties.{repeats}
use Rattle.doors.specs.Doors.{Answered}
use Rattle.sessions.specs.Calls.{Call, chosen_by, entry_of, accepts}
use Rattle.sessions.specs.Decisions.{Decides, DoorDecides}
use Rattle.sessions.proofs.Calls.{taken_call, call_is, call_accepted, lengths, not_refused}

module _ (x : Lent) (c : Call) (q : Answered x c.bytes c.line c.left) (yes_line : accepts c ≡ true) where
  abbrev v : Saved
  v = saved_in x

  abbrev s : State
  s = state_in c.left

  abbrev f : Option ℕ
  f = favoured (state_in x)

  taken : refused_in c.left ≡ 0
  taken = q.taken (taken_call x c q yes_line)

  accepted : (answer v c.bytes).refusal ≡ 0
  accepted = call_accepted x c q yes_line

  is : (entry_of c).answer ≡ accepted_answer v c.bytes
  is = call_is x c q yes_line ∙ answer_accepted v c.bytes (accepts_it v c.bytes accepted)

  decision_is : chosen_by c.line ≡ decide s f
  decision_is =
      ap (λ (a : Answer). a.decision) is
      ∙ sym (decide_kept f (apply v c.bytes) f)
      ∙ ap (λ (a : Answer). decide a.after.state f) (sym is)

  again : decide s (favoured s) ≡ chosen_by c.line
  again = (subst Repeated (sym (call_is x c q yes_line)) (repeats v (lengths x q.sizes) c.bytes accepted)).decision

  repeated : Doors.decision c.left ≡ c.line
  unfolding Doors.decision
  repeated =
      rw taken (ap decision_line again
      ∙ ap (λ (n : ℕ). record { refusal = n; mode = c.line.mode; partition = c.line.partition; thread = c.line.thread })
      (sym (eqb-true c.line.refusal 0 yes_line)))

  fine : sound s c.left.history ≡ true
  fine = of_sound s c.left.history (fit_of s c.left.history (not_refused c.left taken)).sound

  decides_here : Decides x c
  decides_here =
      let i : IdleExactly s f = idles s c.left.history fine f in
      let mode : c.line.mode ≡ (decide s f).mode = ap (λ (d : Decided). d.mode) decision_is in
      let thread : c.line.thread ≡ (decide s f).thread = ap (λ (d : Decided). d.thread) decision_is in
      let partition : c.line.partition ≡ (decide s f).partition = ap (λ (d : Decided). d.partition) decision_is in
      record {
        decision = decision_is;
        repeated = repeated;
        idles = λ n. decision_is ∙ i.when n;
        idle_mode = λ e. i.by_mode (sym mode ∙ e);
        idle_thread = λ e. i.by_thread (sym thread ∙ e);
        chooses = λ t a. subst (Busy s f) (sym decision_is) (chooses s c.left.history fine f t a);
        budget_first = λ p b k h. rw partition (budget_first s c.left.history fine f p b k h).1;
      }

pub door_decides : DoorDecides
door_decides x [] q = tt
door_decides x (c ∷ cs) (q, qs) = (decides_here x c q, door_decides c.left cs qs)
