-- The hypotheses of the promises of time slices can be met, and four ticks are reached: W 4, C 1000, one partition, two round-robin threads of
-- priority 10. Thread 0 runs until the fourth tick, thread 1 until the eighth.
use mathlib.Core.Path.{◌≡◌, refl}
use mathlib.Core.Bool.{true}
use mathlib.Core.List.{List, [], ◌∷◌}
use native.Mathlib.Omega.{arith}
use Rattle.sheet.specs.declared.Settings.{Settings}
use Rattle.model.specs.State.{thread}
use Rattle.model.specs.Slices
use Rattle.model.specs.Event.{refused_state}
use Rattle.model.specs.Step.{Saved, answer}
use Rattle.model.specs.Run.{Entry, run, fresh, after}
use Rattle.guarantee.specs.Turns.{Equals, keeps_ready, stays_ready, ticks_before, is_chosen, is_running}
use Rattle.guarantee.proofs.Computed.{kit, tick, create, ready, computed}

abbrev settings : Settings
settings = kit 1 0 4 1000 (100 ∷ [])

-- both are made ready
abbrev made : Saved
made = after (fresh settings []) (create Slices.round_robin 0 0 10 ∷ create Slices.round_robin 1 0 10 ∷ ready 0 0 ∷ ready 1 0 ∷ [])

abbrev log : List Entry
log = run made (tick 1000 ∷ tick 2000 ∷ tick 3000 ∷ tick 4000 ∷ tick 5000 ∷ [])

-- before the fourth tick
abbrev last : Saved
last = after made (tick 1000 ∷ tick 2000 ∷ tick 3000 ∷ [])

record Met : Type 0 where
  taken : refused_state made.state made.history ≡ 0
  equals : Equals made.state 0 1
  policy : (thread made.state 0).policy ≡ Slices.round_robin
  stay : (stays_ready 10 0 log ≡ true) × (stays_ready 10 1 log ≡ true)
  until_chosen : ticks_before (is_chosen 1) 0 made.state log ≡ 4
  until_running : ticks_before (is_running 1) 0 made.state log ≡ 4
  ran : last.state.running ≡ 0
  over : Slices.ends (thread last.state 0) ≡ true
  fourth : (answer last (tick 4000)).refusal ≡ 0

met : Met
unfolding computed keeps_ready stays_ready ticks_before
met = record {
  taken = refl;
  equals = record {
    two = omega arith;
    one = record { queued = refl; allowed = refl };
    other = record { queued = refl; allowed = refl };
    partition = refl;
    priority = refl;
  };
  policy = refl;
  stay = (refl, refl);
  until_chosen = refl;
  until_running = refl;
  ran = refl;
  over = refl;
  fourth = refl;
}
