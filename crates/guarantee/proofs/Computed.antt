-- Runs that the checker computes: how their sheets and events are written down, and what has to be open for it.
use Prim.Native.Nat.{ℕ, ◌/◌, ◌%◌}
use mathlib.Core.List.{List, [], ◌∷◌, ◌++◌, map}
use lib.ListN.{length, take, replicate}
use Rattle.lists.specs.Lists
use Rattle.units.specs.Units
use Rattle.units.specs.declared.Percent.{Percent}
use Rattle.sheet.specs.Limits
use Rattle.sheet.specs.Settings as Meant
use Rattle.sheet.specs.declared.Settings.{Settings}
use Rattle.model.specs.State
use Rattle.model.specs.Slices
use Rattle.model.specs.Policy
use Rattle.model.specs.Sound
use Rattle.model.specs.Event
use Rattle.model.specs.Step
use Rattle.model.specs.Step.{Saved}
use Rattle.model.specs.Run
use Rattle.model.specs.Run.{Entry}

abbrev percents : List ℕ → List Percent
percents ns = take 16 (map (λ n. record { 0 = n }) ns ++ replicate 16 (record { 0 = 0 }))

-- settings of policy 0 and core 0: the edition and whether it is stated, W, C and the shares
abbrev pub kit : ℕ → ℕ → ℕ → ℕ → List ℕ → Settings
kit edition stated w c shares =
    record {
      window = record { 0 = w };
      tick = record { 0 = c };
      policy = 0;
      core = 0;
      edition = edition;
      stated = stated;
      count = length shares;
      shares = percents shares;
    }

-- kind, thread, partition, priority, stamp, mask, policy
abbrev event : ℕ → ℕ → ℕ → ℕ → ℕ → ℕ → ℕ → List ℕ
event kind thread partition priority stamp mask policy =
    kind ∷ thread ∷ partition ∷ priority ∷ (stamp % 256) ∷ (stamp / 256) ∷ 0 ∷ 0 ∷ mask ∷ policy ∷ 0 ∷ 0 ∷ []

abbrev pub tick : ℕ → List ℕ
tick stamp = event Event.tick 0 0 0 stamp 0 0

-- on core 0: policy, thread, partition and priority, at the stamp 0
abbrev pub create : ℕ → ℕ → ℕ → ℕ → List ℕ
create policy thread partition priority = event Event.create thread partition priority 0 1 policy

abbrev pub ready : ℕ → ℕ → List ℕ
ready thread stamp = event Event.ready thread 0 0 stamp 0 0

abbrev pub set_priority : ℕ → ℕ → ℕ → List ℕ
set_priority thread priority stamp = event Event.set_priority thread 0 priority stamp 0 0

-- the answers to a list of events. A proof that opens this has open all that the lines `unfolding` name
unfoldable pub computed : Saved → List (List ℕ) → List Entry
unfolding Lists.below Lists.any Lists.all Lists.keep Lists.first Lists.maximum Lists.distinct Units.budget_of Units.elapsed_of Units.remaining_of
    Units.need_of Units.has_budget_of Units.compare_numbers Units.compare_flags Units.compare_fractions Limits.window_fits Limits.tick_fits
    Limits.policy_and_core_fit Limits.edition_fits Limits.count_fits Meant.budget Meant.need Meant.shares_fit Meant.within_limits State.allows
    Policy.candidates Policy.competing Policy.top_priority Policy.remaining Policy.has_budget Policy.mode Policy.by_budget Policy.by_priority
    Policy.by_fraction Policy.◌then◌ Policy.ratio_policy Policy.compare Policy.favours Policy.wins Policy.best Policy.better Policy.winner Policy.chosen
    Policy.decide_for Policy.decide Sound.slot_sum Sound.sound_history Sound.sound_slice Sound.sound_thread Sound.sound_queue Sound.sound_rest
    Sound.sound_running Sound.sound Event.stamp_of Event.well_formed Event.known Event.names_place Event.names_priority Event.too_long Event.names_thread
    Event.wrong_thread Event.wrong_place Event.wrong_readiness Event.refused_state Event.refused_event Event.refused Step.billed Step.add_used
    Step.add_history Step.charge Step.clear_history Step.lower_used Step.move_slot Step.leaves Slices.slice_for Slices.spent Slices.slice_after Step.turned
    Step.requeued Step.sliced Step.act Step.settle Step.restart Step.apply Step.answer Run.run Run.after
computed v events = Run.run v events
