-- What the checker computes here: sheets, decisions, states, runs and doors. A proof that opens one of these definitions has open all that
-- the lines `unfolding` name, so that it computes as far as the answer.
use Rattle.std.specs.Prelude.{ℕ, List, map}
use Rattle.std.proofs.Math.Option.{Option}
use Rattle.lists.specs.Lists
use Rattle.units.specs.Units
use Rattle.sheet.specs.Limits
use Rattle.sheet.specs.Records
use Rattle.sheet.specs.Order
use Rattle.sheet.specs.Settings
use Rattle.sheet.specs.Sheet
use Rattle.model.specs.State
use Rattle.model.specs.Arrays
use Rattle.model.specs.Slices
use Rattle.model.specs.Policy
use Rattle.model.specs.Sound
use Rattle.model.specs.Event
use Rattle.model.specs.Step
use Rattle.model.specs.Run
use Rattle.model.specs.Lent
use Rattle.model.specs.Doors
use Rattle.model.specs.Answers.{Line, answer_line, Remainder}

-- the number by which a sheet's bytes are refused
unfoldable pub sheet_number : List ℕ → ℕ
unfolding Lists.below Lists.any Lists.all Lists.keep Lists.first Lists.maximum Lists.distinct
    Units.budget_of Units.elapsed_of Units.remaining_of Units.need_of Units.has_budget_of Units.compare_numbers Units.compare_flags Units.compare_fractions
    Limits.window_fits Limits.tick_fits Limits.policy_and_core_fit Limits.edition_fits Limits.count_fits Limits.refused_numbers
    Records.number_from Records.framed Records.field_of Records.digits_of Records.record_of
    Order.letter_at Order.head_of Order.whole_records Order.field_at Order.value_at Order.records_formed Order.records_of
    Settings.budget Settings.need Settings.shares_fit Settings.within_limits Settings.refused_settings
    Sheet.settings_of Sheet.refused_sheet Sheet.settings_read Sheet.value_of Sheet.sheet_of Sheet.refused_write Sheet.length_written Sheet.buffer_written
sheet_number bytes = Sheet.refused_sheet bytes

-- the decision for a state, where a partition is favoured, or none
unfoldable pub decided : State.State → Option ℕ → Policy.Decided
unfolding sheet_number State.allows Policy.candidates Policy.competing Policy.top_priority Policy.remaining Policy.has_budget Policy.mode Policy.by_budget
    Policy.by_priority Policy.by_fraction Policy.◌then◌ Policy.ratio_policy Policy.compare Policy.favours Policy.wins Policy.better Policy.best
    Policy.winner Policy.chosen Policy.decide_for Policy.decide
decided s f = Policy.decide s f

-- the lines of the answers to a list of events, from a state and its history
unfoldable pub lines : Step.Saved → List (List ℕ) → List Line
unfolding decided Sound.slot_sum Sound.sound_history Sound.sound_slice Sound.sound_thread Sound.sound_queue Sound.sound_rest Sound.sound_running Sound.sound
    Event.stamp_of Event.known Event.names_thread Event.names_place Event.names_priority Event.well_formed Event.too_long Event.wrong_thread Event.wrong_place
    Event.wrong_readiness Event.refused_state Event.refused_event Event.refused Step.billed Step.add_used Step.add_history Step.charge Step.clear_history
    Step.lower_used Step.move_slot Step.leaves Slices.slice_for Slices.spent Slices.slice_after Step.turned Step.requeued Step.sliced Step.act
    Step.settle Step.restart Step.apply Step.answer Run.run Run.after
lines v events = map (λ e. answer_line e.answer) (Run.run v events)

-- the remaining door's answer, and the decision door's, for what is lent
unfoldable pub remains : Lent.Lent → ℕ → Remainder
unfolding lines Arrays.threads_in Arrays.plain Lent.flag_from Lent.refused_arrays Doors.refused_start Doors.answer_to Doors.decision Doors.refused_remaining
    Doors.remainder
remains x p = Doors.remainder x p
