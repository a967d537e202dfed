-- All promises hold.
use Rattle.units.proofs.Laws as Units
use Rattle.sheet.proofs.Within as Within
use Rattle.sheet.proofs.RoundTrip as RoundTrip
use Rattle.model.proofs.Flags as Flags
use Rattle.invariants.proofs.Soundness as Soundness
use Rattle.invariants.proofs.Once as Once
use Rattle.invariants.proofs.Choices as Choices
use Rattle.invariants.proofs.Ties as Ties
use Rattle.invariants.proofs.Editions as Editions
use Rattle.guarantee.proofs.Totals as Totals
use Rattle.guarantee.proofs.Apart as Apart
use Rattle.guarantee.proofs.Account as Account
use Rattle.guarantee.proofs.Refused as Refused
use Rattle.guarantee.proofs.Known as Known
use Rattle.guarantee.proofs.Guarantee as Guarantee
use Rattle.guarantee.proofs.Demand3 as Demand3
use Rattle.guarantee.proofs.Tight as Tight
use Rattle.guarantee.proofs.Turns as Turns
use Rattle.guarantee.proofs.Places as Places
use Rattle.sessions.specs.Promised.{Promised}
use Rattle.sessions.proofs.Calls as Calls
use Rattle.sessions.proofs.Decisions as Decisions
use Rattle.sessions.proofs.Turns as DoorTurns
use Rattle.sessions.proofs.Places as DoorPlaces
use Rattle.sessions.proofs.Switches as DoorSwitches
use Rattle.sessions.proofs.Editions as DoorEditions
use Rattle.sessions.proofs.Runs as Runs
use Rattle.sessions.proofs.Uses as Uses
use Rattle.sessions.proofs.FromC as FromC

pub promised : Promised
promised = record {
  elapsed = Units.elapsed_true;
  budgets_whole = Units.budget_whole;
  budgets_fit = Units.budgets_fit;
  remaining = Units.remaining_exact;
  has_budget = Units.has_budget_law;
  needs_whole = Units.needs_whole;
  shares = Within.shares_fit_law;
  read_written = RoundTrip.read_is_written;
  written_read = RoundTrip.written_is_read;
  read_then_write = RoundTrip.read_then_write;
  write_then_read = RoundTrip.write_then_read;
  other_flags = Flags.other_flags_refused;
  starts = Soundness.starts;
  keeps = Soundness.keeps;
  run_keeps = Soundness.run_keeps;
  tested_once = Once.tested_once;
  untouched = Soundness.untouched;
  totals_fit = Soundness.totals_fit;
  idles = Choices.idles;
  compares = Choices.compares;
  orders = Choices.orders;
  chooses = Choices.chooses;
  chooses_one = Choices.chooses_one;
  budget_first = Choices.budget_first;
  repeats = Ties.repeats;
  switches = Ties.switches;
  stated_or_not = Editions.stated_or_not;
  totals_from = Totals.totals_from;
  held_and_charged = Apart.held_and_charged;
  totals = Totals.totals;
  account = Account.account;
  answers = Account.answers;
  refused = Refused.refused_count_for_nothing;
  ready = Known.ready_is_queued;
  demand3 = Demand3.demand3;
  proved_once = Guarantee.proved_once;
  loss = Demand3.loss_by_edition;
  bound_reached = Tight.bound_reached;
  slice_ends = Turns.slice_ends;
  takes_turns = Turns.takes_turns;
  places = Places.places;
  among_equals = Places.among_equals;
  calls = Calls.calls_are_run;
  stays = Calls.refused_stays;
  decides = Decisions.door_decides;
  door_demand3 = Calls.door_demand3;
  door_account = Calls.door_account;
  door_answers = Calls.door_answers;
  door_totals = Calls.door_totals;
  door_totals_from = Calls.door_totals_from;
  door_slice_ends = DoorTurns.door_slice_ends;
  door_takes_turns = DoorTurns.door_takes_turns;
  door_places = DoorPlaces.door_places;
  door_among_equals = DoorPlaces.door_among_equals;
  door_switches = DoorSwitches.door_switches;
  door_stated_or_not = DoorEditions.door_stated_or_not;
  run = Runs.run_is_calls;
  uses = Uses.uses_are_calls;
  uses_run = Uses.uses_are_run;
  uses_demand3 = Uses.uses_demand3;
  uses_totals = Uses.uses_totals;
  uses_account = Uses.uses_account;
  c_calls = FromC.c_calls_are_calls;
  c_demand3 = FromC.c_demand3;
  c_decides = FromC.c_decides;
}
