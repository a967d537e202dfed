-- A state that is not refused: what is needed to keep something beside it, and what a step needs.
use mathlib.Core.Path.{◌≡◌, sym, ap, subst, ◌∙◌}
use Prim.Native.Nat.{ℕ}
use mathlib.Core.List.{List}
use lib.ListN.{length}
use Rattle.sheet.specs.Settings.{Limits}
use Rattle.sheet.specs.declared.Settings.{Settings}
use Rattle.model.specs.State.{State}
use Rattle.model.specs.Arrays.{Columns, Regular, state_of}
use Rattle.model.specs.Answers.{decided_of}
use Rattle.model.specs.Event.{refused_state}
use Rattle.model.specs.Facts.{Settled, Sound}
use Rattle.model.specs.Lent.{refused_arrays}
use Rattle.model.specs.Policy.{decide}
use Rattle.model.specs.Step.{favoured}
use Rattle.model.specs.declared.Clock.{Clock}
use Rattle.model.specs.declared.Decision.{Decision}
use Rattle.model.proofs.Accepted.{fit_of}
use Rattle.model.proofs.Flags.{accepted}
use Rattle.decision.specs.Keeping.{Lined}
use Rattle.decision.proofs.States.{lined}
use Rattle.decision.specs.Decides.{Favoured}
use Rattle.decision.specs.Upkeep.{HeldBy, worked_for, Works, DecidesKept}
use Rattle.decision.proofs.UpkeepLaws.{works, favoured_is}
use Rattle.decision.specs.declared.kept.Sets.{Sets}
use Rattle.scheduler.specs.Stepping.{Whole}
use Rattle.doors.specs.Inner.{Room}

module _ (c : Settings) (u : List ℕ) (k : Clock) (ts : Columns) (q h : List ℕ) (room : Room c u ts q) (z : refused_arrays c u k ts q h ≡ 0) where
  abbrev s : State
  s = state_of c u k ts q

  regular : Regular ts
  regular = record { sized = room.sizes; flags = (accepted c u k ts q h z).0 }

  taken : refused_state s h ≡ 0
  taken = (accepted c u k ts q h z).1

  sound : Sound s h
  sound = (fit_of s h taken).sound

  settled : Settled s h
  settled = sound.settled

  -- the running thread works for a partition
  pub working : Works ts.partitions k.running
  working = works c u k ts q regular h sound

  pub begins : Limits c × Lined ts.partitions q k.queued c.core
  begins = (settled.limits, lined c u k ts q regular h settled room.full)

  module _ (budgets tops firsts : List ℕ) (sets : Sets) (set : ℕ) (held : HeldBy c u k ts q budgets tops firsts sets) (favours : Favoured (worked_for ts.partitions k.running) set) where
    pub whole : Whole c u k ts q h budgets tops firsts sets set
    whole = record {
      sixteen = room.sixteen;
      shares = room.shares;
      sizes = regular;
      full = room.full;
      taken = taken;
      held = held;
      favours = favours;
    }

    -- what is decided from what is kept
    pub decides : (d : Decision) → DecidesKept c u budgets tops firsts sets set d → decided_of d ≡ decide s (favoured s)
    decides d f =
        f k ts q h (worked_for ts.partitions k.running) regular settled held favours ∙ ap (decide s) (favoured_is c u k ts q regular)
