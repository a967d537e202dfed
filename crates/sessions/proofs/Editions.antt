-- A sheet that states edition 1 and one that states none, as the calls after their starts show it.
use Prim.Native.Nat.{ℕ}
use mathlib.Core.Path.{◌≡◌, refl, sym, ap, ap₂, ◌∙◌}
use mathlib.Core.List.{List, map}
use native.Mathlib.Omega.{arith}
use Rattle.sheet.specs.Sheet.{settings_of}
use Rattle.sheet.specs.declared.Settings.{Settings}
use Rattle.model.specs.Step.{Saved}
use Rattle.model.specs.Run.{fresh}
use Rattle.model.specs.Lent.{Lent}
use Rattle.invariants.specs.Editions.{with_stated, lines_from}
use Rattle.invariants.proofs.Fresh.{start_of}
use Rattle.invariants.proofs.Editions.{stated_or_not}
use Rattle.sessions.specs.Calls.{Call, given_to, Session}
use Rattle.sessions.specs.Editions.{DoorStatedOrNot}
use Rattle.sessions.proofs.Calls.{calls_are_run}

-- the lines of a session are those of the model's run
session_lines : (x : Lent) (sheet : List ℕ) (y : Lent) (calls : List Call) → Session x sheet y calls
    → map (λ c. c.line) calls ≡ lines_from (fresh (settings_of sheet) x.history) (given_to calls)
session_lines x sheet y calls k =
    (calls_are_run y calls k.called (k.begun.taken refl)).0.lines
    ∙ ap (λ (v : Saved). lines_from v (given_to calls)) (k.begun.after refl)

pub door_stated_or_not : DoorStatedOrNot
door_stated_or_not x sheet y calls k x' sheet' y' calls' k' plain other history given =
    session_lines x' sheet' y' calls' k'
    ∙ ap₂ (λ (c : Settings) (h : List ℕ). lines_from (fresh c h) (given_to calls')) other history
    ∙ ap (lines_from (fresh (with_stated c 1) h)) given
    ∙ (stated_or_not (fresh c h) one (given_to calls)).0
    ∙ ap (λ (n : ℕ). lines_from (fresh (with_stated c n) h) (given_to calls)) (sym plain)
    ∙ sym (session_lines x sheet y calls k)
  where
    c : Settings
    c = settings_of sheet

    h : List ℕ
    h = x.history

    one : c.edition ≡ 1
    one = (start_of sheet h (sym k.begun.refusal)).0.limits.unstated (omega (arith, plain))
