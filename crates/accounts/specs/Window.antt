-- What a tick and a resume do, whatever the other arrays are: the state after is the model's of the state before.
use Rattle.std.specs.Prelude.{◌≡◌, ℕ, List}
use Rattle.sheet.specs.declared.Settings.{Settings}
use Rattle.model.specs.Arrays.{Columns, state_of}
use Rattle.model.specs.Step.{saved, move_slot, restart}
use Rattle.model.specs.declared.Clock.{Clock}

abbrev pub Moved : Settings → List ℕ → Clock → List ℕ → List ℕ → Clock → List ℕ → Type 0
Moved c u k h u' k' h' =
    (ts : Columns) (q : List ℕ) → saved (state_of c u' k' ts q) h' ≡ move_slot (saved (state_of c u k ts q) h)

abbrev pub Restarted : Settings → List ℕ → Clock → List ℕ → List ℕ → Clock → List ℕ → ℕ → Type 0
Restarted c u k h u' k' h' stamp =
    (ts : Columns) (q : List ℕ) → saved (state_of c u' k' ts q) h' ≡ restart (saved (state_of c u k ts q) h) stamp
