-- "a sheet without it means 1" (request (iv) of document 02), of the start door and the calls of the event door after it.
use Rattle.std.specs.Prelude.{ℕ, ◌≡◌, List, map}
use Rattle.sheet.specs.Sheet.{settings_of}
use Rattle.model.specs.Lent.{Lent}
use Rattle.invariants.specs.Editions.{with_stated}
use Rattle.sessions.specs.Calls.{Call, given_to, Session}

-- the one sheet states no edition, the other states one and says the same in all else. The two sessions are lent equal histories, and their calls are
-- given the same bytes: the lines are the same
abbrev pub DoorStatedOrNot : Type 0
DoorStatedOrNot =
    (x : Lent) (sheet : List ℕ) (y : Lent) (calls : List Call) → Session x sheet y calls →
    (x' : Lent) (sheet' : List ℕ) (y' : Lent) (calls' : List Call) → Session x' sheet' y' calls' →
    (settings_of sheet).stated ≡ 0 → settings_of sheet' ≡ with_stated (settings_of sheet) 1 →
    x'.history ≡ x.history → given_to calls' ≡ given_to calls →
    map (λ c. c.line) calls' ≡ map (λ c. c.line) calls
