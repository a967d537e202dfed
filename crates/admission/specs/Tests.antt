-- The tests of an event, over just the numbers that each looks at.
use Rattle.std.specs.Prelude.{◌≡◌, ℕ, ◌+◌, ◌*◌, Bool, true, not, cond, ◌&&◌, ◌||◌, List, leb, ltb, eqb, get_or, Result, Ok}
use Rattle.units.specs.Units.{elapsed_of}
use Rattle.refusals.specs.Refusals.{outcome_of}
use Rattle.refusals.specs.declared.Refusal.{Refusal}
use Rattle.sheet.specs.declared.Settings.{Settings}
use Rattle.model.specs.Slices.{round_robin}
use Rattle.model.specs.Event.{well_formed, stamp_of, refused_event}
use Rattle.model.specs.Arrays.{Columns, with_flag_columns, state_of}
use Rattle.model.specs.declared.Clock.{Clock}
use Rattle.event.specs.Bytes.{bytes_of, DecodedFrom}
use Rattle.event.specs.declared.Event.{Event}

-- 10, of the kind k
unfoldable pub late : ℕ → ℕ → ℕ → ℕ → ℕ → Bool
late k new stamp since tick = not (eqb k 7) && ltb (2 * tick) (since + elapsed_of new stamp)

-- 11, 12 and 13 by kind, of thread t, with the flags e and r
abbrev pub missing_in : List ℕ → ℕ → Bool
missing_in e t = leb 64 t || not (eqb (get_or e t 0) 1)

unfoldable pub create_refused : List ℕ → ℕ → ℕ → ℕ → ℕ → ℕ → ℕ
create_refused e count t p m o = cond (leb 64 t || eqb (get_or e t 0) 1) 11 (cond (leb count p || eqb m 0 || ltb round_robin o) 12 0)

unfoldable pub ready_refused : List ℕ → List ℕ → ℕ → ℕ
ready_refused e r t = cond (missing_in e t) 11 (cond (eqb (get_or r t 0) 1) 13 0)

unfoldable pub block_refused : List ℕ → List ℕ → ℕ → ℕ
block_refused e r t = cond (missing_in e t) 11 (cond (not (eqb (get_or r t 0) 1)) 13 0)

unfoldable pub other_refused : List ℕ → ℕ → ℕ
other_refused e t = cond (missing_in e t) 11 0

-- of a ready, where the flag is to be off, or a block, where it is to be on
abbrev pub readiness_refused : List ℕ → List ℕ → ℕ → Bool → ℕ
readiness_refused e r t wanted = cond wanted (block_refused e r t) (ready_refused e r t)

-- the outcome's number is the model's, whatever the other arrays are
abbrev pub Refuses : Settings → Clock → List ℕ → List ℕ → List ℕ → ℕ → Type 0
Refuses c k e r b o =
    (u : List ℕ) (ts : Columns) (q : List ℕ) → o ≡ refused_event (state_of c u k (with_flag_columns ts e r) q) b

-- an event that was not refused by its form has that form
pub record Formed (d : Result Event Refusal) : Type 0 where
  pub form : (x : Event) → d ≡ Ok x → well_formed (bytes_of x) ≡ true
  pub stamp : (x : Event) → d ≡ Ok x → x.stamp ≡ stamp_of (bytes_of x)

-- the outcome is the model's, of the bytes from which it was decoded
abbrev pub RefusesAll : Settings → Clock → List ℕ → List ℕ → Result Event Refusal → Result Event Refusal → Type 0
RefusesAll c k e r d o = (b : List ℕ) → DecodedFrom b d → Refuses c k e r b (outcome_of o)

-- what is accepted is the event that was decoded
abbrev pub AcceptsAs : Result Event Refusal → Result Event Refusal → Type 0
AcceptsAs d o = (x : Event) → o ≡ Ok x → d ≡ Ok x
