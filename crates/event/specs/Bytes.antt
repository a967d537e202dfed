-- The record of an event: the twelve bytes that say it.
use Rattle.std.specs.Prelude.{ℕ, ◌/◌, ◌%◌, List, [], ◌∷◌, ◌≡◌, Bool, not, cond, ◌&&◌, ◌||◌, eqb, length, Result, Ok}
use Rattle.refusals.specs.Refusals.{outcome_of}
use Rattle.refusals.specs.declared.Refusal.{Refusal}
use Rattle.model.specs.Event.{blank, well_formed, stamp_of}
use Rattle.event.specs.Kinds.{kind_number}
use Rattle.event.specs.declared.kinds.Uses.{Uses}
use Rattle.event.specs.declared.Event.{Event}

-- the stamp's bytes, low byte first
abbrev pub bytes_of : Event → List ℕ
bytes_of e =
    kind_number e.action ∷ e.thread ∷ e.partition ∷ e.priority
    ∷ (e.stamp % 256) ∷ (e.stamp / 256 % 256) ∷ (e.stamp / 65536 % 256) ∷ (e.stamp / 16777216)
    ∷ e.mask ∷ e.policy ∷ 0 ∷ 0 ∷ []

-- 9 by the column "uses" of the table of kinds: a known kind, and zero in every byte that it does not use
unfoldable pub formed_by : Uses → List ℕ → Bool
formed_by u b =
    u.known
    && (u.thread || blank b 1)
    && (u.place || blank b 2)
    && (u.priority || blank b 3)
    && (u.place || blank b 8)
    && (u.place || blank b 9)
    && blank b 10 && blank b 11

-- the number by which bytes are refused before anything else is looked at: 14, then 9, or 0
unfoldable pub refused_form : List ℕ → ℕ
refused_form b = cond (not (eqb (length b) 12)) 14 (cond (not (well_formed b)) 9 0)

-- what was decoded of the bytes b: refused, or an event whose record they are
pub record DecodedFrom (b : List ℕ) (d : Result Event Refusal) : Type 0 where
  pub refusal : outcome_of d ≡ refused_form b
  pub bytes : (e : Event) → d ≡ Ok e → b ≡ bytes_of e
  pub stamp : (e : Event) → d ≡ Ok e → e.stamp ≡ stamp_of b
