-- What the number by which arrays are refused tells of the state that they stand for, and of the flag of the edition.
use mathlib.Core.Path.{◌≡◌, refl, sym, ◌∙◌}
use Prim.Native.Nat.{ℕ, ◌*◌, ◌≤◌, ◌<◌}
use native.Mathlib.Decide.{dec_lt}
use native.Mathlib.Omega.{arith}
use mathlib.Core.Bool.{Bool, true, false, not, cond, ◌&&◌}
use mathlib.Core.List.{List}
use lib.Dec.{ltb}
use lib.ListN.{length, get_or}
use borrow.Author.Tests.{lt-ltb, le-ltb, ne_eqb, not-false}
use Rattle.lists.proofs.Tests.{both, passes}
use Rattle.lists.specs.Lists.{total}
use Rattle.sheet.specs.Settings.{W, C, share, within_limits, refused_settings}
use Rattle.sheet.specs.Sheet.{refused_write}
use Rattle.sheet.proofs.LimitsLaws.{other_flag}
use Rattle.sheet.proofs.Within.{limits_of}
use Rattle.sheet.specs.declared.Settings.{Settings}
use Rattle.model.specs.Arrays.{Columns, state_of, flags_fit}
use Rattle.model.specs.Sound as Model
use Rattle.model.specs.Event.{refused_state}
use Rattle.model.specs.declared.Clock.{Clock}
use Rattle.model.specs.Lent.{Lent, flag_from, lent_settings, refused_arrays, refused_in, OtherFlagsRefused}

module _ (c : Settings) (u : List ℕ) (k : Clock) (ts : Columns) (q h : List ℕ) where
  -- where every flag is 0 or 1, it is the model's number
  pub as_state : flags_fit ts ≡ true → refused_arrays c u k ts q h ≡ refused_state (state_of c u k ts q) h
  unfolding refused_arrays refused_state
  as_state x = rw x

  -- and where nothing is refused, every flag is
  pub accepted : refused_arrays c u k ts q h ≡ 0 → (flags_fit ts ≡ true) × (refused_state (state_of c u k ts q) h ≡ 0)
  unfolding refused_arrays
  accepted z =
      let fine : Bool = flags_fit ts && Model.sound (state_of c u k ts q) h in
      let (_, z₁) = passes (not (within_limits c)) 8 (cond (ltb (length h) (c.count * W c)) 7 (cond (not fine) 8 0)) tt z in
      let (_, z₂) = passes (ltb (length h) (c.count * W c)) 7 (cond (not fine) 8 0) tt z₁ in
      let (z₃, _) = passes (not fine) 8 0 tt z₂ in
      let (flags, _) = both (flags_fit ts) (Model.sound (state_of c u k ts q) h) (not-false fine z₃) in
      (flags, sym (as_state flags) ∙ z)

-- ---- the flag of the edition

-- a byte is its own flag
pub flag_back : (n : ℕ) → n < 256 → flag_from n ≡ n
unfolding flag_from
flag_back n b = rw (lt-ltb n 256 b)

-- and a word that is neither 0 nor 1 has another one
flag_above : (word : ℕ) → 1 < word → 1 < flag_from word
unfolding flag_from
flag_above word h = go (dec_lt word 256)
  where
    go : Dec (word < 256) → 1 < cond (ltb word 256) word 255
    go (yes b) = rw (lt-ltb word 256 b) h
    go (no b) = rw (le-ltb word 256 (omega arith)) (omega arith)

pub other_flags_refused : OtherFlagsRefused
unfolding refused_arrays refused_write refused_settings
other_flags_refused x h = (given (within_limits c) refl, written)
  where
    c : Settings
    c = lent_settings x

    above : 1 < c.stated
    above = flag_above (get_or x.settings 5 0) h

    given : (z : Bool) → within_limits c ≡ z → refused_in x ≡ 8
    given true e = let z : ⊥ = omega (arith, above, (limits_of c e).stated) in absurd z
    given false e = rw e

    written : (room : ℕ) → (1 ≤ refused_write c room) × (refused_write c room ≤ 5)
    written room =
        let (low, high) = other_flag c.count (W c) (C c) c.policy c.core c.edition c.stated (total c.count (share c)) above in
        rw (ne_eqb (refused_settings c) 0 (λ e. omega (arith, low, e))) (low, high)
