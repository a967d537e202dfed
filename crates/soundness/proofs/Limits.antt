-- The test of the settings, and the number by which a state is refused.
use Rattle.std.proofs.Common.{◌≡◌, ℕ, ◌*◌, ◌<◌, ◌≤◌, Bool, true, false, length, sym, refl, ◌∙◌, le-ltb, lt-ltb, eq-eqb}
use Rattle.std.specs.Prelude.{Result, Ok, Err, ⊤, is_err}
use Rattle.lists.proofs.Tests.{clash}
use Rattle.refusals.specs.Refusals.{number_of, outcome_of}
use Rattle.refusals.specs.declared.Refusal.{Refusal}
use Rattle.refusals.proofs.Laws.{never_zero}
use Rattle.sheet.specs.Settings.{W, within_limits, refused_settings}
use Rattle.sheet.specs.declared.Settings.{Settings}
use Rattle.sheet.proofs.Within.{not_refused, within_limits_law}
use Rattle.model.specs.Arrays.{columns_seen}
use Rattle.model.specs.declared.Clock.{Clock}
use Rattle.model.specs.declared.StateRef.{StateRef}
use Rattle.model.specs.Lent.{refused_arrays}
use Rattle.soundness.specs.Refused.{sound_in}

module _ (c : Settings) where
  pub limits_hold : (o : Result ⊤ Refusal) → is_err o ≡ false → outcome_of o ≡ refused_settings c → within_limits c ≡ true
  limits_hold (Ok _) e f = not_refused c (sym f)
  limits_hold (Err r) e f = clash refl e

  pub limits_fail : (o : Result ⊤ Refusal) → is_err o ≡ true → outcome_of o ≡ refused_settings c → within_limits c ≡ false
  limits_fail (Ok _) e f = clash e refl
  limits_fail (Err r) e f = go (within_limits c) refl
    where
      go : (z : Bool) → within_limits c ≡ z → z ≡ false
      go true w = clash (eq-eqb (number_of r) 0 (f ∙ within_limits_law c w)) (never_zero r)
      go false w = refl

-- ---- what is refused

module _ (c : Settings) (k : Clock) (x : StateRef) where
  abbrev number : ℕ
  number = refused_arrays c x.used.now k (columns_seen x) x.queue.now x.history.now

  pub refused_settings_law : within_limits c ≡ false → 8 ≡ number
  unfolding refused_arrays
  refused_settings_law e = rw e

  module _ (within : within_limits c ≡ true) where
    pub refused_short : length x.history.now < c.count * W c → 7 ≡ number
    unfolding refused_arrays
    refused_short e = rw (within, lt-ltb (length x.history.now) (c.count * W c) e)

    module _ (long : c.count * W c ≤ length x.history.now) {b : Bool} (is : b ≡ sound_in c x.used.now k (columns_seen x) x.queue.now x.history.now) where
      pub refused_sound : b ≡ true → 0 ≡ number
      unfolding refused_arrays
      refused_sound e = rw (within, le-ltb (length x.history.now) (c.count * W c) long, sym is ∙ e)

      pub refused_unsound : b ≡ false → 8 ≡ number
      unfolding refused_arrays
      refused_unsound e = rw (within, le-ltb (length x.history.now) (c.count * W c) long, sym is ∙ e)
