-- A sheet that was read: its answer over the settings' numbers as they are lent.
use mathlib.Core.Path.{◌≡◌, refl, sym, ap, ◌∙◌}
use Prim.Native.Nat.{ℕ}
use mathlib.Core.List.{List}
use Rattle.std.specs.Prelude.{⊤, Result, Ok}
use Rattle.refusals.specs.Refusals.{outcome_of}
use Rattle.refusals.specs.declared.Refusal.{Refusal}
use Rattle.sheet.specs.Sheet.{settings_of, refused_sheet, settings_read}
use Rattle.sheet.specs.declared.Settings.{Settings}
use Rattle.model.specs.Lent.{settings_from}
use Rattle.saplingloft.specs.Interface.{SheetRead}

-- of the sheet o was answered, that it is accepted, and c read
module _ (sheet a b : List ℕ) (o : Result ⊤ Refusal) (e : outcome_of o ≡ refused_sheet sheet) (c : Settings) (f : o ≡ Ok tt) (i : c ≡ settings_read sheet) where
  none_refused : refused_sheet sheet ≡ 0
  none_refused = sym e ∙ ap outcome_of f

  is_read : c ≡ settings_of sheet
  unfolding settings_read
  is_read = i ∙ rw none_refused

  pub read_yes : (a' b' : List ℕ) → settings_from a' b' ≡ c → SheetRead sheet a b 0 a' b'
  read_yes a' b' g = record { refusal = sym none_refused; after = λ _. g ∙ is_read; still = λ n. absurd (n refl) }
