-- What the functions of the C interface are held to that no door has as it stands: the sheet's, over the settings' numbers as they are lent,
-- and what remains, as one lent number. Each answers a number, and 0 is no refusal.
use Rattle.std.specs.Prelude.{◌≢◌, ◌≡◌, ℕ, List, length, get_or}
use Rattle.units.specs.Units.{signed_of}
use Rattle.sheet.specs.Sheet.{settings_of, refused_sheet, refused_write, buffer_written}
use Rattle.model.specs.Answers.{Remainder}
use Rattle.model.specs.Lent.{settings_from}

-- a sheet's bytes were read into settings and shares, which were a and b
pub record SheetRead (sheet a b : List ℕ) (number : ℕ) (a' b' : List ℕ) : Type 0 where
  pub refusal : number ≡ refused_sheet sheet
  pub after : number ≡ 0 → settings_from a' b' ≡ settings_of sheet
  pub still : number ≢ 0 → (a' ≡ a) × (b' ≡ b)

-- the settings and shares a and b were written as a sheet into the lent bytes
pub record SheetWritten (a b bytes : List ℕ) (number : ℕ) (bytes' : List ℕ) : Type 0 where
  pub refusal : number ≡ refused_write (settings_from a b) (length bytes)
  -- the sheet and then what was there, or all that was there
  pub written : bytes' ≡ buffer_written (settings_from a b) bytes

-- what remains was told, in a word that was lent
pub record RemainderTold (told : Remainder) (word : List ℕ) (number : ℕ) (word' : List ℕ) : Type 0 where
  pub refusal : number ≡ told.refusal
  pub after : number ≡ 0 → signed_of (get_or word' 0 0) ≡ told.remaining
  pub still : number ≢ 0 → word' ≡ word
