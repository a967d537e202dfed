-- A record of the share sheet, twelve bytes: letter, space, two digits, space, six digits, line feed.
use Rattle.std.specs.Prelude.{ℕ, zero, suc, ◌+◌, ◌-◌, ◌*◌, ◌/◌, ◌%◌, Bool, cond, ◌&&◌, List, [], ◌∷◌, ◌++◌, get_or, take, drop, eqb, leb, Result, Ok, Err}
use Rattle.refusals.specs.Refusals.{number_of}
use Rattle.refusals.specs.declared.Refusal.{Refusal}

-- ---- what reading a record answers, in the paper's numbers

-- the refusal, or 0, and the value, 0 beside a refusal
pub record Said : Type 0 where
  pub refusal : ℕ
  pub value : ℕ

abbrev pub says : ℕ → Said
says v = record { refusal = 0; value = v }

-- 2: "letter, order, digit, space, line feed or two-digit number wrong"
abbrev pub wrong_form : Said
wrong_form = record { refusal = 2; value = 0 }

abbrev pub accepted : Said → Bool
accepted s = eqb s.refusal 0

-- the number and the value of what a record reads as
abbrev pub said_by : Result ℕ Refusal → Said
said_by (Ok v) = says v
said_by (Err r) = record { refusal = number_of r; value = 0 }

-- ---- reading

-- 0 to 9 and nothing else: a comma, a point or a minus is no digit
abbrev pub is_digit : ℕ → Bool
is_digit b = leb 48 b && leb b 57

-- the number that decimal digits spell after v has been read; refused if any byte is no digit
unfoldable pub number_from : ℕ → List ℕ → Said
number_from v [] = says v
number_from v (b ∷ l) = cond (is_digit b) (number_from (v * 10 + (b - 48)) l) wrong_form

-- the letter, the spaces and the line feed are in their places
unfoldable pub framed : List ℕ → ℕ → Bool
framed r letter = eqb (get_or r 0 0) letter && (eqb (get_or r 1 0) 32 && (eqb (get_or r 4 0) 32 && eqb (get_or r 11 0) 10))

-- f, where what was just read is the number wanted
abbrev pub only_if : Said → ℕ → Said → Said
only_if read wanted f = cond (accepted read && eqb read.value wanted) f wrong_form

-- what the record says: the six digits, if the letter and the two-digit number are those that belong there
unfoldable pub field_of : List ℕ → ℕ → ℕ → Said
field_of r letter number =
    cond (framed r letter) (only_if (number_from 0 (take 2 (drop 2 r))) number (number_from 0 (take 6 (drop 5 r)))) wrong_form

-- ---- writing

-- v in n decimal digits
unfoldable pub digits_of : ℕ → ℕ → List ℕ
digits_of zero v = []
digits_of (suc n) v = digits_of n (v / 10) ++ ((48 + v % 10) ∷ [])

-- the record that says the value
unfoldable pub record_of : ℕ → ℕ → ℕ → List ℕ
record_of letter number value = letter ∷ 32 ∷ digits_of 2 number ++ (32 ∷ digits_of 6 value ++ (10 ∷ []))
