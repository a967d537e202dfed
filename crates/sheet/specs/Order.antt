-- The records of a share sheet in their order: W, C, P, M, E where the edition is stated, then an S for each partition.
use Rattle.std.specs.Prelude.{ℕ, suc, zero, ◌+◌, ◌-◌, ◌*◌, ◌/◌, ◌%◌, Bool, cond, ◌&&◌, List, [], ◌∷◌, ◌++◌, map, length, get_or, take, drop, leb, eqb, Result, Ok, Err}
use Rattle.refusals.specs.declared.Refusal.{Refusal}
use Rattle.refusals.specs.declared.Refusal.TheVariants.{Form}
use Rattle.lists.specs.Lists.{below, all}
use Rattle.sheet.specs.Records.{Said, accepted, field_of, record_of}

-- the letter of record i, where `head` records stand before the first S: W, C, P, M, E, then S
unfoldable pub letter_at : ℕ → ℕ → ℕ
letter_at head i = cond (leb head i) 83 (get_or (87 ∷ 67 ∷ 80 ∷ 77 ∷ []) i 69)

-- its two-digit number: 00 before the first S, then the partition's
abbrev pub number_at : ℕ → ℕ → ℕ
number_at head i = i - head

-- ---- reading

abbrev pub record_count : List ℕ → ℕ
record_count bs = length bs / 12

-- "The sheet gains an optional record E 00 after M": it is there "where the fifth begins with E"; so many records stand before the first S
unfoldable pub head_of : List ℕ → ℕ
head_of bs = cond (eqb (get_or bs 48 0) 69) 5 4

-- "A sheet then has 5 to 20 records, or 6 to 21 where the fifth begins with E"
unfoldable pub whole_records : List ℕ → Bool
whole_records bs = eqb (length bs % 12) 0 && leb (head_of bs + 1) (record_count bs) && leb (record_count bs) (head_of bs + 16)

-- what record i of a sheet says, and its value: 0 where there is no such record
unfoldable pub field_at : List ℕ → ℕ → Said
field_at bs i = field_of (take 12 (drop (12 * i) bs)) (letter_at (head_of bs) i) (number_at (head_of bs) i)

unfoldable pub value_at : List ℕ → ℕ → ℕ
value_at bs i = (field_at bs i).value

unfoldable pub records_formed : List ℕ → Bool
records_formed bs = all (λ i. accepted (field_at bs i)) (below (record_count bs))

-- the values of all the records that a sheet may have
unfoldable pub values_of : List ℕ → List ℕ
values_of bs = map (value_at bs) (below 21)

-- what reading the records answers: their values, or the refusal of a record that is not formed
unfoldable pub values_or_refusal : List ℕ → Result (List ℕ) Refusal
values_or_refusal bs = cond (records_formed bs) (Ok (values_of bs)) (Err Form)

-- ---- writing

-- the first n records that have the values value 0, value 1, .., with `head` of them before the first S
unfoldable pub records_of : ℕ → (ℕ → ℕ) → ℕ → List ℕ
records_of head value zero = []
records_of head value (suc i) = records_of head value i ++ record_of (letter_at head i) (number_at head i) (value i)
