-- Sheets with and without a record E, byte by byte: the number by which each is refused; where it is accepted, the edition that it says, whether it
-- states it, and how many partitions there are; and that it is written back as it came. Then given states of both editions, on both sides of what
-- must remain.
use Rattle.std.specs.Prelude.{ℕ, ◌+◌, Bool, cond, List, [], ◌∷◌, ◌++◌, take, set, replicate, eqb}
use Rattle.lists.specs.Lists.{all}
use Rattle.sheet.specs.Sheet.{settings_read, sheet_of}
use Rattle.model.specs.Arrays.{columns}
use Rattle.model.specs.Lent.{Lent}
use Rattle.cases.specs.Written.{sheet_record}
use Rattle.cases.specs.Computed.{sheet_number}
use Rattle.cases.specs.Places.{same_numbers}

pub record Sheet : Type 0 where
  pub bytes : List ℕ
  pub number : ℕ
  pub edition : ℕ
  pub stated : ℕ
  pub count : ℕ

-- refused, by this number; accepted, with the edition not stated, or stated
abbrev pub refused : ℕ → List ℕ → Sheet
refused number bytes = record { bytes = bytes; number = number; edition = 0; stated = 0; count = 0 }

abbrev pub unstated : ℕ → List ℕ → Sheet
unstated count bytes = record { bytes = bytes; number = 0; edition = 1; stated = 0; count = count }

abbrev pub states : ℕ → ℕ → List ℕ → Sheet
states edition count bytes = record { bytes = bytes; number = 0; edition = edition; stated = 1; count = count }

-- "zeros beside its number"; an accepted sheet is written back
abbrev pub read_of : Sheet → List ℕ
read_of x =
    sheet_number x.bytes ∷ (settings_read x.bytes).edition ∷ (settings_read x.bytes).stated ∷ (settings_read x.bytes).count
    ∷ cond (eqb (sheet_number x.bytes) 0) (sheet_of (settings_read x.bytes)) []

abbrev pub wanted_of : Sheet → List ℕ
wanted_of x = x.number ∷ x.edition ∷ x.stated ∷ x.count ∷ cond (eqb x.number 0) x.bytes []

abbrev pub told : List Sheet → Bool
told l = all (λ x. same_numbers (read_of x) (wanted_of x)) l

-- ---- how they are written down

-- the records W, C, P and M, of policy 0 and core 0; and of W 4 and C 1000
abbrev pub first_four : ℕ → ℕ → List ℕ
first_four w c = sheet_record 87 0 w ++ (sheet_record 67 0 c ++ (sheet_record 80 0 0 ++ sheet_record 77 0 0))

abbrev pub four : List ℕ
four = first_four 4 1000

-- the record E
abbrev pub edition : ℕ → List ℕ
edition v = sheet_record 69 0 v

-- the records S, numbered from n, or from 0
abbrev pub shares_from : ℕ → List ℕ → List ℕ
shares_from n [] = []
shares_from n (s ∷ ss) = sheet_record 83 n s ++ shares_from (n + 1) ss

abbrev pub shares : List ℕ → List ℕ
shares ss = shares_from 0 ss

-- one of 100, and n of 0
abbrev pub one : ℕ → List ℕ
one n = shares (100 ∷ replicate n 0)

-- `Exxxxxxxxxxx`
abbrev pub malformed : List ℕ
malformed = 69 ∷ replicate 11 120

abbrev pub sheets : List Sheet
sheets =
    -- "a sheet without it means 1"; "1 for the quarter and 2 for the half"
    unstated 2 (four ++ one 1) ∷ states 1 2 (four ++ (edition 1 ++ one 1)) ∷ states 2 2 (four ++ (edition 2 ++ one 1))
    -- "5 to 20 records, or 6 to 21 where the fifth begins with E"
    ∷ unstated 1 (four ++ one 0) ∷ unstated 16 (four ++ one 15) ∷ states 1 1 (four ++ (edition 1 ++ one 0))
    ∷ states 2 16 (four ++ (edition 2 ++ one 15))
    -- "any other number gives 1": 4, 21 and 22 records; of five the fifth begins with E; 22 with E
    ∷ refused 1 four ∷ refused 1 (four ++ one 16) ∷ refused 1 (four ++ one 17) ∷ refused 1 (four ++ edition 1) ∷ refused 1 (four ++ edition 2)
    ∷ refused 1 (four ++ (edition 2 ++ one 16))
    -- whole ones: a byte less, a byte more, and the fifth has its letter alone
    ∷ refused 1 (take 83 (four ++ (edition 1 ++ one 1))) ∷ refused 1 (four ++ (edition 1 ++ (one 1 ++ (10 ∷ [])))) ∷ refused 1 (four ++ (69 ∷ []))
    -- the number is looked at before any other syntax, and by the one byte: 1 before 2
    ∷ refused 1 (four ++ malformed) ∷ refused 1 (four ++ (malformed ++ one 16)) ∷ refused 2 (four ++ (malformed ++ one 15))
    ∷ refused 1 (set (four ++ edition 1) 0 88) ∷ refused 2 (set (four ++ (edition 1 ++ one 0)) 0 88)
    ∷ refused 1 (set (four ++ (edition 1 ++ one 15)) 48 101) ∷ refused 2 (set (four ++ (edition 1 ++ one 0)) 48 101)
    -- E malformed: nothing but its letter, another number than 00, a comma, no line feed
    ∷ refused 2 (four ++ (malformed ++ one 0)) ∷ refused 2 (four ++ (sheet_record 69 1 1 ++ one 0))
    ∷ refused 2 (set (four ++ (edition 1 ++ one 0)) 57 44) ∷ refused 2 (set (four ++ (edition 1 ++ one 0)) 59 13)
    -- E in another place: twice, before M, in place of M, first, after the first S, last
    ∷ refused 2 (four ++ (edition 1 ++ (edition 1 ++ one 0))) ∷ refused 2 (take 36 four ++ (edition 1 ++ (sheet_record 77 0 0 ++ one 0)))
    ∷ refused 2 (take 36 four ++ (edition 1 ++ one 0)) ∷ refused 2 (edition 1 ++ (four ++ one 0))
    ∷ refused 2 (four ++ (one 0 ++ edition 1)) ∷ refused 2 (four ++ (one 1 ++ edition 1))
    -- the numbers of S are the partitions', from 00, after E too
    ∷ refused 2 (four ++ (edition 1 ++ shares_from 1 (100 ∷ [])))
    -- "E other than 1 or 2 gives 5"
    ∷ refused 5 (four ++ (edition 0 ++ one 1)) ∷ refused 5 (four ++ (edition 3 ++ one 1)) ∷ refused 5 (four ++ (edition 999999 ++ one 1))
    -- 3 and 4 before 5, 5 before 6; and with E the others are refused as they were
    ∷ refused 3 (first_four 1 1000 ++ (edition 3 ++ one 0)) ∷ refused 4 (first_four 4 150 ++ (edition 3 ++ one 0))
    ∷ refused 5 (four ++ (edition 3 ++ shares (99 ∷ []))) ∷ refused 3 (first_four 401 1000 ++ (edition 2 ++ one 0))
    ∷ refused 4 (first_four 4 0 ++ (edition 2 ++ one 0)) ∷ refused 6 (four ++ (edition 2 ++ shares (99 ∷ [])))
    ∷ []

-- ---- given states

-- E, whether it is stated, what was charged since the last tick, and the mode that the decision door must tell
pub record Left : Type 0 where
  pub edition : ℕ
  pub stated : ℕ
  pub used : ℕ
  pub mode : ℕ

abbrev pub charged : ℕ → ℕ → ℕ → ℕ → Left
charged edition stated used mode = record { edition = edition; stated = stated; used = used; mode = mode }

-- what the first one has, and n zeros
abbrev pub first : ℕ → ℕ → List ℕ
first n a = a ∷ replicate n 0

-- what is lent for it: W 2, C 1000, one partition with one thread, which is ready and runs
abbrev pub lent_for : Left → Lent
lent_for x =
    record {
      settings = 2 ∷ 1000 ∷ 0 ∷ 0 ∷ x.edition ∷ x.stated ∷ 1 ∷ [];
      shares = first 15 100;
      used = first 15 x.used;
      clock = x.used ∷ 0 ∷ x.used ∷ 1 ∷ 0 ∷ [];
      threads = columns (first 63 1) (first 63 1) (replicate 64 0) (first 63 10) (first 63 1) (replicate 64 0) (replicate 64 0);
      queue = replicate 64 0;
      history = first 1 x.used;
    }

-- 250 of 2000 remain, and 249; 500, and 499: in underload the partition has budget, at limit it has none
abbrev pub given : List Left
given =
    charged 1 0 1750 2 ∷ charged 1 0 1751 3 ∷ charged 1 1 1750 2 ∷ charged 1 1 1751 3 ∷ charged 2 1 1500 2 ∷ charged 2 1 1501 3
    ∷ charged 1 0 1501 2 ∷ charged 2 1 1750 3
    ∷ []
