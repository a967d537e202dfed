-- How sheets, events, states and lines are written down in this crate.
use Rattle.std.specs.Prelude.{ℕ, ◌+◌, ◌/◌, ◌%◌, List, [], ◌∷◌, ◌++◌, map, length, take, replicate}
use Rattle.units.specs.declared.Percent.{Percent}
use Rattle.sheet.specs.declared.Settings.{Settings}
use Rattle.model.specs.Answers.{Line}

abbrev pub percents : List ℕ → List Percent
percents ns = take 16 (map (λ n. record { 0 = n }) ns ++ replicate 16 (record { 0 = 0 }))

-- settings by E and whether it is stated; W, C, P, M and the shares
abbrev pub kit_with : ℕ → ℕ → ℕ → ℕ → ℕ → ℕ → List ℕ → Settings
kit_with edition stated w c policy core shares =
    record {
      window = record { 0 = w };
      tick = record { 0 = c };
      policy = policy;
      core = core;
      edition = edition;
      stated = stated;
      count = length shares;
      shares = percents shares;
    }

-- where no E is stated: W, C, P, M and the shares; and where this edition is
abbrev pub kit : ℕ → ℕ → ℕ → ℕ → List ℕ → Settings
kit w c policy core shares = kit_with 1 0 w c policy core shares

abbrev pub kit_in : ℕ → ℕ → ℕ → ℕ → ℕ → List ℕ → Settings
kit_in edition w c policy core shares = kit_with edition 1 w c policy core shares

-- a tick of 1000 cycles, policy 0, core 0, two partitions with half the processor each
abbrev pub halves : ℕ → Settings
halves w = kit w 1000 0 0 (50 ∷ 50 ∷ [])

-- ---- records of a sheet: the letter's byte, the two digits, the six digits

abbrev pub sheet_record : ℕ → ℕ → ℕ → List ℕ
sheet_record letter n v =
    letter ∷ 32 ∷ (48 + n / 10) ∷ (48 + n % 10) ∷ 32 ∷ (48 + v / 100000) ∷ (48 + v / 10000 % 10) ∷ (48 + v / 1000 % 10) ∷ (48 + v / 100 % 10)
    ∷ (48 + v / 10 % 10) ∷ (48 + v % 10) ∷ 10 ∷ []

-- ---- events: kind, thread, partition, priority, stamp, mask, policy

abbrev pub event : ℕ → ℕ → ℕ → ℕ → ℕ → ℕ → ℕ → List ℕ
event k t p n stamp m o =
    k ∷ t ∷ p ∷ n ∷ (stamp % 256) ∷ (stamp / 256 % 256) ∷ (stamp / 65536 % 256) ∷ (stamp / 16777216) ∷ m ∷ o ∷ 0 ∷ 0 ∷ []

abbrev pub tick : ℕ → List ℕ
tick stamp = event 1 0 0 0 stamp 0 0

-- with this policy and this run mask; first in, first out, with this run mask; and so on core 0 alone
abbrev pub create_as : ℕ → ℕ → ℕ → ℕ → ℕ → ℕ → List ℕ
create_as policy mask t p n stamp = event 2 t p n stamp mask policy

abbrev pub create_on : ℕ → ℕ → ℕ → ℕ → ℕ → List ℕ
create_on mask t p n stamp = create_as 0 mask t p n stamp

abbrev pub create : ℕ → ℕ → ℕ → ℕ → List ℕ
create t p n stamp = create_on 1 t p n stamp

abbrev pub ready : ℕ → ℕ → List ℕ
ready t stamp = event 3 t 0 0 stamp 0 0

abbrev pub block : ℕ → ℕ → List ℕ
block t stamp = event 4 t 0 0 stamp 0 0

abbrev pub set_priority : ℕ → ℕ → ℕ → List ℕ
set_priority t n stamp = event 5 t 0 n stamp 0 0

abbrev pub end : ℕ → ℕ → List ℕ
end t stamp = event 6 t 0 0 stamp 0 0

abbrev pub resume : ℕ → List ℕ
resume stamp = event 7 0 0 0 stamp 0 0

-- ---- lines

abbrev pub line : ℕ → ℕ → ℕ → ℕ → Line
line r m p t = record { refusal = r; mode = m; partition = p; thread = t }

abbrev pub refusal : ℕ → Line
refusal n = line n 0 0 0
