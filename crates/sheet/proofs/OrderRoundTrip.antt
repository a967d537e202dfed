-- The records of a sheet, read and written back, and written and read back.
use mathlib.Core.Path.{◌≡◌, refl, sym, ap, ap₂, ◌∙◌}
use mathlib.Core.Bool.{cond}
use lib.Dec.{eqb}
use borrow.Author.Tests.{le-leb, lt-leb}
use Prim.Native.Nat.{ℕ, zero, suc, ◌+◌, ◌*◌, ◌≤◌, ◌<◌}
use mathlib.Core.List.{List, ◌++◌}
use lib.ListN.{length, get_or, take, drop, length-take, length-drop}
use lib.Seq.{take_all, take-add, drop_at, take-append-le, drop-append-le, get_or-take, get_or-drop}
use native.Mathlib.Omega.{arith}
use native.Mathlib.Decide.{dec_le, dec_lt}
use native.Mathlib.Nat.{not-suc-le-zero}
use Rattle.sheet.specs.Records.{says, field_of, record_of}
use Rattle.sheet.proofs.RecordsLaws.{record_length, record_is, field_written}
use Rattle.sheet.specs.Order.{letter_at, number_at, record_count, head_of, field_at, value_at, records_of}
use Rattle.sheet.proofs.OrderReading.{Whole}
use Rattle.sheet.proofs.OrderWriting.{records_length}

-- the twelve bytes of record i, and the record that says its value
record_at : List ℕ → ℕ → List ℕ
record_at bs i = take 12 (drop (12 * i) bs)

record_for : ℕ → (ℕ → ℕ) → ℕ → List ℕ
record_for head value i = record_of (letter_at head i) (number_at head i) (value i)

-- ---- read and written back

first_records : (bs : List ℕ) (head : ℕ) (value : ℕ → ℕ) (n : ℕ) → ((i : ℕ) → i < n → record_for head value i ≡ record_at bs i)
    → records_of head value n ≡ take (12 * n) bs
unfolding records_of record_at record_for
first_records bs head value zero f = refl
first_records bs head value (suc n) f =
    let e : 12 * suc n ≡ 12 * n + 12 = omega arith in
    rw (e, take-add (12 * n) 12 bs) (ap₂ ◌++◌ (first_records bs head value n (λ i b. f i (omega arith))) (f n (omega arith)))

-- the records that say the values of a sheet are the sheet
pub read_then_written : (bs : List ℕ) → Whole bs → ((i : ℕ) → i < record_count bs → field_at bs i ≡ says (value_at bs i))
    → records_of (head_of bs) (value_at bs) (record_count bs) ≡ bs
unfolding record_at record_for field_at
read_then_written bs whole formed =
    first_records bs (head_of bs) (value_at bs) (record_count bs)
    (λ i h. record_is (letter_at (head_of bs) i) (number_at (head_of bs) i) (value_at bs i) (take 12 (drop (12 * i) bs)) (long i h) (formed i h))
    ∙ take_all (12 * record_count bs) bs (omega (arith, whole.exact))
  where
    long : (i : ℕ) → i < record_count bs → length (take 12 (drop (12 * i) bs)) ≡ 12
    long i h = simp (length-take, length-drop) (omega (arith, whole.exact))

-- ---- written and read back

-- where a written record stands
record_at_law : (head : ℕ) (value : ℕ → ℕ) (n i : ℕ) → i < n → record_at (records_of head value n) i ≡ record_for head value i
unfolding records_of record_at record_for
record_at_law head value zero i h = absurd (not-suc-le-zero h)
record_at_law head value (suc n) i h = go (dec_lt i n) (λ b. record_at_law head value n i b)
  where
    a : List ℕ
    a = records_of head value n

    rec : ℕ → List ℕ
    rec j = record_of (letter_at head j) (number_at head j) (value j)

    go : Dec (i < n) → (i < n → take 12 (drop (12 * i) a) ≡ rec i) → take 12 (drop (12 * i) (a ++ rec n)) ≡ rec i
    go (yes b) ih =
        let room : 12 * i + 12 ≤ length a = rw (records_length head value n) (omega arith) in
        let fit : 12 ≤ length (drop (12 * i) a) = rw length-drop (omega arith) in
        ap (take 12) (drop-append-le (12 * i) a (rec n) (omega arith)) ∙ take-append-le 12 (drop (12 * i) a) (rec n) fit ∙ ih b
    go (no b) ih =
        let w : i ≡ n = omega arith in
        rw w
        (ap (take 12) (drop_at a (rec n) (12 * n) (records_length head value n))
        ∙ take_all 12 (rec n) (omega (arith, record_length (letter_at head n) (number_at head n) (value n))))

-- what is written says how many records stand before the first S: the fifth is an E or an S
pub head_written : (head : ℕ) (value : ℕ → ℕ) (n : ℕ) → 4 ≤ head → head ≤ 5 → head < n → head_of (records_of head value n) ≡ head
unfolding head_of record_at record_for letter_at record_of
head_written head value n low high h = fifth ∙ go (dec_le head 4)
  where
    bs : List ℕ
    bs = records_of head value n

    letter : get_or bs 48 0 ≡ letter_at head 4
    letter =
        sym (get_or-drop 48 bs 0 0) ∙ sym (get_or-take 12 (drop 48 bs) 0 0 (omega arith))
        ∙ ap (λ (r : List ℕ). get_or r 0 0) (record_at_law head value n 4 (omega arith))

    fifth : head_of bs ≡ cond (eqb (letter_at head 4) 69) 5 4
    fifth = ap (λ (x : ℕ). cond (eqb x 69) 5 4) letter

    go : Dec (head ≤ 4) → cond (eqb (letter_at head 4) 69) 5 4 ≡ head
    go (yes k) = rw (le-leb head 4 k) (omega arith)
    go (no k) = rw (lt-leb head 4 (omega arith)) (omega arith)

-- each says its value
pub written_then_read : (head : ℕ) (value : ℕ → ℕ) (n i : ℕ) → 4 ≤ head → head ≤ 5 → head < n → n ≤ 21 → i < n → value i < 1000000
    → field_at (records_of head value n) i ≡ says (value i)
unfolding field_at record_at record_for
written_then_read head value n i low high some few h small =
    rw (head_written head value n low high some)
    (ap (λ (r : List ℕ). field_of r (letter_at head i) (number_at head i)) (record_at_law head value n i h)
    ∙ field_written (letter_at head i) (number_at head i) (value i) (omega arith) small)
