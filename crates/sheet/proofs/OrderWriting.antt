-- Laws of the records of a sheet, written.
use mathlib.Core.Path.{◌≡◌, refl, ap₂, ◌∙◌}
use Prim.Native.Nat.{ℕ, zero, suc, ◌+◌, ◌-◌, ◌*◌, ◌<◌}
use mathlib.Core.List.{List, ◌++◌, append_assoc}
use lib.ListN.{length, drop, length-append}
use lib.Seq.{take_at, drop_at, drop-drop}
use native.Mathlib.Numerals.{add-one}
use native.Mathlib.Omega.{arith}
use borrow.Rule.Slice.PartMut.{put_mid}
use Rattle.sheet.specs.Records.{record_of}
use Rattle.sheet.proofs.RecordsLaws.{record_length}
use Rattle.sheet.specs.Order.{letter_at, number_at, records_of}

pub records_length : (head : ℕ) (value : ℕ → ℕ) (n : ℕ) → length (records_of head value n) ≡ 12 * n
unfolding records_of
records_length head value zero = refl
records_length head value (suc n) =
    length-append (records_of head value n) (record_of (letter_at head n) (number_at head n) (value n))
    ∙ rw (records_length head value n, record_length (letter_at head n) (number_at head n) (value n)) (omega arith)

-- the same values make the same records
pub records_same : (head : ℕ) (f g : ℕ → ℕ) (n : ℕ) → ((i : ℕ) → i < n → f i ≡ g i) → records_of head f n ≡ records_of head g n
unfolding records_of
records_same head f g zero e = refl
records_same head f g (suc n) e =
    let last : f n ≡ g n = e n (omega arith) in
    ap₂ (λ (l : List ℕ) (v : ℕ). l ++ record_of (letter_at head n) (number_at head n) v) (records_same head f g n (λ i h. e i (omega arith))) last

-- one more record in its part of the buffer
pub written_more : (head : ℕ) (value : ℕ → ℕ) (buffer : List ℕ) (i : ℕ) {letter number : ℕ} {part : List ℕ}
    → letter ≡ letter_at head i → number ≡ number_at head i → part ≡ record_of letter number (value i)
    → put_mid (12 * i) (12 * i + 12 - 12 * i) (records_of head value i ++ drop (12 * i) buffer) part
    ≡ records_of head value (i + 1) ++ drop (12 * (i + 1)) buffer
unfolding records_of
written_more head value buffer i a b e =
    let size : length (records_of head value i) ≡ 12 * i = records_length head value i in
    let twelve : 12 * i + 12 - 12 * i ≡ 12 = omega arith in
    let next : 12 * (i + 1) ≡ 12 * i + 12 = omega arith in
    rw (
      e,
      a,
      b,
      twelve,
      next,
      add-one,
      append_assoc,
      take_at (records_of head value i) (drop (12 * i) buffer) (12 * i) size,
      drop_at (records_of head value i) (drop (12 * i) buffer) (12 * i) size,
      drop-drop 12 (12 * i) buffer,
    )
