-- Laws of the records of a sheet, read.
use mathlib.Core.Path.{◌≡◌, sym, ap, ◌∙◌}
use Prim.Native.Nat.{ℕ, ◌+◌, ◌-◌, ◌*◌, ◌%◌, ◌≤◌, ◌<◌}
use mathlib.Core.Bool.{Bool, true, false, cond, ◌&&◌}
use mathlib.Core.List.{List, [], ◌++◌, map}
use lib.ListN.{length, get_or, take, drop, replicate, drop_of_length-le, length-append, length-drop}
use lib.Seq.{take_at, drop_at, drop-drop}
use lib.Dec.{eqb, leb}
use borrow.Author.Tests.{eqb-true, leb-true}
use native.Mathlib.Omega.{arith}
use Rattle.lists.specs.Lists.{below}
use Rattle.lists.proofs.Tests.{both}
use Rattle.lists.proofs.All.{all_fails, all_below}
use Rattle.lists.proofs.Tables.{table_filled}
use Rattle.sheet.specs.Records.{Said, says, accepted, field_of}
use Rattle.sheet.proofs.RecordsLaws.{is_value, no_record}
use Rattle.sheet.specs.Order.{letter_at, number_at, record_count, head_of, whole_records, field_at, value_at, values_of, records_formed}

-- ---- how many

pub record Whole (bs : List ℕ) : Type 0 where
  pub exact : length bs ≡ 12 * record_count bs
  pub low : head_of bs + 1 ≤ record_count bs
  pub high : record_count bs ≤ head_of bs + 16

-- four or five stand before the first S
pub head_is : (bs : List ℕ) → (4 ≤ head_of bs) × (head_of bs ≤ 5)
unfolding head_of
head_is bs = go (eqb (get_or bs 48 0) 69)
  where
    go : (z : Bool) → (4 ≤ cond z 5 4) × (cond z 5 4 ≤ 5)
    go true = (omega arith, omega arith)
    go false = (omega arith, omega arith)

pub whole_of : (bs : List ℕ) → whole_records bs ≡ true → Whole bs
unfolding whole_records
whole_of bs e =
    let (e₁, c) = both (eqb (length bs % 12) 0 && leb (head_of bs + 1) (record_count bs)) (leb (record_count bs) (head_of bs + 16)) e in
    let (a, b) = both (eqb (length bs % 12) 0) (leb (head_of bs + 1) (record_count bs)) e₁ in
    let even : length bs % 12 ≡ 0 = eqb-true _ _ a in
    record { exact = omega arith; low = leb-true _ _ b; high = leb-true _ _ c }

-- at most 21
pub count_high : (bs : List ℕ) → Whole bs → record_count bs ≤ 21
count_high bs w = omega (arith, w.high, (head_is bs).1)

-- ---- one record

-- a chunk of twelve bytes, where as many chunks as i stand before it, is record i
pub chunk_is : (bs rest chunk after : List ℕ) (size i : ℕ) → size ≡ 12 → rest ≡ drop (12 * i) bs → rest ≡ chunk ++ after → length chunk ≡ size
    → (chunk ≡ take 12 (drop (12 * i) bs)) × (after ≡ drop (12 * (i + 1)) bs) × (i < record_count bs)
chunk_is bs rest chunk after size i twelve e f h =
    let long : length chunk ≡ 12 = h ∙ twelve in
    let here : drop (12 * i) bs ≡ chunk ++ after = sym e ∙ f in
    let next : 12 * (i + 1) ≡ 12 * i + 12 = omega arith in (
      sym (ap (take 12) here ∙ take_at chunk after 12 long),
      rw (next, ← drop-drop 12 (12 * i) bs) (sym (ap (drop 12) here ∙ drop_at chunk after 12 long)),
      omega (arith, ap length here, length-drop (12 * i) bs, length-append chunk after),
    )

-- what was read as record i is what it says
pub field_is : (bs : List ℕ) (i head : ℕ) {letter number : ℕ} {chunk : List ℕ} {r : Said} → head ≡ head_of bs → letter ≡ letter_at head i → number ≡ number_at head i
    → chunk ≡ take 12 (drop (12 * i) bs) → r ≡ field_of chunk letter number → field_at bs i ≡ r
unfolding field_at
field_is bs i head h a b t e = rw (e, a, b, t, ← h)

pub value_is : (bs : List ℕ) (i v : ℕ) → field_at bs i ≡ says v → (value_at bs i ≡ v) × (accepted (field_at bs i) ≡ true)
unfolding value_at
value_is bs i v e = (ap (λ (s : Said). s.value) e, ap accepted e)

-- past the last record nothing is said
pub value_past : (bs : List ℕ) → Whole bs → (i : ℕ) → record_count bs ≤ i → value_at bs i ≡ 0
unfolding value_at field_at
value_past bs w i h =
    let out : drop (12 * i) bs ≡ [] = drop_of_length-le bs {i = 12 * i} (omega (arith, w.exact)) in
    ap (λ (l : List ℕ). (field_of (take 12 l) (letter_at (head_of bs) i) (number_at (head_of bs) i)).value) out
    ∙ ap (λ (s : Said). s.value) (no_record (letter_at (head_of bs) i) (number_at (head_of bs) i))

-- ---- all records

-- one that is refused refuses the sheet
pub formed_not : (bs : List ℕ) (i : ℕ) → i < record_count bs → accepted (field_at bs i) ≡ false → records_formed bs ≡ false
unfolding records_formed
formed_not bs i h e = all_fails (λ i. accepted (field_at bs i)) (record_count bs) i h e

-- where none is, each says its value
pub formed_of : (bs : List ℕ) → records_formed bs ≡ true → (i : ℕ) → i < record_count bs → field_at bs i ≡ says (value_at bs i)
unfolding records_formed value_at
formed_of bs e i h = is_value (field_at bs i) (all_below (λ j. accepted (field_at bs j)) (record_count bs) e i h)

-- past the last record there are zeros
pub values_are : (bs : List ℕ) → Whole bs → map (value_at bs) (below (record_count bs)) ++ replicate (21 - record_count bs) 0 ≡ values_of bs
unfolding values_of
values_are bs w = table_filled (value_at bs) 0 21 (record_count bs) (count_high bs w) (value_past bs w)
