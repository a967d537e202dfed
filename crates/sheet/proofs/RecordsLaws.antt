-- Laws of one record: what it says, and the record that says it.
use mathlib.Core.Path.{◌≡◌, refl, sym, ap, ◌∙◌}
use Prim.Native.Nat.{ℕ, ◌+◌, ◌≤◌, ◌<◌}
use mathlib.Core.Bool.{Bool, true, false, cond, ◌&&◌}
use mathlib.Core.List.{List, [], ◌∷◌, ◌++◌}
use lib.ListN.{length, get_or, take, drop, set, length-take, length-drop}
use lib.Dec.{eqb}
use borrow.Rule.Slice.PartMut.{put_mid}
use borrow.Author.Tests.{eqb-true, eq-eqb}
use native.Mathlib.Omega.{arith}
use Rattle.lists.proofs.Tests.{both}
use Rattle.lists.proofs.Tables.{by_length}
use Rattle.std.specs.Prelude.{Err}
use Rattle.refusals.specs.declared.Refusal.{Refusal}
use Rattle.refusals.proofs.Laws.{never_zero}
use Rattle.sheet.specs.Records.{Said, said_by, says, wrong_form, accepted, number_from, framed, only_if, field_of, digits_of, record_of}
use Rattle.sheet.proofs.Digits.{no_value, refused_form, read_written, written_read}

-- ---- reading

pub is_value : (f : Said) → accepted f ≡ true → f ≡ says f.value
is_value f e = λ i. record { refusal = eqb-true f.refusal 0 e i; value = f.value }

-- no bytes say nothing
pub no_record : (letter number : ℕ) → field_of [] letter number ≡ wrong_form
unfolding field_of framed
no_record letter number = go (eqb 0 letter)
  where
    go : (b : Bool) → cond (b && false) (only_if (number_from 0 []) number (number_from 0 [])) wrong_form ≡ wrong_form
    go true = refl
    go false = refl

-- a record whose two digits are refused
pub digits_refused : (r : List ℕ) (letter number : ℕ) (x : Refusal) → framed r letter ≡ true → said_by (Err x) ≡ number_from 0 (take 2 (drop 2 r))
    → said_by (Err x) ≡ field_of r letter number
unfolding field_of
digits_refused r letter number x f e =
    let none : accepted (number_from 0 (take 2 (drop 2 r))) ≡ false = ap accepted (sym e) ∙ never_zero x in
    rw (f, none) (e ∙ refused_form 0 (take 2 (drop 2 r)) none)

-- ---- writing

-- two and six digits, and then what stands around them, make a record out of any twelve bytes
abbrev Made : (letter number value : ℕ) → List ℕ → Type 0
Made letter number value out =
    (a b : List ℕ) → a ≡ digits_of (length (take 2 (drop 2 out))) number → b ≡ digits_of (length (take 6 (drop 5 (put_mid 2 2 out a)))) value
    → set (set (set (set (put_mid 5 6 (put_mid 2 2 out a) b) 0 letter) 1 32) 4 32) 11 10 ≡ record_of letter number value

pub written_record : (letter number value : ℕ) (out : List ℕ) → length out ≡ 12 → Made letter number value out
unfolding record_of digits_of
written_record letter number value = by_length 12 (Made letter number value) (λ x₀ x₁ x₂ x₃ x₄ x₅ x₆ x₇ x₈ x₉ x₁₀ x₁₁ a b e f. rw (f, e))

pub record_length : (letter number value : ℕ) → length (record_of letter number value) ≡ 12
unfolding record_of digits_of
record_length letter number value = refl

-- ---- what a written record says

pub field_written : (letter number value : ℕ) → number < 100 → value < 1000000
    → field_of (record_of letter number value) letter number ≡ says value
unfolding field_of framed record_of digits_of
field_written letter number value h k =
    rw (eq-eqb letter letter refl, read_written 2 number h, eq-eqb number number refl) (read_written 6 value k)

-- ---- a record that says a value is the record of that value

cond_value : (b : Bool) (f : Said) (v : ℕ) → cond b f wrong_form ≡ says v → (b ≡ true) × (f ≡ says v)
cond_value true f v e = (refl, e)
cond_value false f v e = absurd (no_value (sym e))

only_value : (f g : Said) (wanted v : ℕ) → only_if f wanted g ≡ says v → (f ≡ says wanted) × (g ≡ says v)
only_value f g wanted v e =
    let (a, b) = cond_value (accepted f && eqb f.value wanted) g v e in
    let (read, same) = both (accepted f) (eqb f.value wanted) a in
    (is_value f read ∙ ap says (eqb-true f.value wanted same), b)

-- twelve bytes, taken apart
abbrev parts : List ℕ → List ℕ
parts r = get_or r 0 0 ∷ get_or r 1 0 ∷ (take 2 (drop 2 r) ++ (get_or r 4 0 ∷ (take 6 (drop 5 r) ++ (get_or r 11 0 ∷ []))))

twelve : (r : List ℕ) → length r ≡ 12 → r ≡ parts r
twelve = by_length 12 (λ r. r ≡ parts r) (λ x₀ x₁ x₂ x₃ x₄ x₅ x₆ x₇ x₈ x₉ x₁₀ x₁₁. refl)

assemble : (letter b₀ b₁ b₄ b₁₁ : ℕ) (d₂ t₂ d₆ t₆ r : List ℕ) → b₀ ≡ letter → b₁ ≡ 32 → b₄ ≡ 32 → b₁₁ ≡ 10 → d₂ ≡ t₂ → d₆ ≡ t₆
    → r ≡ b₀ ∷ b₁ ∷ (t₂ ++ (b₄ ∷ (t₆ ++ (b₁₁ ∷ [])))) → letter ∷ 32 ∷ (d₂ ++ (32 ∷ (d₆ ++ (10 ∷ [])))) ≡ r
assemble letter b₀ b₁ b₄ b₁₁ d₂ t₂ d₆ t₆ r e₀ e₁ e₄ e₁₁ f₂ f₆ g = cc

pub record_is : (letter number v : ℕ) (r : List ℕ) → length r ≡ 12 → field_of r letter number ≡ says v → record_of letter number v ≡ r
unfolding field_of framed record_of
record_is letter number v r e f =
    let (g, h) = cond_value (framed r letter) (only_if (number_from 0 (take 2 (drop 2 r))) number (number_from 0 (take 6 (drop 5 r)))) v f in
    let (two, six) = only_value (number_from 0 (take 2 (drop 2 r))) (number_from 0 (take 6 (drop 5 r))) number v h in
    let (b₀, g₁) = both _ _ g in
    let (b₁, g₂) = both _ _ g₁ in
    let (b₄, b₁₁) = both _ _ g₂ in
    assemble letter _ _ _ _ (digits_of 2 number) (take 2 (drop 2 r)) (digits_of 6 v) (take 6 (drop 5 r)) r
    (eqb-true _ _ b₀) (eqb-true _ _ b₁) (eqb-true _ _ b₄) (eqb-true _ _ b₁₁)
    (ap (λ (k : ℕ). digits_of k number) (sym (part 2 2 (omega arith))) ∙ written_read (take 2 (drop 2 r)) number two)
    (ap (λ (k : ℕ). digits_of k v) (sym (part 6 5 (omega arith))) ∙ written_read (take 6 (drop 5 r)) v six)
    (twelve r e)
  where
    part : (k j : ℕ) → k + j ≤ 12 → length (take k (drop j r)) ≡ k
    part k j h = simp (length-take, length-drop) (omega arith)
