-- Laws of the digits: one more digit read or written, and the round trips.
use mathlib.Core.Path.{◌≡◌, refl, sym, ap, ◌∙◌}
use mathlib.Core.List.{List, [], ◌∷◌, ◌++◌, append_assoc, append-nil}
use mathlib.Core.Bool.{Bool, true, false, cond}
use Prim.Native.Nat.{ℕ, zero, suc, ◌+◌, ◌-◌, ◌*◌, ◌/◌, ◌%◌, ◌^◌, ◌<◌, ◌≤◌}
use native.Mathlib.Nat.{pow-suc, mul_assoc, div-div-eq-div-mul, mul_comm}
use native.Mathlib.Numerals.{add-one}
use native.Mathlib.Omega.{arith}
use native.Mathlib.Decide.{dec_le}
use borrow.Author.Tests.{le-leb, lt-leb}
use lib.ListN.{length, get_or, drop, set, drop_of_length-le, length-set}
use lib.Seq.{drop-cons, get_or-set_same, drop-set-lt}
use Rattle.sheet.specs.Records.{Said, says, wrong_form, accepted, is_digit, number_from, digits_of}

pub digit_yes : (b : ℕ) → 48 ≤ b → b ≤ 57 → is_digit b ≡ true
digit_yes b h k = rw (le-leb 48 b h, le-leb b 57 k)

pub digit_low : (b : ℕ) → b < 48 → is_digit b ≡ false
digit_low b h = rw (lt-leb 48 b h)

pub digit_high : (b : ℕ) → 57 < b → is_digit b ≡ false
digit_high b h =
    let k : 48 ≤ b = omega arith in
    rw (le-leb 48 b k, lt-leb b 57 h)

-- reading, from place i on
pub number_more : (v : ℕ) (l : List ℕ) (i : ℕ) → i < length l → is_digit (get_or l i 0) ≡ true
    → number_from v (drop i l) ≡ number_from (v * 10 + (get_or l i 0 - 48)) (drop (i + 1) l)
unfolding number_from
number_more v l i h e = rw (drop-cons l i 0 h, e, add-one)

pub number_bad : (v : ℕ) (l : List ℕ) (i : ℕ) → i < length l → is_digit (get_or l i 0) ≡ false → number_from v (drop i l) ≡ wrong_form
unfolding number_from
number_bad v l i h e = rw (drop-cons l i 0 h, e)

pub number_end : (v : ℕ) (l : List ℕ) (i : ℕ) → length l ≤ i → number_from v (drop i l) ≡ says v
unfolding number_from
number_end v l i h = rw (drop_of_length-le l h)

pub ten_more : (i : ℕ) → 10 ^ (i + 1) ≡ 10 ^ i * 10
ten_more i = rw (add-one, pow-suc)

pub number_cons : (v b : ℕ) (l : List ℕ) → is_digit b ≡ true → number_from v (b ∷ l) ≡ number_from (v * 10 + (b - 48)) l
unfolding number_from
number_cons v b l e = rw e

pub no_value : {v : ℕ} → says v ≡ wrong_form → ⊥
no_value e = let z : ◌≡◌ {A = ℕ} 0 2 = ap (λ (s : Said). s.refusal) e in omega arith

-- what is no number is refused for its form
pub refused_form : (v : ℕ) (l : List ℕ) → accepted (number_from v l) ≡ false → number_from v l ≡ wrong_form
unfolding number_from
refused_form v [] e = cc
refused_form v (b ∷ l) e = go (is_digit b) (refused_form (v * 10 + (b - 48)) l) e
  where
    go : (z : Bool) → (accepted (number_from (v * 10 + (b - 48)) l) ≡ false → number_from (v * 10 + (b - 48)) l ≡ wrong_form)
        → accepted (cond z (number_from (v * 10 + (b - 48)) l) wrong_form) ≡ false → cond z (number_from (v * 10 + (b - 48)) l) wrong_form ≡ wrong_form
    go true ih e = ih e
    go false ih e = refl

-- reading what was written, with l after it
read_on : (n v a : ℕ) (l : List ℕ) → v < 10 ^ n → number_from a (digits_of n v ++ l) ≡ number_from (a * 10 ^ n + v) l
unfolding digits_of
read_on zero v a l h =
    let e : a * 1 + v ≡ a = omega arith in
    rw e
read_on (suc n) v a l h =
    let k : v / 10 < 10 ^ n = omega (arith, pow-suc 10 n) in
    let e : (a * 10 ^ n + v / 10) * 10 + (48 + v % 10 - 48) ≡ a * 10 ^ suc n + v =
    rw (pow-suc 10 n, ← mul_assoc a (10 ^ n) 10) (omega arith) in
    let d : is_digit (48 + v % 10) ≡ true = digit_yes (48 + v % 10) (omega arith) (omega arith) in
    rw (append_assoc, read_on n (v / 10) a (((48 + v % 10) ∷ []) ++ l) k)
    (number_cons (a * 10 ^ n + v / 10) (48 + v % 10) l d ∙ ap (λ x. number_from x l) e)

-- reading what was written gives the value
pub read_written : (n v : ℕ) → v < 10 ^ n → number_from 0 (digits_of n v) ≡ says v
unfolding number_from
read_written n v h =
    let e : 0 * 10 ^ n + v ≡ v = omega arith in
    ap (number_from 0) (sym (append-nil (digits_of n v))) ∙ read_on n v 0 [] h ∙ rw e

-- the digits from the front
digits_front : (n v : ℕ) → digits_of (suc n) v ≡ (48 + v / 10 ^ n % 10) ∷ digits_of n v
unfolding digits_of
digits_front zero v =
    let e : v / 1 ≡ v = omega arith in
    rw e
digits_front (suc n) v =
    let e : v / 10 / 10 ^ n ≡ v / 10 ^ suc n = rw (div-div-eq-div-mul v 10 (10 ^ n), pow-suc 10 n, mul_comm 10 (10 ^ n)) in
    ap (λ l. l ++ ((48 + v % 10) ∷ [])) (digits_front n (v / 10)) ∙ rw e

-- writing what was read gives the same bytes
written_on : (l : List ℕ) (a v : ℕ) → number_from a l ≡ says v → (digits_of (length l) v ≡ l) × (v / 10 ^ length l ≡ a)
unfolding digits_of number_from
written_on [] a v e =
    let same : a ≡ v = ap (λ (s : Said). s.value) e in
    (refl, omega arith)
written_on (b ∷ l) a v e = go (dec_le 48 b) (dec_le b 57) (written_on l (a * 10 + (b - 48)) v)
  where
    go : Dec (48 ≤ b) → Dec (b ≤ 57)
        → (number_from (a * 10 + (b - 48)) l ≡ says v → (digits_of (length l) v ≡ l) × (v / 10 ^ length l ≡ a * 10 + (b - 48)))
        → (digits_of (suc (length l)) v ≡ b ∷ l) × (v / 10 ^ suc (length l) ≡ a)
    go (yes h) (yes k) ih =
        let r = ih (sym (number_cons a b l (digit_yes b h k)) ∙ e) in
        let first : 48 + v / 10 ^ length l % 10 ≡ b = omega (arith, r.1) in
        let rest : v / 10 ^ suc (length l) ≡ a =
        rw (pow-suc 10 (length l), ← div-div-eq-div-mul v (10 ^ length l) 10) (omega (arith, r.1)) in
        (digits_front (length l) v ∙ rw (first, r.0), rest)
    go (yes h) (no k) ih = absurd (no_value (sym (rw (digit_high b (omega arith)) at e)))
    go (no h) k ih = absurd (no_value (sym (rw (digit_low b (omega arith)) at e)))

pub written_read : (l : List ℕ) (v : ℕ) → number_from 0 l ≡ says v → digits_of (length l) v ≡ l
written_read l v e = (written_on l 0 v e).0

-- one more digit written, before place j
pub written_more : (out : List ℕ) (v j : ℕ) → j < length out
    → digits_of (suc j) v ++ drop (suc j) out ≡ digits_of j (v / 10) ++ drop j (set out j (48 + v % 10))
unfolding digits_of
written_more out v j h =
    let k : j < length (set out j (48 + v % 10)) = rw (length-set) h in
    let l : j < suc j = omega arith in
    rw (
      append_assoc,
      drop-cons (set out j (48 + v % 10)) j 0 k,
      get_or-set_same out j (48 + v % 10) 0 h,
      drop-set-lt (suc j) out j (48 + v % 10) l,
    )
