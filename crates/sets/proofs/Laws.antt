use mathlib.Core.Logic.{◌≢◌}
use mathlib.Core.Path.{◌≡◌, refl, sym, ap, ap₂, ◌∙◌}
use mathlib.Core.Bool.{Bool, true, false, ◌||◌, ◌&&◌, not, cond, and-true, and-false, or-false, or-true}
use Prim.Native.Nat.{ℕ, zero, suc, ◌+◌, ◌*◌, ◌-◌, ◌/◌, ◌%◌, ◌^◌, ◌<◌, min, max}
use native.Mathlib.Omega.{arith}
use native.Mathlib.Decide.{ℕ_discrete}
use lib.Dec.{eqb}
use lib.Pow.{pow-lt}
use lib.Bits.{bit_or, bit_and, or_step, and_step, and_le_r}
use lib.Count.{count_trailing_zeros, under}
use mir.Val.{bool_byte}
use borrow.Author.Tests.{eq-eqb, ne_eqb, eqb-true, eqb-false}
use Rattle.sets.specs.Bits.{in_set, Lowest, Rested}

-- the lowest digit and the rest of a number that is made of them
low : (n h d : ℕ) → n ≡ h * 2 + d → d < 2 → n % 2 ≡ d
low n h d e b = omega arith

rest : (n h d : ℕ) → n ≡ h * 2 + d → d < 2 → n / 2 ≡ h
rest n h d e b = omega arith

or_digit : (x y : ℕ) → x < 2 → y < 2 → eqb (max x y) 1 ≡ (eqb x 1 || eqb y 1)
or_digit zero zero a b = refl
or_digit zero (suc zero) a b = refl
or_digit (suc zero) zero a b = refl
or_digit (suc zero) (suc zero) a b = refl
or_digit (suc (suc x)) y a b = let z : ⊥ = omega arith in absurd z
or_digit zero (suc (suc y)) a b = let z : ⊥ = omega arith in absurd z
or_digit (suc zero) (suc (suc y)) a b = let z : ⊥ = omega arith in absurd z

and_digit : (x y : ℕ) → x < 2 → y < 2 → eqb (min x y) 1 ≡ (eqb x 1 && eqb y 1)
and_digit zero zero a b = refl
and_digit zero (suc zero) a b = refl
and_digit zero (suc (suc y)) a b = let z : ⊥ = omega arith in absurd z
and_digit (suc zero) zero a b = refl
and_digit (suc zero) (suc zero) a b = refl
and_digit (suc (suc x)) y a b = let z : ⊥ = omega arith in absurd z
and_digit (suc zero) (suc (suc y)) a b = let z : ⊥ = omega arith in absurd z

pub or_set : (i a b : ℕ) → in_set (bit_or a b) i ≡ (in_set a i || in_set b i)
unfolding in_set
or_set zero a b =
    let x : a % 2 < 2 = omega arith in
    let y : b % 2 < 2 = omega arith in
    let m : max (a % 2) (b % 2) < 2 = omega arith in
    ap (λ (n : ℕ). eqb n 1) (low (bit_or a b) (bit_or (a / 2) (b / 2)) (max (a % 2) (b % 2)) (or_step a b) m) ∙ or_digit (a % 2) (b % 2) x y
or_set (suc i) a b =
    let m : max (a % 2) (b % 2) < 2 = omega arith in
    ap (λ (n : ℕ). in_set n i) (rest (bit_or a b) (bit_or (a / 2) (b / 2)) (max (a % 2) (b % 2)) (or_step a b) m) ∙ or_set i (a / 2) (b / 2)

pub and_set : (i a b : ℕ) → in_set (bit_and a b) i ≡ (in_set a i && in_set b i)
unfolding in_set
and_set zero a b =
    let x : a % 2 < 2 = omega arith in
    let y : b % 2 < 2 = omega arith in
    let m : min (a % 2) (b % 2) < 2 = omega arith in
    ap (λ (n : ℕ). eqb n 1) (low (bit_and a b) (bit_and (a / 2) (b / 2)) (min (a % 2) (b % 2)) (and_step a b) m) ∙ and_digit (a % 2) (b % 2) x y
and_set (suc i) a b =
    let m : min (a % 2) (b % 2) < 2 = omega arith in
    ap (λ (n : ℕ). in_set n i) (rest (bit_and a b) (bit_and (a / 2) (b / 2)) (min (a % 2) (b % 2)) (and_step a b) m) ∙ and_set i (a / 2) (b / 2)

pub none : (i : ℕ) → in_set 0 i ≡ false
unfolding in_set
none zero = refl
none (suc i) = none i

same_suc : (i p : ℕ) → eqb i p ≡ eqb (suc i) (suc p)
same_suc i p = go (ℕ_discrete i p)
  where
    go : Dec (i ≡ p) → eqb i p ≡ eqb (suc i) (suc p)
    go (yes e) = eq-eqb i p e ∙ sym (eq-eqb (suc i) (suc p) (ap suc e))
    go (no n) = ne_eqb i p n ∙ sym (ne_eqb (suc i) (suc p) (λ w. n (omega arith)))

-- one number alone
pub one_set : (p i : ℕ) → in_set (2 ^ p) i ≡ eqb i p
unfolding in_set
one_set zero zero = refl
one_set zero (suc i) = none i ∙ sym (ne_eqb (suc i) 0 (λ e. let z : ⊥ = omega arith in absurd z))
one_set (suc p) zero = let e : 2 ^ suc p % 2 ≡ 0 = omega arith in ap (λ (n : ℕ). eqb n 1) e ∙ sym (ne_eqb 0 (suc p) (λ w. let z : ⊥ = omega arith in absurd z))
one_set (suc p) (suc i) = let e : 2 ^ suc p / 2 ≡ 2 ^ p = omega arith in ap (λ (n : ℕ). in_set n i) e ∙ one_set p i ∙ same_suc i p

-- the others, among k
pub others_set : (k i a : ℕ) → a < 2 ^ k → i < k → in_set (2 ^ k - 1 - a) i ≡ not (in_set a i)
unfolding in_set
others_set zero i a h b = let z : ⊥ = omega arith in absurd z
others_set (suc k) zero a h b = go (a % 2) refl
  where
    go : (d : ℕ) → a % 2 ≡ d → eqb ((2 ^ suc k - 1 - a) % 2) 1 ≡ not (eqb d 1)
    go zero e = let f : (2 ^ suc k - 1 - a) % 2 ≡ 1 = omega arith in eq-eqb _ 1 f
    go (suc zero) e = let f : (2 ^ suc k - 1 - a) % 2 ≡ 0 = omega arith in ap (λ (n : ℕ). eqb n 1) f
    go (suc (suc d)) e = let z : ⊥ = omega arith in absurd z
others_set (suc k) (suc i) a h b =
    let e : (2 ^ suc k - 1 - a) / 2 ≡ 2 ^ k - 1 - a / 2 = omega arith in
    ap (λ (n : ℕ). in_set n i) e ∙ others_set k i (a / 2) (omega arith) (omega arith)

-- ---- as the program writes it, among 16

shift_one : (p : ℕ) → p < 16 → 1 * 2 ^ p % 65536 ≡ 2 ^ p
shift_one p h =
    let b : 2 ^ p < 2 ^ 16 = pow-lt h in
    omega (arith, b)

pub put_in : (w p i : ℕ) → p < 16 → in_set (bit_or w (1 * 2 ^ p % 65536)) i ≡ (in_set w i || eqb i p)
put_in w p i h = ap (λ (n : ℕ). in_set (bit_or w n) i) (shift_one p h) ∙ or_set i w (2 ^ p) ∙ ap (λ (b : Bool). in_set w i || b) (one_set p i)

pub taken_out : (w p i : ℕ) → p < 16 → i < 16 → in_set (bit_and w (65535 - 1 * 2 ^ p % 65536)) i ≡ (in_set w i && not (eqb i p))
taken_out w p i h k =
    let b : 2 ^ p < 2 ^ 16 = pow-lt h in
    ap (λ (n : ℕ). in_set (bit_and w (65535 - n)) i) (shift_one p h) ∙ and_set i w (65535 - 2 ^ p)
    ∙ ap (λ (z : Bool). in_set w i && z) (others_set 16 i (2 ^ p) b k ∙ ap not (one_set p i))

pub only_in : (p i : ℕ) → p < 16 → in_set (1 * 2 ^ p % 65536) i ≡ eqb i p
only_in p i h = ap (λ (n : ℕ). in_set n i) (shift_one p h) ∙ one_set p i

-- taken out, and put in where it is to be in
pub marked : (w p i : ℕ) (on : Bool) → p < 16 → i < 16
    → in_set (bit_or (bit_and w (65535 - 1 * 2 ^ p % 65536)) (bool_byte on * 2 ^ p % 65536)) i ≡ cond (eqb i p) on (in_set w i)
marked w p i on h b = or_set i (bit_and w (65535 - 1 * 2 ^ p % 65536)) (bool_byte on * 2 ^ p % 65536) ∙ ap₂ (λ (x y : Bool). x || y) (taken_out w p i h b) (bit on) ∙ go (eqb i p) on
  where
    bit : (z : Bool) → in_set (bool_byte z * 2 ^ p % 65536) i ≡ (z && eqb i p)
    bit true = only_in p i h
    bit false = let e : 0 * 2 ^ p % 65536 ≡ 0 = omega arith in ap (λ (n : ℕ). in_set n i) e ∙ none i

    go : (y z : Bool) → ((in_set w i && not y) || (z && y)) ≡ cond y z (in_set w i)
    go true true = or-true (in_set w i && false)
    go true false = or-false (in_set w i && false) ∙ and-false (in_set w i)
    go false true = or-false (in_set w i && true) ∙ and-true (in_set w i)
    go false false = or-false (in_set w i && true) ∙ and-true (in_set w i)

-- ---- the lowest number, and the rest

pub lowest_in : (k w : ℕ) → w ≢ 0 → w < 2 ^ k → Lowest k w (count_trailing_zeros k w)
unfolding count_trailing_zeros in_set
lowest_in zero w n h = absurd (n (omega arith))
lowest_in (suc k) w n h = go (w % 2) refl (λ m. lowest_in k (w / 2) m (omega arith))
  where
    odd : w % 2 ≡ 1 → Lowest (suc k) w 0
    odd e = record { inside = omega arith; here = eq-eqb _ 1 e; lower = λ i b. let z : ⊥ = omega arith in absurd z }

    even : w % 2 ≡ 0 → Lowest k (w / 2) (count_trailing_zeros k (w / 2)) → Lowest (suc k) w (suc (count_trailing_zeros k (w / 2)))
    even e l = record { inside = omega (arith, l.inside); here = l.here; lower = lower }
      where
        lower : (i : ℕ) → i < suc (count_trailing_zeros k (w / 2)) → in_set w i ≡ false
        lower zero b = ap (λ (d : ℕ). eqb d 1) e
        lower (suc i) b = l.lower i (omega arith)

    go : (d : ℕ) → w % 2 ≡ d → (w / 2 ≢ 0 → Lowest k (w / 2) (count_trailing_zeros k (w / 2))) → Lowest (suc k) w (under d (count_trailing_zeros k (w / 2)))
    go zero e ih = even e (ih (λ z. n (omega arith)))
    go (suc zero) e ih = odd e
    go (suc (suc d)) e ih = let z : ⊥ = omega arith in absurd z

twice : (a : Bool) → (a && a) ≡ a
twice true = refl
twice false = refl

-- one less: the lowest number goes, those below it come, those above it stay
less_one : (p i w : ℕ) → in_set w p ≡ true → ((j : ℕ) → j < p → in_set w j ≡ false) → (in_set w i && in_set (w - 1) i) ≡ (in_set w i && not (eqb i p))
unfolding in_set
less_one zero zero w h l =
    let e : w % 2 ≡ 1 = eqb-true (w % 2) 1 h in
    let f : (w - 1) % 2 ≡ 0 = omega arith in
    ap (λ (d : ℕ). eqb (w % 2) 1 && eqb d 1) f
less_one zero (suc i) w h l =
    let e : w % 2 ≡ 1 = eqb-true (w % 2) 1 h in
    let f : (w - 1) / 2 ≡ w / 2 = omega arith in
    ap (λ (v : ℕ). in_set (w / 2) i && in_set v i) f ∙ twice (in_set (w / 2) i) ∙ sym (and-true (in_set (w / 2) i))
    ∙ ap (λ (z : Bool). in_set (w / 2) i && not z) (sym (ne_eqb (suc i) 0 (λ e. let z : ⊥ = omega arith in absurd z)))
less_one (suc p) zero w h l = rw (l 0 (omega arith))
less_one (suc p) (suc i) w h l =
    let d : w % 2 < 2 = omega arith in
    let n : w % 2 ≢ 1 = eqb-false (w % 2) 1 (l 0 (omega arith)) in
    let f : (w - 1) / 2 ≡ w / 2 - 1 = even n in
    ap (λ (v : ℕ). in_set (w / 2) i && in_set v i) f ∙ less_one p i (w / 2) h (λ j b. l (suc j) (omega arith))
    ∙ ap (λ (z : Bool). in_set (w / 2) i && not z) (same_suc i p)
  where
    even : w % 2 ≢ 1 → (w - 1) / 2 ≡ w / 2 - 1
    even n = go (ℕ_discrete (w % 2) 0)
      where
        go : Dec (w % 2 ≡ 0) → (w - 1) / 2 ≡ w / 2 - 1
        go (yes e) = omega arith
        go (no e) = absurd (n (omega arith))

pub rested : (w : ℕ) → w ≢ 0 → Rested 16 w (bit_and w (w - 1))
rested w n = (
  omega (arith, and_le_r w (w - 1)),
  λ p l i b. and_set i w (w - 1) ∙ less_one p i w l.here l.lower,
)

-- a set in which nothing is
pub empty : (k w : ℕ) → w < 2 ^ k → ((i : ℕ) → i < k → in_set w i ≡ false) → w ≡ 0
empty k w h f = go (ℕ_discrete w 0)
  where
    go : Dec (w ≡ 0) → w ≡ 0
    go (yes e) = e
    go (no n) =
        let l = lowest_in k w n h in
        let z : ◌≡◌ {A = Bool} true false = sym l.here ∙ f (count_trailing_zeros k w) l.inside in
        let y : ◌≡◌ {A = ℕ} 1 0 = ap (λ (b : Bool). cond b 1 0) z in
        let x : ⊥ = omega arith in absurd x
