-- Laws of the number by which the numbers of a sheet are refused.
use mathlib.Core.Logic.{◌≢◌}
use mathlib.Core.Path.{◌≡◌, refl, ap}
use Prim.Native.Nat.{ℕ, zero, suc, ◌+◌, ◌≤◌, ◌<◌}
use mathlib.Core.Bool.{Bool, true, false, not, cond, ◌&&◌, ◌||◌, or-true}
use lib.Dec.{eqb, leb}
use borrow.Author.Tests.{eqb-true, eqb-false, eq-eqb, ne_eqb, leb-true, le-leb, lt-leb, not-false}
use native.Mathlib.Omega.{arith}
use mathlib.Core.List.{List, [], ◌∷◌}
use lib.ListN.{length, take}
use lib.Seq.{length-take-le, get_or-take}
use Rattle.std.specs.List.{sum_by}
use Rattle.std.proofs.lemmas.List.Sums.{sum_by-cons}
use Rattle.lists.specs.Lists.{total}
use Rattle.lists.proofs.Sums.{total_ext}
use Rattle.lists.proofs.Tests.{clash, both, and, passes}
use Rattle.units.specs.declared.Percent.{Percent}
use Rattle.sheet.specs.Limits.{percent_at, count_fits, window_fits, tick_fits, policy_and_core_fit, edition_fits, refused_numbers}

-- a count above 16 is refused, whatever the other numbers are
pub too_many : (count window tick policy core edition stated sum : ℕ) → 16 < count → refused_numbers count window tick policy core edition stated sum ≡ 1
unfolding refused_numbers count_fits
too_many count window tick policy core edition stated sum h =
    let low : 1 ≤ count = omega arith in
    rw (le-leb 1 count low, lt-leb count 16 h)

-- numbers that are not refused pass every test
pub none_refused : (count window tick policy core edition stated sum : ℕ) → refused_numbers count window tick policy core edition stated sum ≡ 0
    → (count_fits count ≡ true) × (window_fits window ≡ true) × (tick_fits tick ≡ true) × (policy_and_core_fit policy core ≡ true)
    × (edition_fits edition stated ≡ true) × (eqb sum 100 ≡ true)
unfolding refused_numbers
none_refused count window tick policy core edition stated sum e =
    let (n₁, e₁) = passes (not (count_fits count)) 1 _ tt e in
    let (n₂, e₂) = passes (not (window_fits window)) 3 _ tt e₁ in
    let (n₃, e₃) = passes (not (tick_fits tick)) 4 _ tt e₂ in
    let (n₄, e₄) = passes (not (policy_and_core_fit policy core)) 5 _ tt e₃ in
    let (n₅, e₅) = passes (not (edition_fits edition stated)) 5 _ tt e₄ in
    let (n₆, e₆) = passes (not (eqb sum 100)) 6 0 tt e₅ in
    (not-false _ n₁, not-false _ n₂, not-false _ n₃, not-false _ n₄, not-false _ n₅, not-false _ n₆)

-- the edition's test as facts
pub edition_is : (edition stated : ℕ) → edition_fits edition stated ≡ true
    → (1 ≤ edition) × (edition ≤ 2) × (stated ≤ 1) × (stated ≢ 1 → edition ≡ 1)
unfolding edition_fits
edition_is edition stated e =
    let (e₁, d) = both (leb 1 edition && leb edition 2 && leb stated 1) _ e in
    let (e₂, c) = both (leb 1 edition && leb edition 2) _ e₁ in
    let (a, b) = both (leb 1 edition) _ e₂ in
    (leb-true _ _ a, leb-true _ _ b, leb-true _ _ c, λ n. eqb-true edition 1 (or_left (eqb edition 1) (eqb stated 1) d (ne_eqb stated 1 n)))
  where
    or_left : (x y : Bool) → (x || y) ≡ true → y ≡ false → x ≡ true
    or_left true y f g = refl
    or_left false y f g = clash f g

pub is_edition : (edition stated : ℕ) → 1 ≤ edition → edition ≤ 2 → stated ≤ 1 → (stated ≢ 1 → edition ≡ 1) → edition_fits edition stated ≡ true
unfolding edition_fits
is_edition edition stated a b c d = and (and (and (le-leb _ _ a) (le-leb _ _ b)) (le-leb _ _ c)) (go (eqb stated 1) refl)
  where
    go : (z : Bool) → eqb stated 1 ≡ z → (eqb edition 1 || z) ≡ true
    go true q = or-true (eqb edition 1)
    go false q = let one : eqb edition 1 ≡ true = eq-eqb _ _ (d (eqb-false stated 1 q)) in rw one

-- of two numbers from 1 to 5 either is
within_five : (b : Bool) (k n : ℕ) → 1 ≤ k → k ≤ 5 → (1 ≤ n) × (n ≤ 5) → (1 ≤ cond b k n) × (cond b k n ≤ 5)
within_five true k n l h m = (l, h)
within_five false k n l h m = m

-- a flag above 1 is refused, and before the sum of the shares is looked at, whatever the other numbers are
pub other_flag : (count window tick policy core edition stated sum : ℕ) → 1 < stated
    → (1 ≤ refused_numbers count window tick policy core edition stated sum) × (refused_numbers count window tick policy core edition stated sum ≤ 5)
unfolding refused_numbers
other_flag count window tick policy core edition stated sum above =
    within_five (not (count_fits count)) 1 _ (omega arith) (omega arith)
    (within_five (not (window_fits window)) 3 _ (omega arith) (omega arith)
    (within_five (not (tick_fits tick)) 4 _ (omega arith) (omega arith)
    (within_five (not (policy_and_core_fit policy core)) 5 _ (omega arith) (omega arith)
    (go (edition_fits edition stated) refl))))
  where
    go : (z : Bool) → edition_fits edition stated ≡ z → (1 ≤ cond (not z) 5 (cond (not (eqb sum 100)) 6 0)) × (cond (not z) 5 (cond (not (eqb sum 100)) 6 0) ≤ 5)
    go true e =
        let (_, _, one, _) = edition_is edition stated e in
        let z : ⊥ = omega arith in
        absurd z
    go false e = (omega arith, omega arith)

-- the first number of a total
total_first : (n : ℕ) (f : ℕ → ℕ) → total (suc n) f ≡ f 0 + total n (λ i. f (suc i))
total_first zero f = refl
total_first (suc n) f = omega (arith, total_first n f)

-- the shares of a list, added up
pub shares_summed : (shares : List Percent) → sum_by (λ (share : Percent). share.0) shares ≡ total (length shares) (percent_at shares)
shares_summed [] = refl
shares_summed (share ∷ shares) =
    omega (
      arith,
      sum_by-cons (λ (share : Percent). share.0) share shares,
      shares_summed shares,
      total_first (length shares) (percent_at (share ∷ shares)),
    )

-- those before the n-th, added up
pub first_shares : (shares : List Percent) (n : ℕ) → n ≤ length shares → total (length (take n shares)) (percent_at (take n shares)) ≡ total n (percent_at shares)
first_shares shares n h =
    rw length-take-le (total_ext n (percent_at (take n shares)) (percent_at shares) (λ p b. ap (λ (share : Percent). share.0) (get_or-take n shares p (record { 0 = 0 }) b)))
