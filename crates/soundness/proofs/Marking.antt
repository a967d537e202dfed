-- The pass that marks the entries, each by its remainder: one entry more, and what it comes to where no entry is high.
use Rattle.std.proofs.Common.{◌≡◌, ℕ, zero, suc, ◌+◌, ◌%◌, ◌<◌, Bool, true, false, not, ◌&&◌, ◌||◌, eqb, ltb, List, [], ◌∷◌, map, length, get_or, take, set, replicate, sym, refl, ap, ◌∙◌, arith, get_or-set_other, get_or-set_same, ltb-true, eq-eqb, ne_eqb}
use mathlib.Core.Bool.{or-true, or-false, and-false}
use lib.Bits.{bit_or}
use lib.ListN.{get_or-replicate, length-map, get_or-map}
use native.Mathlib.Decide.{ℕ_discrete}
use Rattle.lists.specs.Lists.{any, all, member, distinct}
use Rattle.lists.proofs.Tests.{both, clash}
use Rattle.lists.proofs.Loops.{any_take, distinct_take}
use Rattle.lists.proofs.Union.{or_none}
use Rattle.model.specs.Arrays.{flag}
use Rattle.soundness.specs.Queue.{Seen, SeenOnce}

-- a flag is 0 where it is off
flag_none : (b : Bool) → eqb (flag b) 0 ≡ not b
flag_none true = refl
flag_none false = refl

-- ---- the remainders of the entries

abbrev pub rests : List ℕ → List ℕ
rests q = map (λ x. x % 64) q

pub rest_at : (q : List ℕ) (i : ℕ) → get_or (rests q) i 0 ≡ get_or q i 0 % 64
rest_at q i = get_or-map (λ x. x % 64) q i 0

pub seen_none : (q : List ℕ) → Seen (replicate 64 0) (take 0 (rests q))
unfolding any
seen_none q t b = get_or-replicate 64 t 0 0 b

module _ (q : List ℕ) (i : ℕ) (seen : List ℕ) (h : i < length q) (s : Seen seen (take i (rests q))) where
  inside : i < length (rests q)
  inside = rw (length-map q (λ x. x % 64)) h

  low : get_or q i 0 % 64 < 64
  low = omega arith

  -- it shows where the entry stood before
  pub again_more : (a : ℕ) → eqb a 0 ≡ distinct (take i (rests q)) → eqb (bit_or a (get_or seen (get_or q i 0 % 64) 0)) 0 ≡ distinct (take (i + 1) (rests q))
  again_more a e =
      rw (← or_none a (get_or seen (get_or q i 0 % 64) 0), s (get_or q i 0 % 64) low, flag_none (member (get_or q i 0 % 64) (take i (rests q))), e, ← rest_at q i)
      (distinct_take (rests q) i inside)

  pub seen_more : length seen ≡ 64 → Seen (set seen (get_or q i 0 % 64) 1) (take (i + 1) (rests q))
  unfolding any
  seen_more full t b = rw (any_take (eqb t) (rests q) i inside, rest_at q i) (go (ℕ_discrete t (get_or q i 0 % 64)))
    where
      e : ℕ
      e = get_or q i 0 % 64

      go : Dec (t ≡ e) → get_or (set seen e 1) t 0 ≡ flag (member t (take i (rests q)) || eqb t e)
      go (yes p) = rw (eq-eqb t e p, or-true (member t (take i (rests q))), p) (get_or-set_same seen e 1 0 (rw full low))
      go (no p) = rw (ne_eqb t e p, or-false (member t (take i (rests q)))) (get_or-set_other seen e t 1 0 p ∙ s t b)

-- ---- at the end

-- thread numbers are their own remainders
rests_same : (l : List ℕ) → all (λ t. ltb t 64) l ≡ true → rests l ≡ l
unfolding all
rests_same [] e = refl
rests_same (x ∷ l) e =
    let (a, b) = both (ltb x 64) (all (λ t. ltb t 64) l) e in
    let k : x % 64 ≡ x = omega (arith, ltb-true x 64 a) in
    rw (k, rests_same l b)

take_rests : (n : ℕ) (q : List ℕ) → take n (rests q) ≡ rests (take n q)
take_rests zero q = refl
take_rests (suc n) [] = refl
take_rests (suc n) (x ∷ q) = ap (λ (l : List ℕ). x % 64 ∷ l) (take_rests n q)

pub marked : (n : ℕ) (q seen : List ℕ) (a b : Bool) → a ≡ distinct (take n (rests q)) → b ≡ all (λ t. ltb t 64) (take n q) → Seen seen (take n (rests q))
    → SeenOnce (take n q) (a && b) seen
marked n q seen a b e f s = go b refl
  where
    l : List ℕ
    l = take n q

    go : (z : Bool) → b ≡ z → SeenOnce l (a && z) seen
    go true p =
        let low : all (λ t. ltb t 64) l ≡ true = sym f ∙ p in
        let k : take n (rests q) ≡ l = take_rests n q ∙ rests_same l low in
        record { once = rw (e, k, low); marks = λ w. rw k at s }
    go false p =
        let high : all (λ t. ltb t 64) l ≡ false = sym f ∙ p in
        record { once = rw (and-false a, high, and-false (distinct l)); marks = λ w. clash w (and-false a) }
