-- How the answers of the passes make up the test of the books.
use Rattle.std.proofs.Common.{◌≡◌, ℕ, ◌+◌, ◌-◌, ◌*◌, ◌%◌, ◌^◌, ◌<◌, ◌≤◌, Bool, true, false, ◌&&◌, eqb, ltb, leb, List, length, get_or, take, drop, replicate, refl, sym, ap, ◌∙◌, arith, length-take, drop-drop, take-add, le-ltb, lt-ltb, leb-true}
use mathlib.Core.Bool.{and-true, and-false}
use lib.ListN.{get_or-replicate}
use lib.Pointwise.{pointwise}
use lib.Seq.{get_or-take}
use native.Mathlib.Decide.{dec_lt}
use Rattle.lists.specs.Lists.{below, sum, all}
use Rattle.lists.proofs.Tests.{clash, both, and, same}
use Rattle.lists.proofs.All.{all_below, below_all}
use Rattle.lists.proofs.Every.{all_same}
use Rattle.lists.proofs.Sums.{sum_append, sum_le, total_mono, total_const, total_at}
use Rattle.lists.proofs.Parts.{row_get, row_length}
use Rattle.soundness.specs.Sums.{row_in, slot_in, totals_agree, slots_within, books_agree, all_narrow, part_in, Added, Rows, RowsAdded}
use Rattle.soundness.proofs.Parts.{compared}
use Rattle.soundness.proofs.Passes.{added_zeros, added_both}
use Rattle.soundness.proofs.Rows.{narrow_at, part_length, part_get}

pub slot_outside : (h u : List ℕ) (w n slot most current : ℕ) → w ≤ slot → false ≡ books_agree h u w n slot most current
unfolding books_agree
slot_outside h u w n slot most current far = rw (le-ltb slot w far)

-- ---- a block of k slots, from slot a on

module _ (h : List ℕ) (w n : ℕ) (f : Rows h w n) (a k : ℕ) (ends : a + k ≤ w) (most : ℕ) (low : most < 4194304) where
  -- every number is narrow
  abbrev narrow : Bool
  narrow = all (λ p. all_narrow (part_in h w a k p)) (below n)

  abbrev within : Bool
  within = all (λ i. leb (slot_in h w n (a + i)) most) (below k)

  -- 16 narrow numbers add up in 32 bits
  slot_low : narrow ≡ true → (i : ℕ) → i < k → slot_in h w n (a + i) < 2 ^ 32
  slot_low e i c = omega (arith, total_mono n (λ q. get_or h (q * w + (a + i)) 0) (λ q. 4194303) at, total_const n 4194303, f.few)
    where
      at : (p : ℕ) → p < n → get_or h (p * w + (a + i)) 0 ≤ 4194303
      at p b =
          let long : length (part_in h w a k p) ≡ k = part_length h w n f a k ends p b in
          omega (arith, narrow_at (part_in h w a k p) (all_below (λ q. all_narrow (part_in h w a k q)) n e p b) i (rw long c), part_get h w n f a k ends p i c)

  -- a number that is not narrow is more than its slot may hold
  narrow_slots : within ≡ true → narrow ≡ true
  unfolding all_narrow
  narrow_slots e =
      below_all (λ p. all_narrow (part_in h w a k p)) n (λ p b. below_all (λ i. ltb (get_or (part_in h w a k p) i 0) 4194304) (length (part_in h w a k p)) (at p b))
    where
      at : (p : ℕ) → p < n → (i : ℕ) → i < length (part_in h w a k p) → ltb (get_or (part_in h w a k p) i 0) 4194304 ≡ true
      at p b i c =
          let c' : i < k = rw (part_length h w n f a k ends p b) at c in
          let top : slot_in h w n (a + i) ≤ most = leb-true _ _ (all_below (λ j. leb (slot_in h w n (a + j)) most) k e i c') in
          let one : get_or h (p * w + (a + i)) 0 ≤ slot_in h w n (a + i) = total_at n (λ q. get_or h (q * w + (a + i)) 0) p b in
          let small : get_or (part_in h w a k p) i 0 < 4194304 = omega (arith, top, one, low, part_get h w n f a k ends p i c') in
          lt-ltb _ _ small

  -- so the sums, where they are asked for, have not wrapped
  pub block_exact : k ≤ 100 → (s : List ℕ) (x y : Bool) → (x ≡ true → Added (λ i. slot_in h w n (a + i)) (replicate 100 0) s k)
      → x ≡ narrow → y ≡ all (λ i. leb (get_or s i 0) most) (below k) → (x && y) ≡ within
  block_exact small s x y d e g = rw (e, g) (go narrow refl)
    where
      slot_is : narrow ≡ true → (i : ℕ) → i < k → get_or s i 0 ≡ slot_in h w n (a + i)
      slot_is q i c = omega (arith, (d (e ∙ q)).done i c, get_or-replicate {A = ℕ} 100 i 0 0 (omega arith), slot_low q i c)

      out : narrow ≡ false → (z : Bool) → within ≡ z → false ≡ z
      out q true r = clash (narrow_slots r) q
      out q false r = refl

      go : (z : Bool) → narrow ≡ z → (z && all (λ i. leb (get_or s i 0) most) (below k)) ≡ within
      go true q = all_same (λ i. leb (get_or s i 0) most) (λ i. leb (slot_in h w n (a + i)) most) k (λ i c. ap (λ (v : ℕ). leb v most) (slot_is q i c))
      go false q = out q within refl

-- ---- block after block

-- a test of the numbers below a, and then of k more
all_below_more : (t : ℕ → Bool) (a k : ℕ) → (all t (below a) && all (λ i. t (a + i)) (below k)) ≡ all t (below (a + k))
all_below_more t a k =
    same (all t (below a) && all (λ i. t (a + i)) (below k)) (all t (below (a + k)))
    (λ e. below_all t (a + k) (λ i b. go i b (both (all t (below a)) (all (λ j. t (a + j)) (below k)) e) (dec_lt i a)))
    (λ e. and (below_all t a (λ i b. all_below t (a + k) e i (omega arith))) (below_all (λ i. t (a + i)) k (λ i b. all_below t (a + k) e (a + i) (omega arith))))
  where
    go : (i : ℕ) → i < a + k → (all t (below a) ≡ true) × (all (λ j. t (a + j)) (below k) ≡ true) → Dec (i < a) → t i ≡ true
    go i b e (yes c) = all_below t a e.0 i c
    go i b e (no c) = let at : i ≡ a + (i - a) = omega arith in rw at (all_below (λ j. t (a + j)) k e.1 (i - a) (omega arith))

pub block_next : (t : ℕ → Bool) (a k : ℕ) → all t (below a) ≡ true → all (λ i. t (a + i)) (below k) ≡ true → all t (below (a + k)) ≡ true
block_next t a k e f = sym (all_below_more t a k) ∙ and e f

-- the sums of the first a numbers of each row
abbrev pub rows_to : List ℕ → ℕ → ℕ → ℕ → ℕ
rows_to h w a p = sum (take a (drop (p * w) h))

module _ (h : List ℕ) (w n : ℕ) where
  pub rows_none : n ≤ 16 → Added (rows_to h w 0) (replicate 16 0) (replicate 16 0) n
  rows_none few = added_zeros (rows_to h w 0) 16 n few (λ p. refl)

  pub rows_next : (a k : ℕ) (r s : List ℕ) → Added (rows_to h w a) (replicate 16 0) r n → RowsAdded h w n a k r s → Added (rows_to h w (a + k)) (replicate 16 0) s n
  rows_next a k r s d e = added_both (rows_to h w a) (λ p. sum (part_in h w a k p)) (rows_to h w (a + k)) (replicate 16 0) r s n d e more
    where
      more : (p : ℕ) → p < n → rows_to h w (a + k) p ≡ rows_to h w a p + sum (part_in h w a k p)
      more p b = rw (take-add a k (drop (p * w) h), sum_append, drop-drop a (p * w) h)

-- a block with a slot that holds more
pub block_high : (h u : List ℕ) (w n slot most current a k : ℕ) → a + k ≤ w → all (λ i. leb (slot_in h w n (a + i)) most) (below k) ≡ false
    → false ≡ books_agree h u w n slot most current
unfolding books_agree
block_high h u w n slot most current a k ends e = rw (out (slots_within h w n most) refl, and-false (ltb slot w && totals_agree h u w n))
  where
    out : (z : Bool) → slots_within h w n most ≡ z → slots_within h w n most ≡ false
    out true f = clash (below_all (λ i. leb (slot_in h w n (a + i)) most) k (λ i b. all_below (λ j. leb (slot_in h w n j) most) w f (a + i) (omega arith))) e
    out false f = f

-- ---- at the end, where every slot is within

module _ (h : List ℕ) (w n most : ℕ) (f : Rows h w n) (low : most < 4194304) (every : slots_within h w n most ≡ true) where
  slot_few : (k : ℕ) → k < w → slot_in h w n k ≤ most
  slot_few k c = leb-true _ _ (all_below (λ j. leb (slot_in h w n j) most) w every k c)

  -- 400 numbers that slots may hold add up in 32 bits
  row_low : (p : ℕ) → p < n → sum (row_in h w p) < 2 ^ 32
  row_low p b =
      let long : length (row_in h w p) ≡ w = row_length w h p n b f.inside in
      omega (arith, sum_le (row_in h w p) 4194303 (λ k c. at k (rw long at c)), f.short)
    where
      at : (k : ℕ) → k < w → get_or (row_in h w p) k 0 ≤ 4194303
      at k c = omega (arith, slot_few k c, total_at n (λ q. get_or h (q * w + k) 0) p b, row_get w h p k c, low)

  -- the answers
  pub books_parts : (u rows : List ℕ) (slot current here : ℕ) (y : Bool) → slot < w → Added (rows_to h w w) (replicate 16 0) rows n
      → length u ≡ 16 → y ≡ pointwise eqb (take n u) (take n rows) → here ≡ slot_in h w n slot % 2 ^ 32
      → (y && leb here current) ≡ books_agree h u w n slot most current
  unfolding books_agree
  books_parts u rows slot current here y inside d long e s =
      let here_is : here ≡ slot_in h w n slot = omega (arith, slot_few slot inside, low) in
      rw (every, lt-ltb slot w inside, here_is, e ∙ totals, and-true (totals_agree h u w n))
    where
      row_is : (p : ℕ) → p < n → get_or rows p 0 ≡ sum (row_in h w p)
      row_is p b = omega (arith, d.done p b, get_or-replicate {A = ℕ} 16 p 0 0 (omega (arith, f.few)), row_low p b)

      totals : pointwise eqb (take n u) (take n rows) ≡ totals_agree h u w n
      totals =
          compared (take n u) (take n rows) n (simp length-take (omega (arith, f.few))) (simp (length-take, d.long) (omega (arith, f.few)))
          ∙ all_same (λ p. eqb (get_or (take n u) p 0) (get_or (take n rows) p 0)) (λ p. eqb (get_or u p 0) (sum (row_in h w p))) n
          (λ p b. rw (get_or-take n u p 0 b, get_or-take n rows p 0 b, row_is p b))
