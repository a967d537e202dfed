-- Looking for a thread in a list, as the library's methods do.
use mathlib.Core.Path.{◌≡◌, refl, sym, ap, subst, ◌∙◌}
use mathlib.Core.Bool.{Bool, true, false, not, cond, ◌||◌}
use mathlib.Core.List.{List, [], ◌∷◌, ◌++◌}
use Prim.Native.Nat.{ℕ, suc, ◌+◌, ◌*◌, ◌-◌, ◌<◌, ◌≤◌}
use native.Mathlib.Omega.{arith}
use native.Mathlib.Decide.{dec_le}
use lib.Dec.{eqb, ltb}
use lib.ListN.{length, get_or, take, drop, length-append, length-take, length-drop}
use lib.Seq.{take-add, take-append-add, take_all, get_or-append-add, length-take-le}
use borrow.Author.Tests.{eqb-true, eq-eqb, ne_eqb, lt-ltb, le-ltb, not-false}
use Rattle.std.specs.Prelude.{Option, Some, None}
use Rattle.std.specs.List.{list_any, position_or_len}
use Rattle.std.proofs.lemmas.List.Sums.{prefix_len-le-length, prefix_len_stops}
use Rattle.lists.specs.Lists.{any, member}
use Rattle.lists.proofs.Tests.{same, clash}
use Rattle.lists.proofs.All.{member_append}
use Rattle.threads.specs.Entries.{FirstAt, FoundAt}

eqb_sym : (a b : ℕ) → eqb a b ≡ eqb b a
eqb_sym a b = same (eqb a b) (eqb b a) (λ e. eq-eqb b a (sym (eqb-true a b e))) (λ e. eq-eqb a b (sym (eqb-true b a e)))

member_any : (t : ℕ) (l : List ℕ) → list_any (λ y. eqb y t) l ≡ member t l
unfolding any
member_any t [] = refl
member_any t (x ∷ l) = rw (eqb_sym x t, member_any t l)

-- sixteen more are passed over
pub passed : (es : List ℕ) (t i n : ℕ) → n ≡ 16 → member t (take (16 * i) es) ≡ false → list_any (λ y. eqb y t) (take n (drop (16 * i) es)) ≡ false
    → member t (take (16 * (i + 1)) es) ≡ false
passed es t i n z p q =
    let e : 16 * (i + 1) ≡ 16 * i + 16 = omega arith in
    let none : member t (take 16 (drop (16 * i) es)) ≡ false =
    ap (λ (k : ℕ). member t (take k (drop (16 * i) es))) (sym z) ∙ sym (member_any t (take n (drop (16 * i) es))) ∙ q in
    rw (e, take-add (16 * i) 16 es, member_append t (take (16 * i) es) (take 16 (drop (16 * i) es)), p, none)

-- ---- the first place

abbrev place : ℕ → List ℕ → ℕ
place t l = position_or_len (λ y. eqb y t) l

none_before : (t : ℕ) (l : List ℕ) → member t (take (place t l) l) ≡ false
unfolding any
none_before t [] = refl
none_before t (x ∷ l) = go (eqb x t) refl (none_before t l)
  where
    go : (b : Bool) → eqb x t ≡ b → member t (take (place t l) l) ≡ false → member t (take (cond (not b) (1 + place t l) 0) (x ∷ l)) ≡ false
    go true e h = refl
    go false e h = let up : 1 + place t l ≡ suc (place t l) = omega arith in rw (up, ← eqb_sym x t, e, h)

first_place : (t : ℕ) (l : List ℕ) → FirstAt l t (place t l)
first_place t l = record {
  inside = prefix_len-le-length (λ y. not (eqb y t)) l;
  none_before = none_before t l;
  here = λ h. sym (eqb-true (get_or l (place t l) 0) t (not-false (eqb (get_or l (place t l) 0) t) (prefix_len_stops (λ y. not (eqb y t)) l 0 h)));
}

-- in a list behind one that does not hold t
behind : (a b : List ℕ) (t k : ℕ) → member t a ≡ false → FirstAt b t k → FirstAt (a ++ b) t (length a + k)
behind a b t k n f =
    record {
      inside = rw (length-append a b) (omega (arith, f.inside));
      none_before = rw (take-append-add a b k, member_append t a (take k b), n, f.none_before);
      here = λ h. rw (get_or-append-add a b k 0) (f.here (omega (arith, h, length-append a b)));
    }

some_none : {k : ℕ} → ◌≡◌ {A = Option ℕ} (Some k) None → ⊥
some_none e = cc

same_place : {k n : ℕ} → ◌≡◌ {A = Option ℕ} (Some k) (Some n) → k ≡ n
same_place e = cc

-- the first n entries, of which some are passed over, and the others are looked through
module _ (es : List ℕ) (t n from : ℕ) (few : n ≤ length es) (some : from ≤ n) (passed : member t (take from es) ≡ false) where
  abbrev rest : List ℕ
  rest = take (n - from) (drop from es)

  parts : take n es ≡ take from es ++ rest
  parts = let e : n ≡ from + (n - from) = omega arith in ap (λ k. take k es) e ∙ take-add from (n - from) es

  first : FirstAt (take n es) t (from + place t rest)
  first =
      let e : length (take from es) ≡ from = length-take-le from es (omega arith) in
      subst (λ k. FirstAt (take n es) t (k + place t rest)) e (rw parts (behind (take from es) rest t (place t rest) passed (first_place t rest)))

  whole : from + length rest ≡ length (take n es)
  whole = simp (length-take, length-drop) (omega arith)

  pub found : (k : ℕ) → Some k ≡ cond (ltb (place t rest) (length rest)) (Some (place t rest)) None → (from + k < length (take n es)) × FirstAt (take n es) t (from + k)
  found k e = go (dec_le (length rest) (place t rest))
    where
      go : Dec (length rest ≤ place t rest) → (from + k < length (take n es)) × FirstAt (take n es) t (from + k)
      go (yes h) = absurd (some_none (e ∙ rw (le-ltb (place t rest) (length rest) h)))
      go (no h) =
          let i : k ≡ place t rest = same_place (e ∙ rw (lt-ltb (place t rest) (length rest) (omega arith))) in
          rw i (omega (arith, whole), first)

  pub not_found : None ≡ cond (ltb (place t rest) (length rest)) (Some (place t rest)) None → member t (take n es) ≡ false
  not_found e = go (dec_le (length rest) (place t rest))
    where
      go : Dec (length rest ≤ place t rest) → member t (take n es) ≡ false
      go (yes h) = sym (ap (member t) (take_all (from + place t rest) (take n es) (omega (arith, whole)))) ∙ first.none_before
      go (no h) = absurd (some_none {k = place t rest} (sym (e ∙ rw (lt-ltb (place t rest) (length rest) (omega arith)))))

-- a thread that a list holds stands at some place
pub stands : (t : ℕ) (l : List ℕ) → member t l ≡ true → (i : ℕ) × (i < length l) × (get_or l i 0 ≡ t)
stands t l m = go (dec_le (length l) (place t l))
  where
    f : FirstAt l t (place t l)
    f = first_place t l

    go : Dec (length l ≤ place t l) → (i : ℕ) × (i < length l) × (get_or l i 0 ≡ t)
    go (yes h) = clash m (ap (member t) (sym (take_all (place t l) l h)) ∙ f.none_before)
    go (no h) = let low : place t l < length l = omega arith in (place t l, low, sym (f.here low))
