-- What a add_at and a cleared slot leave of the rows and of the totals.
use mathlib.Core.Logic.{◌≢◌}
use mathlib.Core.Path.{◌≡◌, refl, sym, ap, ◌∙◌}
use Prim.Native.Nat.{ℕ, zero, suc, ◌+◌, ◌-◌, ◌*◌, ◌≤◌, ◌<◌}
use mathlib.Core.Bool.{Bool, true, false, cond}
use mathlib.Core.Option.{Option, none, some}
use mathlib.Core.List.{List}
use lib.ListN.{length, get_or, set, drop, length-set}
use lib.Seq.{get_or-set_same, get_or-set_other, set-get_or, drop-set-lt}
use lib.Dec.{eqb}
use borrow.Author.Tests.{eqb-true, eqb-false}
use native.Mathlib.Omega.{arith}
use native.Mathlib.Decide.{dec_lt}
use native.Mathlib.Nat.{not-suc-le-zero}
use Rattle.lists.proofs.Parts.{row_of, in_rows, row_get, row_set, row_set_other}
use Rattle.units.specs.declared.Cycles.{Cycles}
use Rattle.sheet.specs.Settings.{W}
use Rattle.model.specs.State.{used, State}
use Rattle.model.specs.Step.{add_used, add_history, clear_history, lower_used}
use Rattle.model.specs.Facts.{used_at}
use Rattle.invariants.specs.Charges.{part_of, add_at}

-- ---- the history after e is charged to the partition o in the current slot

charge_none : (slot : ℕ) (l : List ℕ) → add_at slot 0 l ≡ l
charge_none slot l = let z : get_or l slot 0 + 0 ≡ get_or l slot 0 = omega arith in rw z (set-get_or l slot 0)

module _ (s : State) where
  abbrev w : ℕ
  w = W s.settings

  abbrev slot : ℕ
  slot = s.slot.0

  pub history_length : (o : Option ℕ) (e : ℕ) (h : List ℕ) → length (add_history s o e h) ≡ length h
  unfolding add_history
  history_length none e h = refl
  history_length (some p) e h = length-set h _ _

  pub history_past : (n : ℕ) (o : Option ℕ) (e : ℕ) (h : List ℕ) → slot < w → ((r : ℕ) → o ≡ some r → r < n)
      → drop (n * w) (add_history s o e h) ≡ drop (n * w) h
  unfolding add_history
  history_past n none e h a r = refl
  history_past n (some p) e h a r = drop-set-lt (n * w) h (p * w + slot) _ (in_rows w n p slot (r p refl) a)

  pub row_charge : (o : Option ℕ) (e : ℕ) (h : List ℕ) (q : ℕ) → slot < w
      → row_of w (add_history s o e h) q ≡ add_at slot (part_of o q e) (row_of w h q)
  unfolding add_history
  row_charge none e h q b = sym (charge_none slot (row_of w h q))
  row_charge (some r) e h q b = go (eqb r q) refl
    where
      go : (z : Bool) → eqb r q ≡ z → row_of w (add_at (r * w + slot) e h) q ≡ add_at slot (cond z e 0) (row_of w h q)
      go true i =
          let same : r ≡ q = eqb-true r q i in
          rw (same, row_set w h q slot (get_or h (q * w + slot) 0 + e) b, row_get w h q slot b)
      go false i =
          let apart : r ≢ q = eqb-false r q i in
          rw (row_set_other w h q r slot (get_or h (r * w + slot) 0 + e) (omega arith) b) (sym (charge_none slot (row_of w h q)))

-- ---- the history after slot k is cleared for every partition below n

pub clear_past : (w k m n : ℕ) (h : List ℕ) → k < w → n ≤ m → drop (m * w) (clear_history w k n h) ≡ drop (m * w) h
unfolding clear_history
clear_past w k m zero h a b = refl
clear_past w k m (suc n) h a b =
    drop-set-lt (m * w) (clear_history w k n h) (n * w + k) 0 (in_rows w m n k b a) ∙ clear_past w k m n h a (omega arith)

clear_above : (w k n : ℕ) (h : List ℕ) (q : ℕ) → k < w → n ≤ q → row_of w (clear_history w k n h) q ≡ row_of w h q
unfolding clear_history
clear_above w k zero h q b c = refl
clear_above w k (suc n) h q b c = row_set_other w (clear_history w k n h) q n k 0 (omega arith) b ∙ clear_above w k n h q b (omega arith)

pub row_clear : (w k n : ℕ) (h : List ℕ) (q : ℕ) → k < w → q < n → row_of w (clear_history w k n h) q ≡ set (row_of w h q) k 0
unfolding clear_history
row_clear w k zero h q b c = absurd (not-suc-le-zero c)
row_clear w k (suc n) h q b c = go (dec_lt q n) (λ d. row_clear w k n h q b d)
  where
    l : List ℕ
    l = clear_history w k n h

    go : Dec (q < n) → (q < n → row_of w l q ≡ set (row_of w h q) k 0) → row_of w (set l (n * w + k) 0) q ≡ set (row_of w h q) k 0
    go (yes d) ih = row_set_other w l q n k 0 (omega arith) b ∙ ih d
    go (no d) ih = let e : q ≡ n = omega arith in rw (e, row_set w l n k 0 b, clear_above w k n h n b (omega arith))

-- ---- the totals

pub used_length : (s : State) (o : Option ℕ) (e : ℕ) → length (add_used s o e) ≡ length s.used
unfolding add_used
used_length s none e = refl
used_length s (some p) e = length-set s.used p _

pub used_charge : (s : State) (o : Option ℕ) (e p : ℕ) → ((r : ℕ) → o ≡ some r → r < length s.used)
    → used_at (add_used s o e) p ≡ used s p + part_of o p e
unfolding add_used
used_charge s none e p h = omega arith
used_charge s (some r) e p h = go (eqb r p) refl
  where
    new : Cycles
    new = record { 0 = used s r + e }

    go : (z : Bool) → eqb r p ≡ z → used_at (set s.used r new) p ≡ used s p + cond z e 0
    go true q = let same : r ≡ p = eqb-true r p q in rw (← same, used_at, get_or-set_same s.used r new (record { 0 = 0 }) (h r refl))
    go false q = rw (used_at, get_or-set_other s.used r p new (record { 0 = 0 }) (λ w. eqb-false r p q (sym w))) (omega arith)

module _ (w k : ℕ) (u : List Cycles) (h : List ℕ) where
  abbrev lowered : ℕ → List Cycles
  lowered n = lower_used w k n u h

  pub lower_length : (n : ℕ) → length (lowered n) ≡ length u
  unfolding lower_used
  lower_length zero = refl
  lower_length (suc n) = length-set (lowered n) n _ ∙ lower_length n

  pub lower_past : (n p : ℕ) → n ≤ p → used_at (lowered n) p ≡ used_at u p
  unfolding lower_used
  lower_past zero p b = refl
  lower_past (suc n) p b =
      ap (λ (c : Cycles). c.0) (get_or-set_other (lowered n) n p _ (record { 0 = 0 }) (omega arith)) ∙ lower_past n p (omega arith)

  pub lower_at : (n p : ℕ) → n ≤ length u → p < n → used_at (lowered n) p ≡ used_at u p - get_or h (p * w + k) 0
  unfolding lower_used
  lower_at zero p l b = absurd (not-suc-le-zero b)
  lower_at (suc n) p l b = go (dec_lt p n) (λ a. lower_at n p (omega arith) a)
    where
      new : Cycles
      new = record { 0 = used_at u n - get_or h (n * w + k) 0 }

      go : Dec (p < n) → (p < n → used_at (lowered n) p ≡ used_at u p - get_or h (p * w + k) 0)
          → used_at (set (lowered n) n new) p ≡ used_at u p - get_or h (p * w + k) 0
      go (yes a) ih = ap (λ (c : Cycles). c.0) (get_or-set_other (lowered n) n p new (record { 0 = 0 }) (omega arith)) ∙ ih a
      go (no a) ih =
          let same : p ≡ n = omega arith in
          rw same (ap (λ (c : Cycles). c.0) (get_or-set_same (lowered n) n new (record { 0 = 0 }) (rw (lower_length n) l)))
