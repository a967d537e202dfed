-- The books after a add_at, and after a tick's move to the next slot.
use mathlib.Core.Path.{◌≡◌, refl}
use Prim.Native.Nat.{ℕ, ◌+◌, ◌*◌, ◌≤◌, ◌<◌}
use mathlib.Core.Bool.{Bool, true, false, cond}
use mathlib.Core.Option.{Option, none, some}
use mathlib.Core.List.{List}
use lib.ListN.{length, get_or, set}
use lib.Seq.{get_or-set_same, get_or-set_other}
use lib.Dec.{eqb}
use borrow.Author.Tests.{eqb-true, eqb-false, eq-eqb, ne_eqb}
use native.Mathlib.Omega.{arith}
use Rattle.lists.specs.Lists.{sum, total}
use Rattle.lists.proofs.Sums.{total_mono, total_add, total_zero, only_total, sum_set, total_ext}
use Rattle.lists.proofs.Parts.{row_of, row_get, row_length}
use Rattle.units.specs.declared.Cycles.{Cycles}
use Rattle.sheet.specs.Settings.{W, C, Limits}
use Rattle.sheet.specs.declared.Settings.{Settings}
use Rattle.model.specs.State.{used, State}
use Rattle.model.specs.Step.{add_used, add_history, clear_history, lower_used}
use Rattle.model.specs.Facts.{Books, Rest, used_at, charges}
use Rattle.invariants.specs.Charges.{part_of, add_at}
use Rattle.invariants.proofs.Charges.{row_charge, row_clear, used_charge, lower_past, lower_at}

-- what is charged to one partition is charged to all together, and nothing is charged to one past the last
share_total : (n : ℕ) (o : Option ℕ) (x : ℕ) → ((r : ℕ) → o ≡ some r → r < n) → total n (λ q. part_of o q x) ≤ x
share_total n none x h = omega (arith, total_zero n)
share_total n (some r) x h = omega (arith, only_total n r x (h r refl))

pub share_outside : (n : ℕ) (o : Option ℕ) (p x : ℕ) → ((r : ℕ) → o ≡ some r → r < n) → n ≤ p → part_of o p x ≡ 0
share_outside n none p x f out = refl
share_outside n (some r) p x f out = let a : r < n = f r refl in rw (ne_eqb r p (omega arith))

module _ (s : State) (h : List ℕ) (lim : Limits s.settings) (sixteen : length s.used ≡ 16) (fits : s.settings.count * W s.settings ≤ length h) where
  abbrev c : Settings
  c = s.settings

  row_len : (p : ℕ) → p < c.count → length (row_of (W c) h p) ≡ W c
  row_len p b = row_length (W c) h p c.count b fits

  -- ---- a add_at of e to the partition o
  module _ (o : Option ℕ) (e : ℕ) (r : (q : ℕ) → o ≡ some q → q < c.count) (b : Books c s.used s.slot.0 s.since.0 h) where
    abbrev h' : List ℕ
    h' = add_history s o e h

    -- the number of partition p for slot k
    charges_charge : (k p : ℕ) → k < W c → p < c.count → charges c h' k p ≡ charges c h k p + cond (eqb k s.slot.0) (part_of o p e) 0
    charges_charge k p i d =
        rw (← row_get (W c) h' p k i, row_charge s o e h p b.inside, ← row_get (W c) h p k i) (go (eqb k s.slot.0) refl)
      where
        row : List ℕ
        row = row_of (W c) h p

        go : (z : Bool) → eqb k s.slot.0 ≡ z → get_or (add_at s.slot.0 (part_of o p e) row) k 0 ≡ get_or row k 0 + cond z (part_of o p e) 0
        go true q =
            let w : k ≡ s.slot.0 = eqb-true _ _ q in
            rw (w, get_or-set_same row s.slot.0 (get_or row s.slot.0 0 + part_of o p e) 0 (rw (row_len p d) b.inside))
        go false q = rw (get_or-set_other row s.slot.0 k (get_or row s.slot.0 0 + part_of o p e) 0 (eqb-false _ _ q)) (omega arith)

    -- over all partitions
    slot_charge : (k : ℕ) → k < W c → total c.count (charges c h' k) ≤ total c.count (charges c h k) + cond (eqb k s.slot.0) e 0
    slot_charge k i = go (eqb k s.slot.0) (λ p d. charges_charge k p i d)
      where
        go : (z : Bool) → ((p : ℕ) → p < c.count → charges c h' k p ≡ charges c h k p + cond z (part_of o p e) 0)
            → total c.count (charges c h' k) ≤ total c.count (charges c h k) + cond z e 0
        go true f =
            omega (arith, total_ext c.count _ _ f, total_add c.count (charges c h k) (λ p. part_of o p e), share_total c.count o e r)
        go false f = omega (arith, total_mono c.count (charges c h' k) (charges c h k) (λ p d. omega (arith, f p d)))

    slot_current : total c.count (charges c h' s.slot.0) ≤ total c.count (charges c h s.slot.0) + e
    slot_current = rw (eq-eqb s.slot.0 s.slot.0 refl) at (slot_charge s.slot.0 b.inside)

    sum_charge : (p : ℕ) → p < c.count → sum (row_of (W c) h' p) ≡ sum (row_of (W c) h p) + part_of o p e
    sum_charge p d =
        rw (row_charge s o e h p b.inside)
        (omega (arith, sum_set (row_of (W c) h p) s.slot.0 (get_or (row_of (W c) h p) s.slot.0 0 + part_of o p e) (rw (row_len p d) b.inside)))

    used_now : (p : ℕ) → used_at (add_used s o e) p ≡ used s p + part_of o p e
    used_now p = used_charge s o e p (λ q w. omega (arith, r q w, lim.count_high))

    pub books_charge : s.since.0 + e ≤ 2 * C c → Books c (add_used s o e) s.slot.0 (s.since.0 + e) h'
    books_charge few = record {
      inside = b.inside;
      since_high = few;
      totals = λ p d. omega (arith, used_now p, b.totals p d, sum_charge p d);
      slots = λ k d. slot k d (eqb k s.slot.0) refl;
      current = omega (arith, slot_current, b.current);
    }
      where
        slot : (k : ℕ) → k < W c → (z : Bool) → eqb k s.slot.0 ≡ z → total c.count (charges c h' k) ≤ 2 * C c
        slot k d true q = let w : k ≡ s.slot.0 = eqb-true _ _ q in rw w (omega (arith, slot_current, b.current))
        slot k d false q = omega (arith, rw q at (slot_charge k d), b.slots k d)

    pub rest_charge : Rest c s.used → Rest c (add_used s o e)
    rest_charge t = record {
      no_share = t.no_share;
      no_total = λ p i out. omega (arith, used_now p, t.no_total p i out, share_outside c.count o p e r out);
    }

  -- ---- a move to slot k, which is cleared
  module _ (k : ℕ) (inside : k < W c) where
    abbrev h'' : List ℕ
    h'' = clear_history (W c) k c.count h

    abbrev u'' : List Cycles
    u'' = lower_used (W c) k c.count s.used h

    charges_clear : (j p : ℕ) → j < W c → p < c.count → charges c h'' j p ≡ cond (eqb j k) 0 (charges c h j p)
    charges_clear j p i d =
        rw (← row_get (W c) h'' p j i, row_clear (W c) k c.count h p inside d, ← row_get (W c) h p j i) (go (eqb j k) refl)
      where
        row : List ℕ
        row = row_of (W c) h p

        go : (z : Bool) → eqb j k ≡ z → get_or (set row k 0) j 0 ≡ cond z 0 (get_or row j 0)
        go true q = let w : j ≡ k = eqb-true j k q in rw (w, get_or-set_same row k 0 0 (rw (row_len p d) inside))
        go false q = rw (get_or-set_other row k j 0 0 (eqb-false j k q))

    slot_clear : (j : ℕ) → j < W c → total c.count (charges c h'' j) ≤ cond (eqb j k) 0 (total c.count (charges c h j))
    slot_clear j i = go (eqb j k) (λ p d. charges_clear j p i d)
      where
        go : (z : Bool) → ((p : ℕ) → p < c.count → charges c h'' j p ≡ cond z 0 (charges c h j p))
            → total c.count (charges c h'' j) ≤ cond z 0 (total c.count (charges c h j))
        go true f = omega (arith, total_ext c.count _ (λ p. 0) f, total_zero c.count)
        go false f = omega (arith, total_ext c.count _ _ f)

    sum_clear : (p : ℕ) → p < c.count → sum (row_of (W c) h'' p) + charges c h k p ≡ sum (row_of (W c) h p)
    sum_clear p d =
        rw (row_clear (W c) k c.count h p inside d, ← row_get (W c) h p k inside)
        (omega (arith, sum_set (row_of (W c) h p) k 0 (rw (row_len p d) inside)))

    pub books_tick : Books c s.used s.slot.0 s.since.0 h → Books c u'' k 0 h''
    books_tick b = record {
      inside = inside;
      since_high = omega arith;
      totals =
          λ p d. omega (arith, lower_at (W c) k s.used h c.count p (omega (arith, lim.count_high)) d, b.totals p d, sum_clear p d);
      slots = λ j d. slot j d (eqb j k) refl;
      current = rw (eq-eqb k k refl) at (slot_clear k inside);
    }
      where
        slot : (j : ℕ) → j < W c → (z : Bool) → eqb j k ≡ z → total c.count (charges c h'' j) ≤ 2 * C c
        slot j d true q = omega (arith, rw q at (slot_clear j d))
        slot j d false q = omega (arith, rw q at (slot_clear j d), b.slots j d)

    pub rest_tick : Rest c s.used → Rest c u''
    rest_tick t =
        record {
          no_share = t.no_share;
          no_total =
              λ p b out. omega (arith, lower_past (W c) k s.used h c.count p out, t.no_total p b out);
        }
