-- The winner: it competes, none that competes is better, and of those equal to it it is the favoured one, or else the lowest.
use mathlib.Core.Logic.{◌≢◌}
use mathlib.Core.Path.{◌≡◌, refl, sym, ap, subst, ◌∙◌}
use Prim.Native.Nat.{ℕ, zero, suc, ◌<◌}
use mathlib.Core.Bool.{Bool, true, false, cond}
use mathlib.Core.Option.{Option, none, some}
use borrow.Author.Tests.{eqb-true, eqb-false, eq-eqb}
use native.Mathlib.Omega.{arith}
use native.Mathlib.Decide.{dec_lt}
use native.Mathlib.Nat.{not-suc-le-zero}
use Rattle.lists.proofs.Tests.{clash}
use Rattle.units.specs.declared.Comparison.{Comparison}
use Rattle.units.specs.declared.Comparison.TheVariants.{Better, Worse, Equal}
use Rattle.model.specs.Policy.{competing, mode, compare, favours, wins, best, better, winner}
use Rattle.model.specs.Choices.{Ordered, Won}
use Rattle.model.specs.State.{State}
use Rattle.model.proofs.Order.{apart, not_better, not_worse, itself, reversed_better, reversed_worse, other_way, better_than, ordered}

-- ---- the favoured partition

pub same_partition : {a b : ℕ} → some a ≡ some b → a ≡ b
same_partition e = cc

none_some : {A : Type 0} {a : ℕ} → none ≡ some a → A
none_some e = let z : ◌≡◌ {A = ℕ} 0 1 = cc in let w : ⊥ = omega arith in absurd w

pub favours_it : (f : Option ℕ) (p : ℕ) → favours f p ≡ true → f ≡ some p
unfolding favours
favours_it none p e = clash e refl
favours_it (some q) p e = ap some (sym (eqb-true p q e))

pub it_is_favoured : (f : Option ℕ) (p : ℕ) → f ≡ some p → favours f p ≡ true
unfolding favours
it_is_favoured f p e = rw e (eq-eqb p p refl)

pub favours_not : (f : Option ℕ) (p : ℕ) → favours f p ≡ false → f ≢ some p
unfolding favours
favours_not none p e g = none_some g
favours_not (some q) p e g = eqb-false p q e (sym (same_partition g))

module _ (s : State) where
  abbrev R : ℕ → ℕ → Comparison
  R = compare s (mode s)

  o : Ordered R
  o = ordered s (mode s)

  module _ (f : Option ℕ) where
    -- what holds of the best below n
    abbrev Best : ℕ → Option ℕ → Type 0
    Best n none = (q : ℕ) → q < n → competing s q ≡ false
    Best n (some w) = Won s f n w

    -- one more that does not compete
    skip : (n : ℕ) (b : Option ℕ) → competing s n ≡ false → Best n b → Best (suc n) b
    skip n none c h = λ q b. go q b (dec_lt q n)
      where
        go : (q : ℕ) → q < suc n → Dec (q < n) → competing s q ≡ false
        go q b (yes a) = h q a
        go q b (no a) = let w : q ≡ n = omega arith in rw w c
    skip n (some w) c h = record {
      inside = omega (arith, h.inside);
      competes = h.competes;
      unbeaten = λ q b d. h.unbeaten q (lower q b d (dec_lt q n)) d;
      favoured = λ q e b d. h.favoured q e (lower q b d (dec_lt q n)) d;
      lowest = h.lowest;
    }
      where
        lower : (q : ℕ) → q < suc n → competing s q ≡ true → Dec (q < n) → q < n
        lower q b d (yes a) = a
        lower q b d (no a) = let e : q ≡ n = omega arith in clash d (rw e c)

    -- one more that does, as the first, or beside the best w so far
    first : (n : ℕ) → competing s n ≡ true → ((q : ℕ) → q < n → competing s q ≡ false) → Won s f (suc n) n
    first n c h = record {
      inside = omega arith;
      competes = c;
      unbeaten = λ q b d e. not_better (sym e ∙ ap (λ (k : ℕ). R k n) (it q b d (dec_lt q n)) ∙ itself R o n);
      favoured = λ q e b d t. sym (it q b d (dec_lt q n));
      lowest = λ k q b d. clash d (h q b);
    }
      where
        it : (q : ℕ) → q < suc n → competing s q ≡ true → Dec (q < n) → q ≡ n
        it q b d (yes a) = clash d (h q a)
        it q b d (no a) = omega arith

    module _ (n w : ℕ) (c : competing s n ≡ true) (h : Won s f n w) where
      -- those below it, or it
      each : (P : ℕ → Type 0) → ((q : ℕ) → q < n → P q) → P n → (q : ℕ) → q < suc n → P q
      each P g k q b = go (dec_lt q n)
        where
          go : Dec (q < n) → P q
          go (yes a) = g q a
          go (no a) = let e : q ≡ n = omega arith in subst P (sym e) k

      -- it is better than w, and so than all below it
      passes : R n w ≡ Better → Won s f (suc n) n
      passes e = record {
        inside = omega arith;
        competes = c;
        unbeaten =
            each (λ q. competing s q ≡ true → R q n ≢ Better) (λ q a d g. apart (sym g ∙ reversed_better R o n q (past q a d)))
            (λ d g. not_better (sym g ∙ itself R o n));
        favoured =
            λ q g. each (λ q. competing s q ≡ true → R q n ≡ Equal → n ≡ q) (λ q a d t. not_worse (sym (reversed_better R o n q (past q a d)) ∙ t))
            (λ d t. refl) q;
        lowest = λ k q b d. past q b d;
      }
        where
          past : (q : ℕ) → q < n → competing s q ≡ true → R n q ≡ Better
          past q a d = better_than R o n w q e (other_way R o q w (h.unbeaten q a d))

      -- w stays
      stays : R n w ≢ Better → (R n w ≡ Equal → f ≢ some n) → Won s f (suc n) w
      stays u t = record {
        inside = omega (arith, h.inside);
        competes = h.competes;
        unbeaten = each (λ q. competing s q ≡ true → R q w ≢ Better) h.unbeaten (λ d. u);
        favoured =
            λ q g b. each (λ q. f ≡ some q → competing s q ≡ true → R q w ≡ Equal → w ≡ q) (λ q a g. h.favoured q g a) (λ g d e. absurd (t e g)) q b g;
        lowest = h.lowest;
      }

      -- it is equal to w, and the favoured one
      prevails : R n w ≡ Equal → f ≡ some n → Won s f (suc n) n
      prevails e g = record {
        inside = omega arith;
        competes = c;
        unbeaten =
            each (λ q. competing s q ≡ true → R q n ≢ Better)
            (λ q a d b. h.unbeaten q a d (better_than R o q n w b (λ x. not_worse (sym x ∙ e)))) (λ d b. not_better (sym b ∙ itself R o n));
        favoured = λ q k b d t. same_partition (sym g ∙ k);
        lowest = λ k. absurd (k g);
      }

      pick : (z : Comparison) → R n w ≡ z → (y : Bool) → favours f n ≡ y → Won s f (suc n) (cond (wins z y) n w)
      unfolding wins
      pick Better e y g = passes e
      pick Worse e y g = stays (λ b. apart (sym b ∙ e)) (λ b. not_worse (sym e ∙ b))
      pick Equal e true g = prevails e (favours_it f n g)
      pick Equal e false g = stays (λ b. not_better (sym b ∙ e)) (λ b. favours_not f n g)

    turn : (n : ℕ) (b : Option ℕ) → competing s n ≡ true → Best n b → Best (suc n) (some (better s f n b))
    unfolding better
    turn n none c h = first n c h
    turn n (some w) c h = pick n w c h (R n w) refl (favours f n) refl

    best_is : (n : ℕ) → Best n (best s f n)
    unfolding best
    best_is zero = λ q b. absurd (not-suc-le-zero b)
    best_is (suc n) = go (competing s n) refl (best_is n)
      where
        go : (z : Bool) → competing s n ≡ z → Best n (best s f n) → Best (suc n) (cond z (some (better s f n (best s f n))) (best s f n))
        go true e h = turn n (best s f n) e h
        go false e h = skip n (best s f n) e h

    -- the winner, if there is one, and who competes, if there is none
    pub winner_won : (w : ℕ) → winner s f ≡ some w → Won s f s.settings.count w
    unfolding winner
    winner_won w e = rw e at (best_is s.settings.count)

    pub winner_none : winner s f ≡ none → (q : ℕ) → q < s.settings.count → competing s q ≡ false
    unfolding winner
    winner_none e = rw e at (best_is s.settings.count)

    -- only one can be the winner
    won_above : (n w u : ℕ) → Won s f n w → Won s f n u → w < u → ⊥
    won_above n w u a b h = go (favours f u) refl (R u w) refl
      where
        go : (y : Bool) → favours f u ≡ y → (z : Comparison) → R u w ≡ z → ⊥
        go y g Better e = a.unbeaten u b.inside b.competes e
        go y g Worse e = b.unbeaten w a.inside a.competes (reversed_worse R o u w e)
        go true g Equal e = let x : w ≡ u = a.favoured u (favours_it f u g) b.inside b.competes e in omega arith
        go false g Equal e = not_better (sym (b.lowest (favours_not f u g) w h a.competes) ∙ e)

    pub won_one : (n w u : ℕ) → Won s f n w → Won s f n u → w ≡ u
    won_one n w u a b = go (dec_lt w u) (dec_lt u w)
      where
        go : Dec (w < u) → Dec (u < w) → w ≡ u
        go (yes h) k = absurd (won_above n w u a b h)
        go (no h) (yes k) = absurd (won_above n u w b a k)
        go (no h) (no k) = omega arith

    -- so it is what the search finds
    pub winner_is : (w : ℕ) → Won s f s.settings.count w → winner s f ≡ some w
    winner_is w a = go (winner s f) refl
      where
        go : (b : Option ℕ) → winner s f ≡ b → winner s f ≡ some w
        go none e = clash a.competes (winner_none e w a.inside)
        go (some u) e = e ∙ ap some (won_one s.settings.count u w (winner_won u e) a)

  -- ---- one favoured partition and another

  -- who wins, wins again where it is itself the favoured one
  pub won_again : (f : Option ℕ) (n w : ℕ) → Won s f n w → Won s (some w) n w
  won_again f n w h = record {
    inside = h.inside;
    competes = h.competes;
    unbeaten = h.unbeaten;
    favoured = λ q e b d t. same_partition e;
    lowest = λ k. absurd (k refl);
  }

  pub winner_again : (f : Option ℕ) → winner s (winner s f) ≡ winner s f
  winner_again f = go (winner s f) refl
    where
      nobody : (b : Option ℕ) → winner s none ≡ b → ((q : ℕ) → q < s.settings.count → competing s q ≡ false) → b ≡ none
      nobody none e h = refl
      nobody (some w) e h = let a : Won s none s.settings.count w = winner_won none w e in clash a.competes (h w a.inside)

      go : (b : Option ℕ) → winner s f ≡ b → winner s b ≡ b
      go none e = nobody (winner s none) refl (winner_none f e)
      go (some w) e = winner_is (some w) w (won_again f s.settings.count w (winner_won f w e))

  -- the favoured one, where it competes, loses to a better one only
  pub favoured_beaten : (p w : ℕ) → p < s.settings.count → competing s p ≡ true → winner s (some p) ≡ some w → p ≢ w → R w p ≡ Better
  favoured_beaten p w i c e n = go (R p w) refl
    where
      a : Won s (some p) s.settings.count w
      a = winner_won (some p) w e

      go : (z : Comparison) → R p w ≡ z → R w p ≡ Better
      go Better b = absurd (a.unbeaten p i c b)
      go Worse b = reversed_worse R o p w b
      go Equal b = absurd (n (sym (a.favoured p refl i c b)))
