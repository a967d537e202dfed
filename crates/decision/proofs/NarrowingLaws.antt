-- A set is narrowed by one pass over it, in the order of its numbers; two comparisons one after the other narrow it as one does that has both.
use mathlib.Core.Logic.{◌≢◌, ◌⊎◌, inl, inr}
use mathlib.Core.Path.{◌≡◌, refl, sym, ap, ap₂, subst, ◌∙◌}
use Prim.Native.Nat.{ℕ, ◌<◌}
use mathlib.Core.Bool.{Bool, true, false, not, ◌&&◌, ◌||◌}
use mathlib.Core.List.{List}
use lib.ListN.{get_or}
use lib.Dec.{eqb}
use native.Mathlib.Decide.{ℕ_discrete}
use borrow.Author.Tests.{eq-eqb, ne_eqb, eqb-true}
use Rattle.std.proofs.lemmas.Bool.{or_right}
use Rattle.lists.proofs.Tests.{clash, both}
use Rattle.sets.specs.Bits.{in_set, Put, TakenOut, Only, Lowest}
use lib.Bits.{bit_and}
use Rattle.sets.proofs.Laws.{none, and_set}
use Rattle.units.specs.Units.{compare_flags}
use Rattle.units.specs.declared.Comparison.{Comparison}
use Rattle.units.specs.declared.Comparison.TheVariants.{Better, Worse, Equal}
use Rattle.model.specs.Policy.{◌then◌}
use Rattle.model.specs.Choices.{Ordered}
use Rattle.model.proofs.Order.{apart, not_better, not_worse, itself, reversed_better, reversed_worse, reversed_equal, other_way, better_than, than_better, by_flags, by_key, by_fractions}
use Rattle.decision.specs.Narrowing.{Narrowed, Wins, OneMore, on_set, on_priority, on_fraction}

-- ---- the comparisons are orders

pub set_ordered : (set : ℕ) → Ordered (on_set set)
set_ordered set = by_flags (in_set set)

pub tops_ordered : (tops : List ℕ) → Ordered (on_priority tops)
tops_ordered tops = by_key (λ p. get_or tops p 0)

pub fractions_ordered : (used budgets : List ℕ) → Ordered (on_fraction used budgets)
fractions_ordered used budgets = by_fractions (λ p. get_or used p 0) (λ p. get_or budgets p 0)

-- ---- one pass

-- after the numbers of w that are no longer in left: kept holds the best of them, and b is one of these
pub record Passed (R : ℕ → ℕ → Comparison) (w left kept b : ℕ) : Type 0 where
  pub low : b < 16
  pub part : (i : ℕ) → i < 16 → in_set left i ≡ true → in_set w i ≡ true
  pub here : in_set kept b ≡ true
  pub inside : (i : ℕ) → i < 16 → in_set kept i ≡ true → in_set w i ≡ true
  pub unbeaten : (i : ℕ) → i < 16 → in_set w i ≡ true → in_set left i ≡ false → R i b ≢ Better
  pub level : (i : ℕ) → i < 16 → in_set kept i ≡ true → R b i ≡ Equal
  pub behind : (i : ℕ) → i < 16 → in_set w i ≡ true → in_set left i ≡ false → in_set kept i ≡ false → R b i ≡ Better

-- what is no longer left was the lowest, or had gone before
gone : (left q next i : ℕ) → i < 16 → TakenOut 16 left q next → in_set next i ≡ false → (i ≡ q) ⊎ (in_set left i ≡ false)
gone left q next i b t f = go (ℕ_discrete i q)
  where
    go : Dec (i ≡ q) → (i ≡ q) ⊎ (in_set left i ≡ false)
    go (yes e) = inl e
    go (no n) = inr (one (in_set left i) (sym (t i b ∙ ap (λ (z : Bool). in_set left i && not z) (ne_eqb i q n)) ∙ f))
      where
        one : (z : Bool) → (z && true) ≡ false → z ≡ false
        one true e = e
        one false e = e

still : (left q next i : ℕ) → i < 16 → TakenOut 16 left q next → in_set next i ≡ true → in_set left i ≡ true
still left q next i b t e = go (in_set left i) (sym (t i b) ∙ e)
  where
    go : (z : Bool) → (z && not (eqb i q)) ≡ true → z ≡ true
    go true f = refl
    go false f = clash f refl

here_only : (q set : ℕ) → q < 16 → Only 16 q set → in_set set q ≡ true
here_only q set b o = o q b ∙ eq-eqb q q refl

just : (q set i : ℕ) → i < 16 → Only 16 q set → in_set set i ≡ true → i ≡ q
just q set i b o e = eqb-true i q (sym (o i b) ∙ e)

-- equal is neither better nor worse
equal_not_better : {c : Comparison} → c ≡ Equal → c ≢ Better
equal_not_better e f = not_better (sym f ∙ e)

equal_not_worse : {c : Comparison} → c ≡ Equal → c ≢ Worse
equal_not_worse e f = not_worse (sym f ∙ e)

worse_not_better : {c : Comparison} → c ≡ Worse → c ≢ Better
worse_not_better e f = apart (sym f ∙ e)

module _ (R : ℕ → ℕ → Comparison) (o : Ordered R) where
  -- p is better than all that are not better than b, if it is better than b
  over : (p b i : ℕ) → R p b ≡ Better → R i b ≢ Better → R p i ≡ Better
  over p b i e f = better_than R o p b i e (other_way R o i b f)

  pub passed_start : (w q left kept : ℕ) → Lowest 16 w q → TakenOut 16 w q left → Only 16 q kept → Passed R w left kept q
  passed_start w q left kept l t s = record {
    low = l.inside;
    part = λ i b e. still w q left i b t e;
    here = here_only q kept l.inside s;
    inside = λ i b e. subst (λ (j : ℕ). in_set w j ≡ true) (sym (just q kept i b s e)) l.here;
    unbeaten = λ i b e f. alone i b e (gone w q left i b t f);
    level = λ i b e. subst (λ (j : ℕ). R q j ≡ Equal) (sym (just q kept i b s e)) (itself R o q);
    behind = λ i b e f g. never i b e g (gone w q left i b t f);
  }
    where
      alone : (i : ℕ) → i < 16 → in_set w i ≡ true → (i ≡ q) ⊎ (in_set w i ≡ false) → R i q ≢ Better
      alone i b e (inl x) = subst (λ (j : ℕ). R j q ≢ Better) (sym x) (equal_not_better (itself R o q))
      alone i b e (inr f) = clash e f

      never : (i : ℕ) → i < 16 → in_set w i ≡ true → in_set kept i ≡ false → (i ≡ q) ⊎ (in_set w i ≡ false) → R q i ≡ Better
      never i b e g (inl x) = clash (here_only q kept l.inside s) (subst (λ (j : ℕ). in_set kept j ≡ false) x g)
      never i b e g (inr f) = clash e f

  module _ (w left kept b : ℕ) (h : Passed R w left kept b) (q next : ℕ) (l : Lowest 16 left q) (t : TakenOut 16 left q next) where
    mine : in_set w q ≡ true
    mine = h.part q l.inside l.here

    step_ahead : (set : ℕ) → R q b ≡ Better → Only 16 q set → Passed R w next set q
    step_ahead set e s = record {
      low = l.inside;
      part = λ i c f. h.part i c (still left q next i c t f);
      here = here_only q set l.inside s;
      inside = λ i c f. subst (λ (j : ℕ). in_set w j ≡ true) (sym (just q set i c s f)) mine;
      unbeaten = λ i c f g. beaten i c f (gone left q next i c t g);
      level = λ i c f. subst (λ (j : ℕ). R q j ≡ Equal) (sym (just q set i c s f)) (itself R o q);
      behind = λ i c f g k. past i c f k (gone left q next i c t g);
    }
      where
        beaten : (i : ℕ) → i < 16 → in_set w i ≡ true → (i ≡ q) ⊎ (in_set left i ≡ false) → R i q ≢ Better
        beaten i c f (inl x) = subst (λ (j : ℕ). R j q ≢ Better) (sym x) (equal_not_better (itself R o q))
        beaten i c f (inr g) = worse_not_better (reversed_better R o q i (over q b i e (h.unbeaten i c f g)))

        past : (i : ℕ) → i < 16 → in_set w i ≡ true → in_set set i ≡ false → (i ≡ q) ⊎ (in_set left i ≡ false) → R q i ≡ Better
        past i c f k (inl x) = clash (here_only q set l.inside s) (subst (λ (j : ℕ). in_set set j ≡ false) x k)
        past i c f k (inr g) = over q b i e (h.unbeaten i c f g)

    step_level : (set : ℕ) → R q b ≡ Equal → Put 16 kept q set → Passed R w next set b
    step_level set e s = record {
      low = h.low;
      part = λ i c g. h.part i c (still left q next i c t g);
      here = s b h.low ∙ rw h.here;
      inside = λ i c g. within i c (joined i c g);
      unbeaten = λ i c g k. ahead i c g (gone left q next i c t k);
      level = λ i c g. even i c (joined i c g);
      behind = λ i c g k m. past i c g m (gone left q next i c t k);
    }
      where
        joined : (i : ℕ) → i < 16 → in_set set i ≡ true → (i ≡ q) ⊎ (in_set kept i ≡ true)
        joined i c g = go (ℕ_discrete i q)
          where
            one : (z : Bool) → (z || false) ≡ true → z ≡ true
            one true e = refl
            one false e = e

            go : Dec (i ≡ q) → (i ≡ q) ⊎ (in_set kept i ≡ true)
            go (yes x) = inl x
            go (no n) = inr (one (in_set kept i) (sym (s i c ∙ ap (λ (z : Bool). in_set kept i || z) (ne_eqb i q n)) ∙ g))

        within : (i : ℕ) → i < 16 → (i ≡ q) ⊎ (in_set kept i ≡ true) → in_set w i ≡ true
        within i c (inl x) = subst (λ (j : ℕ). in_set w j ≡ true) (sym x) mine
        within i c (inr g) = h.inside i c g

        ahead : (i : ℕ) → i < 16 → in_set w i ≡ true → (i ≡ q) ⊎ (in_set left i ≡ false) → R i b ≢ Better
        ahead i c g (inl x) = subst (λ (j : ℕ). R j b ≢ Better) (sym x) (equal_not_better e)
        ahead i c g (inr k) = h.unbeaten i c g k

        even : (i : ℕ) → i < 16 → (i ≡ q) ⊎ (in_set kept i ≡ true) → R b i ≡ Equal
        even i c (inl x) = subst (λ (j : ℕ). R b j ≡ Equal) (sym x) (reversed_equal R o q b e)
        even i c (inr g) = h.level i c g

        out : (i : ℕ) → i < 16 → in_set set i ≡ false → in_set kept i ≡ false
        out i c m = go (in_set kept i) (sym (s i c) ∙ m)
          where
            go : (z : Bool) → (z || eqb i q) ≡ false → z ≡ false
            go true e = e
            go false e = refl

        past : (i : ℕ) → i < 16 → in_set w i ≡ true → in_set set i ≡ false → (i ≡ q) ⊎ (in_set left i ≡ false) → R b i ≡ Better
        past i c g m (inl x) = clash (s i c ∙ or_right (in_set kept i) (eqb i q) (eq-eqb i q x)) m
        past i c g m (inr k) = h.behind i c g k (out i c m)

    step_behind : R q b ≡ Worse → Passed R w next kept b
    step_behind e = record {
      low = h.low;
      part = λ i c g. h.part i c (still left q next i c t g);
      here = h.here;
      inside = h.inside;
      unbeaten = λ i c g k. ahead i c g (gone left q next i c t k);
      level = h.level;
      behind = λ i c g k m. past i c g m (gone left q next i c t k);
    }
      where
        ahead : (i : ℕ) → i < 16 → in_set w i ≡ true → (i ≡ q) ⊎ (in_set left i ≡ false) → R i b ≢ Better
        ahead i c g (inl x) = subst (λ (j : ℕ). R j b ≢ Better) (sym x) (worse_not_better e)
        ahead i c g (inr k) = h.unbeaten i c g k

        past : (i : ℕ) → i < 16 → in_set w i ≡ true → in_set kept i ≡ false → (i ≡ q) ⊎ (in_set left i ≡ false) → R b i ≡ Better
        past i c g m (inl x) = subst (λ (j : ℕ). R b j ≡ Better) (sym x) (reversed_worse R o q b e)
        past i c g m (inr k) = h.behind i c g k m

    -- one number more, by the values of the best and of the new one
    passed_more : (A : Type 0) (value : ℕ → A) (old new v : A) (set : ℕ) → value b ≡ old → value q ≡ new
        → OneMore A (R q b) old new kept q v set → (c : ℕ) × (value c ≡ v) × Passed R w next set c
    passed_more A value old new v set is_old is_new m = go (R q b) refl
      where
        go : (y : Comparison) → R q b ≡ y → (c : ℕ) × (value c ≡ v) × Passed R w next set c
        go Better e = let (x, s) = m.ahead e in (q, is_new ∙ sym x, step_ahead set e s)
        go Worse e = let (x, s) = m.behind e in (b, is_old ∙ sym x, subst (λ (k : ℕ). Passed R w next k b) (sym s) (step_behind e))
        go Equal e = let (x, s) = m.level e in (b, is_old ∙ sym x, step_level set e s)

  -- the same where values are compared
  pub passed_value : (A : Type 0) (S : A → A → Comparison) (value : ℕ → A) → ((p q : ℕ) → R p q ≡ S (value p) (value q))
      → (w left kept b q next : ℕ) (old new v : A) (set : ℕ) → Passed R w left kept b → Lowest 16 left q → TakenOut 16 left q next
      → value b ≡ old → value q ≡ new → OneMore A (S new old) old new kept q v set → (c : ℕ) × (value c ≡ v) × Passed R w next set c
  passed_value A S value same w left kept b q next old new v set h l t e n m =
      passed_more w left kept b h q next l t A value old new v set e n
      (subst (λ (x : Comparison). OneMore A x old new kept q v set) (sym (same q b ∙ ap₂ S n e)) m)

  some_in : (set i : ℕ) → in_set set i ≡ true → set ≢ 0
  some_in set i e z = clash (subst (λ (k : ℕ). in_set k i ≡ true) z e) (none i)

  pub passed_all : (w left kept b : ℕ) → left ≡ 0 → Passed R w left kept b → Narrowed R w kept
  passed_all w left kept b z h = record {
    some = some_in kept b h.here;
    inside = h.inside;
    unbeaten = λ i q c d e f g. h.unbeaten q d f (out q) (better_than R o q i b g (equal_not_worse (reversed_equal R o b i (h.level i c e))));
    beaten = λ i q c d e f g. than_better R o i b q (equal_not_worse (reversed_equal R o b i (h.level i c e))) (h.behind q d f (out q) g);
  }
    where
      out : (i : ℕ) → in_set left i ≡ false
      out i = ap (λ (k : ℕ). in_set k i) z ∙ none i

module _ (A : Type 0) (c : Comparison) (old new : A) (kept p : ℕ) (value : A) (set : ℕ) where
  pub moved_ahead : c ≡ Better → value ≡ new → Only 16 p set → OneMore A c old new kept p value set
  moved_ahead e v s = record { ahead = λ f. (v, s); behind = λ f. apart (sym e ∙ f); level = λ f. not_better (sym e ∙ f) }

  pub moved_behind : c ≡ Worse → value ≡ old → set ≡ kept → OneMore A c old new kept p value set
  moved_behind e v s = record { ahead = λ f. apart (sym f ∙ e); behind = λ f. (v, s); level = λ f. not_worse (sym e ∙ f) }

  pub moved_level : c ≡ Equal → value ≡ old → Put 16 kept p set → OneMore A c old new kept p value set
  moved_level e v s = record { ahead = λ f. not_better (sym f ∙ e); behind = λ f. not_worse (sym f ∙ e); level = λ f. (v, s) }

-- ---- being in another set

module _ (w s : ℕ) where
  right : (a b : Bool) → (a && b) ≡ false → a ≡ true → b ≡ false
  right true b e f = e
  right false b e f = clash f refl

  -- nobody is: all are level
  pub preferred_none : w ≢ 0 → bit_and w s ≡ 0 → Narrowed (on_set s) w w
  unfolding compare_flags
  preferred_none n z = record {
    some = n;
    inside = λ i b e. e;
    unbeaten = λ i q b c e f. rw (out q f, out i e) (equal_not_better refl);
    beaten = λ i q b c e f g. clash f g;
  }
    where
      out : (i : ℕ) → in_set w i ≡ true → in_set s i ≡ false
      out i e = right (in_set w i) (in_set s i) (sym (and_set i w s) ∙ ap (λ (k : ℕ). in_set k i) z ∙ none i) e

  pub preferred_some : bit_and w s ≢ 0 → Narrowed (on_set s) w (bit_and w s)
  unfolding compare_flags
  preferred_some n = record {
    some = n;
    inside = λ i b e. (has i e).0;
    unbeaten = λ i q b c e f. rw (has i e).1 (level (in_set s q));
    beaten = λ i q b c e f g. rw ((has i e).1, right (in_set w q) (in_set s q) (sym (and_set q w s) ∙ g) f);
  }
    where
      has : (i : ℕ) → in_set (bit_and w s) i ≡ true → (in_set w i ≡ true) × (in_set s i ≡ true)
      has i e = both (in_set w i) (in_set s i) (sym (and_set i w s) ∙ e)

      level : (z : Bool) → compare_flags z true ≢ Better
      level true = equal_not_better refl
      level false = worse_not_better refl

-- ---- two comparisons, one after the other

module _ (P Q : ℕ → ℕ → Comparison) (o : Ordered P) (w v r : ℕ) (a : Narrowed P w v) (b : Narrowed Q v r) where
  pub narrowed_twice : Narrowed (λ p q. P p q then Q p q) w r
  unfolding ◌then◌
  narrowed_twice = record {
    some = b.some;
    inside = λ i c e. a.inside i c (b.inside i c e);
    unbeaten = λ i q c d e f. level i q c d e f (in_set v q) refl (P q i) refl;
    beaten = λ i q c d e f g. ahead i q c d e f g (in_set v q) refl (P i q) refl;
  }
    where
      level : (i q : ℕ) → i < 16 → q < 16 → in_set r i ≡ true → in_set w q ≡ true → (z : Bool) → in_set v q ≡ z → (y : Comparison) → P q i ≡ y
          → (y then Q q i) ≢ Better
      level i q c d e f z g Better k = absurd (a.unbeaten i q c d (b.inside i c e) f k)
      level i q c d e f z g Worse k = worse_not_better refl
      level i q c d e f true g Equal k = b.unbeaten i q c d e g
      level i q c d e f false g Equal k =
          not_worse (sym (reversed_better P o i q (a.beaten i q c d (b.inside i c e) f g)) ∙ k)

      ahead : (i q : ℕ) → i < 16 → q < 16 → in_set r i ≡ true → in_set w q ≡ true → in_set r q ≡ false → (z : Bool) → in_set v q ≡ z
          → (y : Comparison) → P i q ≡ y → (y then Q i q) ≡ Better
      ahead i q c d e f g z k Better m = refl
      ahead i q c d e f g z k Worse m = absurd (a.unbeaten i q c d (b.inside i c e) f (reversed_worse P o i q m))
      ahead i q c d e f g true k Equal m = b.beaten i q c d e k g
      ahead i q c d e f g false k Equal m = not_better (sym (a.beaten i q c d (b.inside i c e) f k) ∙ m)

-- ---- one that is alone

module _ (w p rest : ℕ) (n : w ≢ 0) (l : Lowest 16 w p) (t : TakenOut 16 w p rest) (z : rest ≡ 0) where
  alone : (i : ℕ) → i < 16 → in_set w i ≡ true → i ≡ p
  alone i b e = go (gone w p rest i b t (ap (λ (k : ℕ). in_set k i) z ∙ none i))
    where
      go : (i ≡ p) ⊎ (in_set w i ≡ false) → i ≡ p
      go (inl x) = x
      go (inr f) = clash e f

  narrowed_alone : (R : ℕ → ℕ → Comparison) → Ordered R → Narrowed R w w
  narrowed_alone R o = record {
    some = n;
    inside = λ i b e. e;
    unbeaten = λ i q b c e f. equal_not_better (ap₂ R (alone q c f) (alone i b e) ∙ itself R o p);
    beaten = λ i q b c e f g. clash f g;
  }

  pub wins_alone : (used budgets : List ℕ) (favoured : ℕ) → Wins used budgets w favoured p
  wins_alone used budgets favoured = record {
    tied = w;
    kept = w;
    best = narrowed_alone (on_fraction used budgets) (fractions_ordered used budgets);
    preferred = narrowed_alone (on_set favoured) (set_ordered favoured);
    lowest = l;
  }

-- where two are always equal, all are level
pub narrowed_none : (w : ℕ) → w ≢ 0 → Narrowed (λ p q. Equal) w w
narrowed_none w n = record { some = n; inside = λ i b e. e; unbeaten = λ i q b c e f. equal_not_better refl; beaten = λ i q b c e f g. clash f g }
