-- The orders of partitions are orders with ties: has budget, then top priority where the mode has it, then the fraction used.
use mathlib.Core.Logic.{◌≢◌}
use mathlib.Core.Path.{◌≡◌, refl, sym, ◌∙◌}
use Prim.Native.Nat.{ℕ, ◌*◌, ◌≤◌, ◌<◌}
use mathlib.Core.Bool.{Bool, true, false, cond, ◌&&◌}
use lib.Dec.{eqb, ltb}
use borrow.Author.Tests.{eqb-true, eqb-false, ne_eqb, ltb-true, lt-ltb, le-ltb}
use native.Mathlib.Omega.{arith}
use native.Mathlib.Decide.{dec_le}
use native.Mathlib.Nat.{mul-le-mul_right, le_of_mul-le-mul_right}
use Rattle.lists.proofs.Tests.{clash}
use Rattle.sheet.specs.Settings.{budget}
use Rattle.units.specs.Units.{compare_numbers, compare_flags, compare_fractions}
use Rattle.units.specs.declared.Comparison.{Comparison}
use Rattle.units.specs.declared.Comparison.TheVariants.{Better, Worse, Equal}
use Rattle.model.specs.State.{used, State}
use Rattle.model.specs.Policy.{has_budget, top_priority, by_budget, by_priority, by_fraction, ◌then◌, ratio_policy, compare, at_limit, free_time}
use Rattle.model.specs.Choices.{reversed, Ordered, is_better, before, StrictWeak}

-- two of the three answers at once
pub apart : {A : Type 0} → Better ≡ Worse → A
apart e = let z : ◌≡◌ {A = ℕ} 0 1 = cc in let w : ⊥ = omega arith in absurd w

pub not_better : {A : Type 0} → Better ≡ Equal → A
not_better e = let z : ◌≡◌ {A = ℕ} 0 1 = cc in let w : ⊥ = omega arith in absurd w

pub not_worse : {A : Type 0} → Worse ≡ Equal → A
not_worse e = let z : ◌≡◌ {A = ℕ} 0 1 = cc in let w : ⊥ = omega arith in absurd w

-- ---- what holds in every such order

module _ (R : ℕ → ℕ → Comparison) (o : Ordered R) where
  pub itself : (p : ℕ) → R p p ≡ Equal
  itself p = go (R p p) refl
    where
      go : (c : Comparison) → R p p ≡ c → R p p ≡ Equal
      go Better e = apart (sym e ∙ o.mirrored p p ∙ rw e)
      go Worse e = apart (sym (sym e ∙ o.mirrored p p ∙ rw e))
      go Equal e = e

  -- reversed round
  pub reversed_better : (p q : ℕ) → R p q ≡ Better → R q p ≡ Worse
  reversed_better p q e = o.mirrored p q ∙ rw e

  pub reversed_worse : (p q : ℕ) → R p q ≡ Worse → R q p ≡ Better
  reversed_worse p q e = o.mirrored p q ∙ rw e

  pub reversed_equal : (p q : ℕ) → R p q ≡ Equal → R q p ≡ Equal
  reversed_equal p q e = o.mirrored p q ∙ rw e

  -- not better is not worse the other way
  pub other_way : (p q : ℕ) → R p q ≢ Better → R q p ≢ Worse
  other_way p q n e = n (reversed_worse q p e)

  -- better than one that is not worse than a third is better than the third, and the same the other way about
  pub better_than : (p q r : ℕ) → R p q ≡ Better → R q r ≢ Worse → R p r ≡ Better
  better_than p q r b n = go (R p r) refl
    where
      go : (c : Comparison) → R p r ≡ c → R p r ≡ Better
      go Better e = e
      go Worse e = absurd (o.transitive p q r (λ f. apart (sym b ∙ f)) n e)
      go Equal e = absurd (o.transitive q r p n (λ f. not_worse (sym f ∙ reversed_equal p r e)) (reversed_better p q b))

  pub than_better : (p q r : ℕ) → R p q ≢ Worse → R q r ≡ Better → R p r ≡ Better
  than_better p q r n b = go (R p r) refl
    where
      go : (c : Comparison) → R p r ≡ c → R p r ≡ Better
      go Better e = e
      go Worse e = absurd (o.transitive p q r n (λ f. apart (sym b ∙ f)) e)
      go Equal e = absurd (o.transitive r p q (λ f. not_worse (sym f ∙ reversed_equal p r e)) n (reversed_better q r b))

  pub equal_chain : (p q r : ℕ) → R p q ≡ Equal → R q r ≡ Equal → R p r ≡ Equal
  equal_chain p q r e f = go (R p r) refl
    where
      go : (c : Comparison) → R p r ≡ c → R p r ≡ Equal
      go Better g =
          absurd (o.transitive r q p (λ h. not_worse (sym h ∙ reversed_equal q r f)) (λ h. not_worse (sym h ∙ reversed_equal p q e)) (reversed_better p r g))
      go Worse g = absurd (o.transitive p q r (λ h. not_worse (sym h ∙ e)) (λ h. not_worse (sym h ∙ f)) g)
      go Equal g = g

  -- so to be better is a strict weak order
  pub strict_weak : StrictWeak (λ p q. is_better (R p q))
  strict_weak = record {
    asymmetric = λ p q e. is_not (R q p) (λ f. apart (sym f ∙ reversed_better p q (is (R p q) e)));
    negatively_transitive =
        λ p q r e f. is_not (R p r) (λ g. o.transitive r q p (other_way q r (isnt (R q r) f)) (other_way p q (isnt (R p q) e)) (reversed_better p r g));
  }
    where
      is : (c : Comparison) → is_better c ≡ true → c ≡ Better
      is Better e = refl
      is Worse e = clash e refl
      is Equal e = clash e refl

      isnt : (c : Comparison) → is_better c ≡ false → c ≢ Better
      isnt Better e f = clash refl e
      isnt Worse e f = apart (sym f)
      isnt Equal e f = not_better (sym f)

      is_not : (c : Comparison) → c ≢ Better → is_better c ≡ false
      is_not Better n = absurd (n refl)
      is_not Worse n = refl
      is_not Equal n = refl

-- ---- one comparison after another

reversed_then : (c d : Comparison) → (reversed c then reversed d) ≡ reversed (c then d)
unfolding ◌then◌
reversed_then Better d = refl
reversed_then Worse d = refl
reversed_then Equal d = refl

pub by_both : (R S : ℕ → ℕ → Comparison) → Ordered R → Ordered S → Ordered (λ p q. R p q then S p q)
unfolding ◌then◌
by_both R S a b = record {
  mirrored = λ p q. rw (a.mirrored p q, b.mirrored p q) (reversed_then (R p q) (S p q));
  transitive = λ p q r. go p q r (R p q) refl (R q r) refl;
}
  where
    go : (p q r : ℕ) (c : Comparison) → R p q ≡ c → (d : Comparison) → R q r ≡ d → (c then S p q) ≢ Worse → (d then S q r) ≢ Worse
        → (R p r then S p r) ≢ Worse
    go p q r Better e d f m n = rw (better_than R a p q r e (λ g. n (rw (sym f ∙ g)))) apart
    go p q r Worse e d f m n = absurd (m refl)
    go p q r Equal e Better f m n = rw (than_better R a p q r (λ g. not_worse (sym g ∙ e)) f) apart
    go p q r Equal e Worse f m n = absurd (n refl)
    go p q r Equal e Equal f m n = rw (equal_chain R a p q r e f) (b.transitive p q r m n)

-- ---- by a number, the larger being the better

numbers_reversed : (a b : ℕ) → compare_numbers b a ≡ reversed (compare_numbers a b)
unfolding compare_numbers
numbers_reversed a b = go (ltb a b) refl (ltb b a) refl
  where
    go : (x : Bool) → ltb a b ≡ x → (y : Bool) → ltb b a ≡ y → cond x Better (cond y Worse Equal) ≡ reversed (cond y Better (cond x Worse Equal))
    go true e true f = let h : a < b = ltb-true a b e in let k : b < a = ltb-true b a f in let z : ⊥ = omega arith in absurd z
    go true e false f = refl
    go false e true f = refl
    go false e false f = refl

numbers_le : (a b : ℕ) → compare_numbers a b ≢ Worse → b ≤ a
unfolding compare_numbers
numbers_le a b n = go (dec_le b a)
  where
    go : Dec (b ≤ a) → b ≤ a
    go (yes h) = h
    go (no h) = absurd (n (rw (le-ltb b a (omega arith), lt-ltb a b (omega arith))))

le_numbers : (a b : ℕ) → b ≤ a → compare_numbers a b ≢ Worse
unfolding compare_numbers
le_numbers a b h e = go (ltb b a) refl (rw (le-ltb a b h) at e)
  where
    go : (z : Bool) → ltb b a ≡ z → cond z Better Equal ≡ Worse → ⊥
    go true q f = apart f
    go false q f = not_worse (sym f)

pub by_key : (key : ℕ → ℕ) → Ordered (λ p q. compare_numbers (key p) (key q))
by_key key = record {
  mirrored = λ p q. numbers_reversed (key p) (key q);
  transitive = λ p q r m n. le_numbers (key p) (key r) (omega (arith, numbers_le (key p) (key q) m, numbers_le (key q) (key r) n));
}

-- ---- the fraction

frac_le : (u₁ b₁ u₂ b₂ : ℕ) → compare_fractions u₁ b₁ u₂ b₂ ≢ Worse → b₂ ≢ 0 → (b₁ ≢ 0) × (u₁ * b₂ ≤ u₂ * b₁)
unfolding compare_fractions
frac_le u₁ b₁ u₂ b₂ n k = go (eqb b₁ 0) refl (rw (ne_eqb b₂ 0 k) at n)
  where
    go : (z : Bool) → eqb b₁ 0 ≡ z → cond z Worse (compare_numbers (u₂ * b₁) (u₁ * b₂)) ≢ Worse → (b₁ ≢ 0) × (u₁ * b₂ ≤ u₂ * b₁)
    go true q m = absurd (m refl)
    go false q m = (eqb-false b₁ 0 q, numbers_le (u₂ * b₁) (u₁ * b₂) m)

le_frac : (u₁ b₁ u₂ b₂ : ℕ) → (b₂ ≢ 0 → (b₁ ≢ 0) × (u₁ * b₂ ≤ u₂ * b₁)) → compare_fractions u₁ b₁ u₂ b₂ ≢ Worse
unfolding compare_fractions
le_frac u₁ b₁ u₂ b₂ f = go (eqb b₂ 0) refl (eqb b₁ 0) refl
  where
    go : (y : Bool) → eqb b₂ 0 ≡ y → (z : Bool) → eqb b₁ 0 ≡ z
        → cond z (cond y Equal Worse) (cond y Better (compare_numbers (u₂ * b₁) (u₁ * b₂))) ≢ Worse
    go true q true r e = not_worse (sym e)
    go true q false r e = apart e
    go false q true r e = absurd ((f (eqb-false b₂ 0 q)).0 (eqb-true b₁ 0 r))
    go false q false r e = le_numbers (u₂ * b₁) (u₁ * b₂) (f (eqb-false b₂ 0 q)).1 e

frac_reversed : (u₁ b₁ u₂ b₂ : ℕ) → compare_fractions u₂ b₂ u₁ b₁ ≡ reversed (compare_fractions u₁ b₁ u₂ b₂)
unfolding compare_fractions
frac_reversed u₁ b₁ u₂ b₂ = go (eqb b₁ 0) (eqb b₂ 0)
  where
    go : (y z : Bool) → cond z (cond y Equal Worse) (cond y Better (compare_numbers (u₁ * b₂) (u₂ * b₁)))
        ≡ reversed (cond y (cond z Equal Worse) (cond z Better (compare_numbers (u₂ * b₁) (u₁ * b₂))))
    go true true = refl
    go true false = refl
    go false true = refl
    go false false = numbers_reversed (u₂ * b₁) (u₁ * b₂)

cross : (u₁ b₁ u₂ b₂ u₃ b₃ : ℕ) → b₂ ≢ 0 → u₂ * b₁ ≤ u₁ * b₂ → u₃ * b₂ ≤ u₂ * b₃ → u₃ * b₁ ≤ u₁ * b₃
cross u₁ b₁ u₂ b₂ u₃ b₃ n h k =
    let x : u₂ * b₁ * b₃ ≤ u₁ * b₂ * b₃ = mul-le-mul_right b₃ h in
    let y : u₃ * b₂ * b₁ ≤ u₂ * b₃ * b₁ = mul-le-mul_right b₁ k in
    let z : u₃ * b₁ * b₂ ≤ u₁ * b₃ * b₂ = omega arith in
    le_of_mul-le-mul_right z (omega arith)

-- whatever the totals u and the budgets b are
pub by_fractions : (u b : ℕ → ℕ) → Ordered (λ p q. compare_fractions (u p) (b p) (u q) (b q))
by_fractions u b = record {
  mirrored = λ p q. frac_reversed (u p) (b p) (u q) (b q);
  transitive = λ p q r m n. le_frac (u p) (b p) (u r) (b r) (λ k.
      let (l, y) = frac_le (u q) (b q) (u r) (b r) n k in
      let (i, x) = frac_le (u p) (b p) (u q) (b q) m l in
      (i, cross (u r) (b r) (u q) (b q) (u p) (b p) l y x));
}

by_fraction_law : (s : State) → Ordered (by_fraction s)
unfolding by_fraction
by_fraction_law s = by_fractions (λ p. used s p) (λ p. budget s.settings p)

-- ---- all orders

flags : (x y : Bool) → compare_flags x y ≡ compare_numbers (cond x 1 0) (cond y 1 0)
unfolding compare_flags compare_numbers
flags true true = refl
flags true false = refl
flags false true = refl
flags false false = refl

-- whatever the flags are
pub by_flags : (on : ℕ → Bool) → Ordered (λ p q. compare_flags (on p) (on q))
by_flags on = record {
  mirrored = λ p q. rw (flags (on p) (on q), flags (on q) (on p)) (k.mirrored p q);
  transitive = λ p q r. rw (flags (on p) (on q), flags (on q) (on r), flags (on p) (on r)) (k.transitive p q r);
}
  where
    k : Ordered (λ p q. compare_numbers (cond (on p) 1 0) (cond (on q) 1 0))
    k = by_key (λ p. cond (on p) 1 0)

by_budget_law : (s : State) → Ordered (by_budget s)
unfolding by_budget
by_budget_law s = by_flags (has_budget s)

by_priority_law : (s : State) → Ordered (by_priority s)
unfolding by_priority
by_priority_law s = by_key (top_priority s)

pub ordered : (s : State) (m : ℕ) → Ordered (compare s m)
unfolding compare
ordered s m = go (eqb m at_limit) (eqb m free_time && ratio_policy s)
  where
    go : (x y : Bool)
        → Ordered (λ p q. cond x (by_fraction s p q) (cond y (by_budget s p q then by_fraction s p q) (by_budget s p q then by_priority s p q then by_fraction s p q)))
    go true y = by_fraction_law s
    go false true = by_both (by_budget s) (by_fraction s) (by_budget_law s) (by_fraction_law s)
    go false false =
        by_both (by_budget s) (λ p q. by_priority s p q then by_fraction s p q) (by_budget_law s)
        (by_both (by_priority s) (by_fraction s) (by_priority_law s) (by_fraction_law s))

pub weak : (s : State) (m : ℕ) → StrictWeak (before s m)
weak s m = strict_weak (compare s m) (ordered s m)
