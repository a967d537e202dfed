-- The mode, the order and the winner over kept data are the paper's.
use mathlib.Core.Logic.{◌≢◌}
use mathlib.Core.Path.{◌≡◌, refl, sym, ap, ◌∙◌}
use Prim.Native.Nat.{ℕ, ◌+◌, ◌-◌, ◌<◌, ◌^◌}
use mathlib.Core.Bool.{Bool, true, false, not, cond, ◌&&◌}
use mathlib.Core.List.{List}
use mathlib.Core.Option.{Option, none, some}
use lib.ListN.{get_or}
use lib.Dec.{eqb, ltb}
use native.Mathlib.Omega.{arith}
use native.Mathlib.Decide.{ℕ_discrete, dec_lt}
use borrow.Author.Tests.{ltb-true, lt-ltb, le-ltb, eq-eqb, ne_eqb}
use Rattle.lists.specs.Lists.{below, any}
use Rattle.lists.proofs.Tests.{clash, both, same}
use Rattle.lists.proofs.All.{any_below, below_any}
use Rattle.sets.specs.Bits.{in_set, Lowest}
use Rattle.sets.proofs.Laws as bits
use lib.Bits.{bit_and, and_le_l}
use lib.Count.{count_trailing_zeros}
use Rattle.sheet.specs.Settings.{budget}
use Rattle.model.specs.State.{State}
use Rattle.units.specs.Units.{compare_numbers, compare_flags}
use Rattle.units.specs.declared.Comparison.{Comparison}
use Rattle.units.specs.declared.Comparison.TheVariants.{Better, Worse, Equal}
use Rattle.model.specs.Policy.{competing, has_budget, top_priority, mode, idle_mode, free_time, underload, at_limit, by_budget, by_priority, by_fraction, ◌then◌, compare, ratio_policy, favours, winner, decide, decide_for}
use Rattle.model.specs.Choices.{Ordered, Won}
use Rattle.model.specs.Answers.{mode_of, decided_of}
use Rattle.model.specs.declared.Mode.{Mode}
use Rattle.model.specs.declared.Mode.TheVariants.{Idle, FreeTime, Underload, AtLimit}
use Rattle.model.proofs.Order.{apart, not_better, not_worse, reversed_better, by_both, ordered}
use Rattle.model.proofs.Winner.{same_partition, favours_it, it_is_favoured, winner_won, winner_is}
use Rattle.accounts.specs.Kept.{Kept, level}
use Rattle.decision.specs.Narrowing.{Narrowed, Wins, on_set, on_priority, on_fraction}
use Rattle.decision.specs.Orders.{mode_by, order_by, asked, compared_by, level_in, compared_in}
use Rattle.decision.specs.declared.Order.{Order}
use Rattle.decision.proofs.NarrowingLaws.{set_ordered, tops_ordered, narrowed_twice}
use Rattle.decision.specs.Decides.{Favoured}

-- ---- the mode

-- a set of numbers below 16 is 0 exactly where none of them is in it
pub any_set : (w : ℕ) (f : ℕ → Bool) → w < 2 ^ 16 → ((i : ℕ) → i < 16 → in_set w i ≡ f i) → any f (below 16) ≡ not (eqb w 0)
any_set w f small h = go (ℕ_discrete w 0)
  where
    go : Dec (w ≡ 0) → any f (below 16) ≡ not (eqb w 0)
    go (yes z) = nothing (any f (below 16)) refl ∙ sym (ap not (eq-eqb w 0 z))
      where
        nothing : (b : Bool) → any f (below 16) ≡ b → any f (below 16) ≡ false
        nothing true e = let (i, b, t) = any_below f 16 e in clash (h i b ∙ t) (ap (λ (k : ℕ). in_set k i) z ∙ bits.none i)
        nothing false e = e
    go (no n) =
        let l = bits.lowest_in 16 w n small in
        below_any f 16 (count_trailing_zeros 16 w) l.inside (sym (h (count_trailing_zeros 16 w) l.inside) ∙ l.here) ∙ sym (ap not (ne_eqb w 0 n))

-- who has a budget above 0 and does not compete
asleep : (paying set : ℕ) → set < 2 ^ 16 → paying < 2 ^ 16
    → any (λ p. in_set paying p && not (in_set set p)) (below 16) ≡ not (eqb (bit_and paying (65535 - set)) 0)
asleep paying set small low =
    any_set (bit_and paying (65535 - set)) (λ p. in_set paying p && not (in_set set p)) (omega (arith, and_le_l paying (65535 - set)))
    (λ i b. bits.and_set i paying (65535 - set) ∙ ap (λ (z : Bool). in_set paying i && z) (bits.others_set 16 i set small b))

able : (set solvent : ℕ) → set < 2 ^ 16 → any (λ p. in_set set p && in_set solvent p) (below 16) ≡ not (eqb (bit_and set solvent) 0)
able set solvent small =
    any_set (bit_and set solvent) (λ p. in_set set p && in_set solvent p) (omega (arith, and_le_l set solvent)) (λ i b. bits.and_set i set solvent)

module _ (paying set solvent : ℕ) (small : set < 2 ^ 16) where
  pub mode_idle : set ≡ 0 → Idle ≡ mode_by paying set solvent
  unfolding mode_by
  mode_idle z = rw (any_set set (in_set set) small (λ i b. refl), eq-eqb set 0 z)

  module _ (low : paying < 2 ^ 16) (n : set ≢ 0) where
    pub mode_free : bit_and paying (65535 - set) ≢ 0 → FreeTime ≡ mode_by paying set solvent
    unfolding mode_by
    mode_free m = rw (any_set set (in_set set) small (λ i b. refl), ne_eqb set 0 n, asleep paying set small low, ne_eqb (bit_and paying (65535 - set)) 0 m)

    module _ (z : bit_and paying (65535 - set) ≡ 0) where
      pub mode_under : bit_and set solvent ≢ 0 → Underload ≡ mode_by paying set solvent
      unfolding mode_by
      mode_under m =
          rw (
            any_set set (in_set set) small (λ i b. refl),
            ne_eqb set 0 n,
            asleep paying set small low,
            eq-eqb (bit_and paying (65535 - set)) 0 z,
            able set solvent small,
            ne_eqb (bit_and set solvent) 0 m,
          )

      pub mode_limit : bit_and set solvent ≡ 0 → AtLimit ≡ mode_by paying set solvent
      unfolding mode_by
      mode_limit m =
          rw (
            any_set set (in_set set) small (λ i b. refl),
            ne_eqb set 0 n,
            asleep paying set small low,
            eq-eqb (bit_and paying (65535 - set)) 0 z,
            able set solvent small,
            eq-eqb (bit_and set solvent) 0 m,
          )

-- ---- the order

-- what the order does not ask for is an order too, in which all are equal
pub asked_ordered : (on : Bool) (R : ℕ → ℕ → Comparison) → Ordered R → Ordered (λ p q. asked on (R p q))
unfolding asked
asked_ordered true R o = o
asked_ordered false R o = record { mirrored = λ p q. refl; transitive = λ p q r m n. m }

pub level_ordered : (o : Order) (solvent : ℕ) (tops : List ℕ) → Ordered (level_in o solvent tops)
level_ordered o solvent tops =
    by_both (λ p q. asked o.budget (on_set solvent p q)) (λ p q. asked o.priority (on_priority tops p q))
    (asked_ordered o.budget (on_set solvent) (set_ordered solvent)) (asked_ordered o.priority (on_priority tops) (tops_ordered tops))

-- the best on has budget, and of these the best on top priority
pub levelled : (o : Order) (solvent : ℕ) (tops : List ℕ) (w v r : ℕ) → Narrowed (λ p q. asked o.budget (on_set solvent p q)) w v
    → Narrowed (λ p q. asked o.priority (on_priority tops p q)) v r → Narrowed (level_in o solvent tops) w r
levelled o solvent tops w v r a b =
    narrowed_twice (λ p q. asked o.budget (on_set solvent p q)) (λ p q. asked o.priority (on_priority tops p q))
    (asked_ordered o.budget (on_set solvent) (set_ordered solvent)) w v r a b

-- top priorities are kept as one more than they are
one_more : (a b : ℕ) → compare_numbers (a + 1) (b + 1) ≡ compare_numbers a b
unfolding compare_numbers
one_more a b = rw (shifted b a, shifted a b)
  where
    shifted : (x y : ℕ) → ltb (x + 1) (y + 1) ≡ ltb x y
    shifted x y = go (dec_lt x y)
      where
        go : Dec (x < y) → ltb (x + 1) (y + 1) ≡ ltb x y
        go (yes h) = lt-ltb (x + 1) (y + 1) (omega arith) ∙ sym (lt-ltb x y h)
        go (no h) = le-ltb (x + 1) (y + 1) (omega arith) ∙ sym (le-ltb x y (omega arith))

all_three : (a b c : Comparison) → ((a then b) then c) ≡ (a then b then c)
unfolding ◌then◌
all_three Better b c = refl
all_three Worse b c = refl
all_three Equal b c = refl

two : (a b : Comparison) → ((a then Equal) then b) ≡ (a then b)
unfolding ◌then◌
two Better b = refl
two Worse b = refl
two Equal b = refl

-- the mode table's column of orders, over what p is against q in the state
compared_is : (s : State) (p q : ℕ) (m : Mode)
    → compared_by (order_by m s.settings.policy) (by_budget s p q) (by_priority s p q) (by_fraction s p q) ≡ compare s (mode_of m) p q
unfolding asked compare ratio_policy ◌then◌
compared_is s p q Idle = all_three (by_budget s p q) (by_priority s p q) (by_fraction s p q)
compared_is s p q FreeTime = go (eqb s.settings.policy 1)
  where
    go : (z : Bool) → compared_by (record { budget = true; priority = not z }) (by_budget s p q) (by_priority s p q) (by_fraction s p q)
        ≡ cond z (by_budget s p q then by_fraction s p q) (by_budget s p q then by_priority s p q then by_fraction s p q)
    go true = two (by_budget s p q) (by_fraction s p q)
    go false = all_three (by_budget s p q) (by_priority s p q) (by_fraction s p q)
compared_is s p q Underload = all_three (by_budget s p q) (by_priority s p q) (by_fraction s p q)
compared_is s p q AtLimit = refl

-- ---- the winner

module _ (s : State) (totals budgets tops firsts : List ℕ) (policy paying set solvent : ℕ) (k : Kept s totals budgets tops firsts policy paying set solvent) where
  abbrev count : ℕ
  count = s.settings.count

  few : (p : ℕ) → p < count → p < 16
  few p b = omega (arith, b, k.priced.few)

  -- a test of the sets over 16 is the test of the state over its partitions
  over : (f g : ℕ → Bool) → ((p : ℕ) → p < 16 → f p ≡ true → p < count) → ((p : ℕ) → p < count → f p ≡ g p) → any f (below 16) ≡ any g (below count)
  over f g inside h =
      same (any f (below 16)) (any g (below count))
      (λ e. let (i, b, t) = any_below f 16 e in let c = inside i b t in below_any g count i c (sym (h i c) ∙ t))
      (λ e. let (i, b, t) = any_below g count e in below_any f 16 i (few i b) (h i b ∙ t))

  mode_is : mode_of (mode_by paying set solvent) ≡ mode s
  unfolding mode_by mode
  mode_is =
      rw (
        over (in_set set) (competing s) (λ p b e. k.led.inside p (sym (k.led.competes p b) ∙ e)) (λ p b. k.led.competes p (few p b)),
        over (λ p. in_set paying p && not (in_set set p)) (λ p. not (eqb (budget s.settings p) 0) && not (competing s p)) pays asleep_is,
        over (λ p. in_set set p && in_set solvent p) (λ p. competing s p && has_budget s p) runs able_is,
      )
      (go (any (competing s) (below count)) (any (λ p. not (eqb (budget s.settings p) 0) && not (competing s p)) (below count))
      (any (λ p. competing s p && has_budget s p) (below count)))
    where
      pays : (p : ℕ) → p < 16 → (in_set paying p && not (in_set set p)) ≡ true → p < count
      pays p b e =
          let (x, y) = both (in_set paying p) (not (in_set set p)) e in
          let (u, v) = both (ltb p count) (not (eqb (budget s.settings p) 0)) (sym (k.priced.pays p b) ∙ x) in
          ltb-true p count u

      asleep_is : (p : ℕ) → p < count → (in_set paying p && not (in_set set p)) ≡ (not (eqb (budget s.settings p) 0) && not (competing s p))
      asleep_is p b = rw (k.led.competes p (few p b), k.priced.pays p (few p b), lt-ltb p count b)

      runs : (p : ℕ) → p < 16 → (in_set set p && in_set solvent p) ≡ true → p < count
      runs p b e = let (x, y) = both (in_set set p) (in_set solvent p) e in k.led.inside p (sym (k.led.competes p b) ∙ x)

      able_is : (p : ℕ) → p < count → (in_set set p && in_set solvent p) ≡ (competing s p && has_budget s p)
      able_is p b = rw (k.led.competes p (few p b), k.weighed p b)

      go : (a b d : Bool)
          → mode_of (cond (not a) Idle (cond b FreeTime (cond d Underload AtLimit)))
          ≡ cond (not a) idle_mode (cond b free_time (cond d underload at_limit))
      go false b d = refl
      go true true d = refl
      go true false true = refl
      go true false false = refl

  top_is : (p : ℕ) → p < 16 → competing s p ≡ true → get_or tops p 0 ≡ top_priority s p + 1
  unfolding level
  top_is p b e = k.led.top p b ∙ ap (λ (z : Bool). cond z (top_priority s p + 1) 0) e

  priority_is : (p q : ℕ) → p < 16 → q < 16 → competing s p ≡ true → competing s q ≡ true → on_priority tops p q ≡ by_priority s p q
  unfolding by_priority
  priority_is p q b c e f = rw (top_is p b e, top_is q c f) (one_more (top_priority s p) (top_priority s q))

  -- what one that competes is against another, over kept data, is what the paper says
  order_is : (m : Mode) → mode_of m ≡ mode s → (p q : ℕ) → p < 16 → q < 16 → competing s p ≡ true → competing s q ≡ true
      → compared_in (order_by m policy) solvent tops totals budgets p q ≡ compare s (mode s) p q
  unfolding by_budget by_fraction
  order_is m e p q b c f g =
      let x = k.led.inside p f in
      let y = k.led.inside q g in
      let budget_is : on_set solvent p q ≡ by_budget s p q = rw (k.weighed p x, k.weighed q y) in
      let fraction_is : on_fraction totals budgets p q ≡ by_fraction s p q = rw (k.spent p x, k.spent q y, k.priced.amount p x, k.priced.amount q y) in
      (λ i. compared_by (order_by m (k.ruled i)) (budget_is i) (priority_is p q b c f g i) (fraction_is i))
      ∙ compared_is s p q m ∙ ap (λ (n : ℕ). compare s n p q) e

  -- of those tied for best, the favoured one, or else the lowest, is the winner
  module _ (m : Mode) (made : m ≡ mode_by paying set solvent) (f : Option ℕ) (favoured level w : ℕ) (is : Favoured f favoured)
      (best : Narrowed (level_in (order_by m policy) solvent tops) set level) (wins : Wins totals budgets level favoured w) where
    abbrev tied : ℕ
    tied = wins.tied

    n : Narrowed (compared_in (order_by m policy) solvent tops totals budgets) set tied
    n = narrowed_twice (level_in (order_by m policy) solvent tops) (on_fraction totals budgets) (level_ordered (order_by m policy) solvent tops)
        set level tied best wins.best

    c : Narrowed (on_set favoured) tied wins.kept
    c = wins.preferred

    l : Lowest 16 wins.kept w
    l = wins.lowest

    e : mode_of m ≡ mode s
    e = ap mode_of made ∙ mode_is

    among : in_set tied w ≡ true
    among = c.inside w l.inside l.here

    competes : competing s w ≡ true
    competes = sym (k.led.competes w l.inside) ∙ n.inside w l.inside among

    order : Ordered (compare s (mode s))
    order = ordered s (mode s)

    -- one that competes and is not among them is worse
    worse : (q : ℕ) → q < 16 → competing s q ≡ true → in_set tied q ≡ false → compare s (mode s) w q ≡ Better
    worse q b d g = sym (order_is m e w q l.inside b competes d) ∙ n.beaten w q l.inside b among (k.led.competes q b ∙ d) g

    -- the favoured one goes before w, unless that is the favoured one; and w before another only if it is
    favoured_first : (q : ℕ) → q < 16 → favours f q ≡ true → favours f w ≡ false → on_set favoured q w ≡ Better
    unfolding compare_flags
    favoured_first q b x y = rw (is q b ∙ x, is w l.inside ∙ y)

    not_favoured : (q : ℕ) → favours f w ≡ false → on_set favoured w q ≢ Better
    unfolding compare_flags
    not_favoured q y = rw (is w l.inside ∙ y) (go (in_set favoured q))
      where
        go : (z : Bool) → compare_flags false z ≢ Better
        go true x = apart (sym x)
        go false x = not_better (sym x)

    won : Won s f count w
    won = record {
      inside = k.led.inside w competes;
      competes = competes;
      unbeaten = λ q b d g.
          n.unbeaten w q l.inside (few q b) among (k.led.competes q (few q b) ∙ d) (order_is m e q w (few q b) l.inside d competes ∙ g);
      favoured = λ q g b d t. it q g (few q b) d t (in_set tied q) refl (favours f w) refl;
      lowest = λ g q b d. let i : q < 16 = omega (arith, b, l.inside) in first g q b i d (in_set tied q) refl (favours f w) refl;
    }
      where
        it : (q : ℕ) → f ≡ some q → q < 16 → competing s q ≡ true → compare s (mode s) q w ≡ Equal → (z : Bool) → in_set tied q ≡ z
            → (y : Bool) → favours f w ≡ y → w ≡ q
        it q g b d t false i y j = not_worse (sym (reversed_better (compare s (mode s)) order w q (worse q b d i)) ∙ t)
        it q g b d t true i true j = same_partition (sym (favours_it f w j) ∙ g)
        it q g b d t true i false j = absurd (c.unbeaten w q l.inside b l.here i (favoured_first q b (it_is_favoured f q g) j))

        first : f ≢ some w → (q : ℕ) → q < w → q < 16 → competing s q ≡ true → (z : Bool) → in_set tied q ≡ z → (y : Bool) → favours f w ≡ y
            → compare s (mode s) w q ≡ Better
        first g q b i d false t y j = worse q i d t
        first g q b i d true t true j = absurd (g (favours_it f w j))
        first g q b i d true t false j = absurd (not_favoured q j (c.beaten w q l.inside i l.here t (l.lower q b)))

    pub decided : decided_of (record { mode = m; partition = w; thread = get_or firsts w 0 }) ≡ decide s f
    unfolding decide decide_for
    decided = rw (winner_is s f w won, e, k.led.thread w l.inside)

  -- where none competes
  pub decided_idle : (f : Option ℕ) (m : Mode) → m ≡ mode_by paying set solvent → set ≡ 0 → set < 2 ^ 16
      → decided_of (record { mode = m; partition = 0; thread = 255 }) ≡ decide s f
  unfolding decide decide_for
  decided_idle f m e z small = rw (nobody (winner s f) refl, e ∙ sym (mode_idle paying set solvent small z))
    where
      nobody : (o : Option ℕ) → winner s f ≡ o → winner s f ≡ none
      nobody none d = d
      nobody (some w) d =
          let h = winner_won s f w d in
          clash h.competes (sym (k.led.competes w (few w h.inside)) ∙ ap (λ (j : ℕ). in_set j w) z ∙ bits.none w)
