-- The model of document 01 as a scheduler of specs/Scheduler, and that it obeys the laws.
use mathlib.Core.Logic.{◌≢◌}
use mathlib.Core.Path.{◌≡◌, refl, sym, ap, subst, ◌∙◌}
use Prim.Native.Nat.{ℕ, suc, ◌+◌, ◌*◌, ◌%◌, ◌≤◌, ◌<◌}
use mathlib.Core.Bool.{Bool, true, false, cond}
use mathlib.Core.Option.{Option, some}
use mathlib.Core.List.{List}
use lib.ListN.{length, set}
use lib.Dec.{eqb}
use borrow.Author.Tests.{eqb-true, eqb-false, ne_eqb, leb-true, le-leb}
use native.Mathlib.Omega.{arith}
use native.Mathlib.Numerals.{add-one}
use native.Mathlib.Nat.{mod-eq_of_lt, mod_self}
use Rattle.lists.specs.Lists.{sum}
use Rattle.lists.proofs.Parts.{row_of, row_length}
use Rattle.sheet.specs.Settings.{W, C, budget, need, Limits}
use Rattle.sheet.specs.declared.Settings.{Settings}
use Rattle.units.proofs.Laws.{has_budget_law}
use Rattle.model.specs.State.{used, State}
use Rattle.model.specs.Event
use Rattle.model.specs.Event.{kind_of, elapsed_at, stamp_of}
use Rattle.model.specs.Policy.{competing, remaining, has_budget, winner, chosen}
use Rattle.model.specs.Step.{Saved, saved, billed, favoured, charge, next, move_slot, sliced, ticked, act, settle, restart, apply}
use Rattle.model.specs.Facts.{Settled, Sound, Accepted}
use Rattle.sheet.proofs.Within.{budgets}
use Rattle.model.proofs.Bounds.{next_inside}
use Rattle.invariants.specs.Charges.{part_of}
use Rattle.guarantee.specs.Scheduler.{Kind, tick, resume, other, Scheduler, History, HistoryMoved, Step, Lawful}
use Rattle.guarantee.specs.Scheduler as abstract
use Rattle.invariants.specs.Charges as booked
use Rattle.invariants.proofs.Charges.{row_charge, row_clear}
use Rattle.invariants.proofs.Winner.{winner_has}
use Rattle.invariants.proofs.Decision.{competes_allowed, none_allowed, billed_winner}
use Rattle.invariants.proofs.Looks.{competing_kept}
use Rattle.invariants.proofs.Kept.{billed_inside}
use Rattle.invariants.proofs.Acts
use Rattle.invariants.proofs.Applied.{after_event, apply_cases, Left, apply_left, after_sound}
use Rattle.invariants.proofs.Answered.{Good, accepts, accepted, good_settle}

abbrev pub kind_for : ℕ → Kind
kind_for k = cond (eqb k Event.tick) tick (cond (eqb k Event.resume) resume other)

abbrev pub model : Scheduler
model = record {
  State = Saved;
  Event = List ℕ;
  accepts = accepts;
  after = after_event;
  kind = λ b. kind_for (kind_of b);
  elapsed = λ v b. elapsed_at v.state b;
  running = λ v. billed v.state;
  competes = λ v p. (p < v.state.settings.count) × (competing v.state p ≡ true);
}

-- the history that demand 3 counts on
abbrev pub rows : ℕ → History Saved
rows w = record { row = λ v q. row_of w v.history q; slot = λ v. v.state.slot.0 }

-- ---- the decision's laws

module _ (x : Saved) (k : Settled x.state x.history) where
  abbrev c' : Settings
  c' = x.state.settings

  abbrev row' : ℕ → List ℕ
  row' p = row_of (W c') x.history p

  -- has budget, by the row instead of the total
  has_of : (p : ℕ) → p < c'.count → sum (row' p) + need c' ≤ budget c' p → has_budget x.state p ≡ true
  unfolding has_budget remaining
  has_of p i f =
      let few : used x.state p + need c' ≤ budget c' p = omega (arith, k.books.totals p i) in
      has_budget_law (budget c' p) (used x.state p) (need c') ∙ le-leb _ _ few

  of_has : (p : ℕ) → p < c'.count → has_budget x.state p ≡ true → sum (row' p) + need c' ≤ budget c' p
  unfolding has_budget remaining
  of_has p i f =
      let few : used x.state p + need c' ≤ budget c' p = leb-true _ _ (sym (has_budget_law (budget c' p) (used x.state p) (need c')) ∙ f) in
      omega (arith, k.books.totals p i)

  -- whichever partition f is favoured
  decided : (f : Option ℕ) → Sound (settle f x).state (settle f x).history
      → abstract.DecidedLaws model (rows (W c')) c'.count (need c') (budget c') (settle f x)
  unfolding settle
  decided f g = record {
    in_range = inside;
    not_idle = λ p q e.
        none_allowed x.state x.history k f (won e) (chosen x.state p) (competes_allowed x.state x.history k p (waits p q));
    budget_first = λ p r q e y. of_has r (inside r e) (winner_has x.state f p r q.0 (waits p q) (has_of p q.0 y) (won e));
  }
    where
      inside : (r : ℕ) → billed (settle f x).state ≡ some r → r < c'.count
      inside r q = billed_inside (settle f x).state (settle f x).history g r q

      won : {o : Option ℕ} → billed (settle f x).state ≡ o → winner x.state f ≡ o
      won e = sym (billed_winner f x k) ∙ e

      waits : (p : ℕ) → model.competes (settle f x) p → competing x.state p ≡ true
      waits p q = sym (competing_kept f x p) ∙ q.1

-- ---- the history's laws

next_is : (s : State) → s.slot.0 < W s.settings → next s ≡ suc s.slot.0 % W s.settings
next_is s h = go (eqb (s.slot.0 + 1) (W s.settings)) refl
  where
    go : (z : Bool) → eqb (s.slot.0 + 1) (W s.settings) ≡ z → cond z 0 (s.slot.0 + 1) ≡ suc s.slot.0 % W s.settings
    go true q = let w : suc s.slot.0 ≡ W s.settings = sym (add-one s.slot.0) ∙ eqb-true _ _ q in rw (w, mod_self)
    go false q =
        let n : s.slot.0 + 1 ≢ W s.settings = eqb-false _ _ q in
        let i : suc s.slot.0 < W s.settings = omega arith in
        rw (mod-eq_of_lt i) (add-one s.slot.0)

module _ (v : Saved) (b : List ℕ) (inside : v.state.slot.0 < W v.state.settings) where
  abbrev s : State
  s = v.state

  abbrev w : ℕ
  w = W s.settings

  abbrev slot : ℕ
  slot = s.slot.0

  abbrev charged : Saved
  charged = charge v (stamp_of b)

  abbrev cost : ℕ → ℕ
  cost q = part_of (billed s) q (elapsed_at s b)

  charge_row : (q : ℕ) → row_of w charged.history q ≡ booked.add_at slot (cost q) (row_of w v.history q)
  unfolding charge
  charge_row q = row_charge s (billed s) (elapsed_at s b) v.history q inside

  tick_slot : (ticked charged).state.slot.0 ≡ suc slot % w
  unfolding charge move_slot sliced
  tick_slot = next_is s inside

  tick_row : (q : ℕ) → q < s.settings.count
      → row_of w (ticked charged).history q ≡ set (row_of w charged.history q) (suc slot % w) 0
  unfolding charge move_slot
  tick_row q i = rw (← next_is s inside) (row_clear w (next s) s.settings.count charged.history q (next_inside s inside) i)

  act_slot : (act charged.state b).slot.0 ≡ slot
  unfolding charge
  act_slot = Acts.act_slot charged.state b

  abbrev MovedTo : ℕ → Saved → Type 0
  MovedTo q x = HistoryMoved w (rows w) (kind_for (kind_of b)) v (settle (favoured s) x) q (cost q)

  pub moved : (q : ℕ) → q < s.settings.count → MovedTo q (apply v b)
  unfolding settle
  moved q i =
      apply_cases v b (MovedTo q) (λ k. resumes (ap kind_for k)) (λ k. ticks (ap kind_for k))
      (λ n m. others (rw (ne_eqb _ _ n, ne_eqb _ _ m)))
    where
      resumes : kind_for (kind_of b) ≡ resume → MovedTo q (restart v (stamp_of b))
      resumes k = record { by_other_slot = λ f. cc; by_other = λ f. cc; by_tick_slot = λ f. cc; by_tick = λ f. cc }

      ticks : kind_for (kind_of b) ≡ tick → MovedTo q (ticked charged)
      ticks k =
          record {
            by_other_slot = λ f. cc;
            by_other = λ f. cc;
            by_tick_slot = λ f. tick_slot;
            by_tick =
                λ f. tick_row q i ∙ rw (charge_row q);
          }

      others : kind_for (kind_of b) ≡ other → MovedTo q (saved (act charged.state b) charged.history)
      others k = record { by_other_slot = λ f. act_slot; by_other = λ f. charge_row q; by_tick_slot = λ f. cc; by_tick = λ f. cc }

-- ---- the instance, with the settings c, which no event changes

module _ (c : Settings) where
  -- what holds by the settings of a state that has c
  good_room : (v : Saved) → Good c v → c.count * W c ≤ length v.history
  good_room v g = subst (λ (d : Settings). d.count * W d ≤ length v.history) g.settings g.fit.room

  pub good_slot : (v : Saved) → Good c v → v.state.slot.0 < W c
  good_slot v g = subst (λ (d : Settings). v.state.slot.0 < W d) g.settings g.fit.sound.settled.books.inside

  pub good_row : (v : Saved) → Good c v → (q : ℕ) → q < c.count → length (row_of (W c) v.history q) ≡ W c
  good_row v g q i = row_length (W c) v.history q c.count i (good_room v g)

  pub good_moved : (v : Saved) (b : List ℕ) → Good c v → (q : ℕ) → q < c.count
      → HistoryMoved (W c) (rows (W c)) (kind_for (kind_of b)) v (after_event v b) q (part_of (billed v.state) q (elapsed_at v.state b))
  good_moved v b g =
      subst (λ (d : Settings). (q : ℕ) → q < d.count → HistoryMoved (W d) (rows (W d)) (kind_for (kind_of b)) v (after_event v b) q (cost v b inside q)) g.settings (moved v b inside)
    where
      inside : v.state.slot.0 < W v.state.settings
      inside = g.fit.sound.settled.books.inside

  step : (v : Saved) (b : List ℕ) → Good c v → accepts v b ≡ true
      → Step model (rows (W c)) (Good c) c.count (W c) (C c) (need c) (budget c) v (abstract.entry model v b)
  step v b g e =
      let a : Accepted v.state v.history b = accepted v b e in
      let x : Saved = apply v b in
      let l : Left v b x = apply_left v b g.lengths a in
      record {
        was_sound = g;
        sound = good_settle c v b g e;
        decided =
            subst (λ (d : Settings). abstract.DecidedLaws model (rows (W d)) d.count (need d) (budget d) (after_event v b))
            (l.settings ∙ g.settings)
            (decided x l.settled (favoured v.state) (after_sound v b g.lengths a));
        moved = good_moved v b g;
      }

  pub lawful : Limits c → Lawful model (rows (W c)) (Good c) c.count (W c) (C c) (need c) (budget c)
  lawful l = record { window = omega (arith, l.window_low); budgets = budgets c l; rows = good_row; slots = good_slot; step = step }
