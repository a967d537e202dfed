-- What the charge, a tick's move and a resume leave of soundness.
use mathlib.Core.Path.{◌≡◌, refl}
use Prim.Native.Nat.{ℕ, ◌+◌, ◌*◌, ◌≤◌, ◌<◌}
use mathlib.Core.Bool.{Bool, true, false, cond}
use mathlib.Core.Option.{Option, none, some}
use mathlib.Core.List.{List}
use lib.ListN.{length, drop}
use lib.Dec.{eqb}
use borrow.Author.Tests.{eqb-false}
use native.Mathlib.Omega.{arith}
use Rattle.sheet.specs.Settings.{W, C}
use Rattle.model.specs.State.{thread, idle, wanted, State}
use Rattle.model.specs.Event.{elapsed_at, stamp_of}
use Rattle.model.specs.Step.{Saved, billed, charge, next, move_slot, restart}
use Rattle.model.specs.Facts.{Settled, Sound}
use Rattle.model.proofs.Bounds.{running_inside, clear_length, next_inside}
use Rattle.invariants.proofs.Charges.{history_length}
use Rattle.invariants.proofs.Zeros.{zero_books, zero_rest}
use Rattle.invariants.proofs.Books.{books_charge, books_tick, rest_charge, rest_tick}

-- the partition that is charged is one of the sheet's
pub billed_inside : (s : State) (h : List ℕ) → Sound s h → (r : ℕ) → billed s ≡ some r → r < s.settings.count
unfolding billed
billed_inside s h g r e = go (eqb s.running idle) refl e
  where
    payer : ℕ
    payer = (thread s s.running).partition

    go : (z : Bool) → eqb s.running idle ≡ z → cond z none (some payer) ≡ some r → r < s.settings.count
    go true q f = let x : ◌≡◌ {A = ℕ} 0 1 = cc in let w : ⊥ = omega arith in absurd w
    go false q f = let w : payer ≡ r = cc in rw (← w) (running_inside s h g (eqb-false s.running idle q)).1

module _ (v : Saved) (b : List ℕ) where
  abbrev s : State
  s = v.state

  abbrev h : List ℕ
  h = v.history

  pub length_charge : length (charge v (stamp_of b)).history ≡ length h
  unfolding charge
  length_charge = history_length s (billed s) (elapsed_at s b) h

  pub length_move : length (move_slot v).history ≡ length h
  unfolding move_slot
  length_move = clear_length (W s.settings) (next s) s.settings.count h

  module _ (sixteen : length s.used ≡ 16) (fits : wanted s ≤ length h) where
    -- 1. the charge
    pub charge_settled : Sound s h → s.since.0 + elapsed_at s b ≤ 2 * C s.settings
        → Settled (charge v (stamp_of b)).state (charge v (stamp_of b)).history
    unfolding charge
    charge_settled g few =
        let k : Settled s h = g.settled in
        let o : Option ℕ = billed s in
        record {
          limits = k.limits;
          rest = rest_charge s h k.limits sixteen fits o (elapsed_at s b) (billed_inside s h g) k.books k.rest;
          books = books_charge s h k.limits sixteen fits o (elapsed_at s b) (billed_inside s h g) k.books few;
          proper = k.proper;
          queue = k.queue;
          stored = k.stored;
        }

    -- 2. a tick
    pub move_settled : Settled s h → Settled (move_slot v).state (move_slot v).history
    unfolding move_slot
    move_settled k = record {
      limits = k.limits;
      rest = rest_tick s h k.limits sixteen fits (next s) (next_inside s k.books.inside) k.rest;
      books = books_tick s h k.limits sixteen fits (next s) (next_inside s k.books.inside) k.books;
      proper = k.proper;
      queue = k.queue;
      stored = k.stored;
    }

  -- a resume
  pub restart_settled : Settled s h → Settled (restart v (stamp_of b)).state (restart v (stamp_of b)).history
  unfolding restart
  restart_settled k = record {
    limits = k.limits;
    rest = zero_rest s.settings k.limits k.rest.no_share;
    books = zero_books s.settings k.limits (drop (wanted s) h);
    proper = k.proper;
    queue = k.queue;
    stored = k.stored;
  }
