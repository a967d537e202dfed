-- The bound of demand 3 is reached in both editions, by the same events. W 5, C 100, three partitions with a thread each, of which partition 0 waits
-- throughout. It runs alone up to the opening tick and has nothing of its budget left then. In the stretch each of the others is charged all that it
-- can be: its budget, and the loss more.
use Prim.Native.Nat.{ℕ}
use mathlib.Core.Path.{◌≡◌, refl, sym, ap, ◌∙◌}
use mathlib.Core.Bool.{Bool, true}
use mathlib.Core.List.{List, [], ◌∷◌, ◌++◌}
use lib.ListN.{length, take, drop, get_or}
use lib.IntN.{pos}
use native.Mathlib.Omega.{arith}
use Rattle.lists.specs.Lists.{below, all}
use Rattle.lists.proofs.All.{all_below}
use Rattle.sheet.specs.declared.Settings.{Settings}
use Rattle.model.specs.Typed.{Lengths}
use Rattle.model.specs.Event.{refused_state}
use Rattle.model.specs.Step.{answer}
use Rattle.model.specs.Run.{Entry, run, fresh_state, fresh}
use Rattle.guarantee.specs.Demand3.{last_of, charge_of, charged_to, full_ticks, Stretch, told_by, known_after, waits, loss, bound, Tight, BoundReached}
use Rattle.guarantee.proofs.Computed.{kit, tick, create, ready, computed}

abbrev events : List (List ℕ)
events =
    create 0 0 0 10 ∷ create 0 1 1 30 ∷ create 0 2 2 20 ∷ ready 0 0 ∷ tick 200 ∷ tick 400 ∷ tick 600 ∷ tick 800 ∷ ready 2 1000 ∷ tick 1000
    ∷ tick 1100 ∷ tick 1200 ∷ tick 1300 ∷ ready 1 1300 ∷ tick 1400 ∷ tick 1500 ∷ tick 1600 ∷ tick 1700 ∷ tick 1800 ∷ tick 1900 ∷ tick 2000 ∷ []

module _ (c : Settings) where
  abbrev log : List Entry
  log = run (fresh c []) events

  abbrev at : ℕ → Entry
  at i = get_or log i (record { event = []; answer = answer (fresh c []) [] })

  -- between the opening tick, at place 9, and the closing one, at place 20
  abbrev within : List Entry
  within = take 10 (drop 10 log)

  -- partition 0 waits after n of them
  abbrev waiting : ℕ → Bool
  waiting n = waits (fresh c []).state (take 9 log ++ (at 9 ∷ take n within)) 0

  abbrev charged : ℕ
  charged = charged_to 0 (last_of (at 9)) (within ++ (at 20 ∷ []))

  -- what is computed, for the two sheets below
  record Met : Type 0 where
    lengths : Lengths (fresh_state c)
    taken : refused_state (fresh_state c) (fresh c []).history ≡ 0
    three : c.count ≡ 3
    parts : log ≡ take 9 log ++ (at 9 ∷ (within ++ (at 20 ∷ [])))
    stretch : Stretch c (at 9) within (at 20)
    ten : length within ≡ 10
    always : all waiting (below 11) ≡ true
    in_fact : charged ≡ 200
    bound_is : bound c 0 ≡ pos 200

  tight : Met → Tight c.edition
  tight m = record {
    start = fresh c [];
    lengths = m.lengths;
    taken = m.taken;
    by_edition = refl;
    others = omega (arith, m.three);
    events = events;
    before = take 9 log;
    opening = at 9;
    within = within;
    closing = at 20;
    later = [];
    parts = m.parts;
    stretch = m.stretch;
    partition = 0;
    inside = omega (arith, m.three);
    waiting = λ n h. all_below waiting 11 m.always n (omega (arith, m.ten));
    some = omega (arith, m.in_fact);
    exact = ap pos m.in_fact ∙ sym m.bound_is;
  }

-- a budget of 350, of which 75 may be lost to each of two others
abbrev sheet_1 : Settings
sheet_1 = kit 1 0 5 100 (70 ∷ 25 ∷ 5 ∷ [])

-- a budget of 300, of which 50 may be lost to each of two others
abbrev sheet_2 : Settings
sheet_2 = kit 2 1 5 100 (60 ∷ 30 ∷ 10 ∷ [])

met_1 : Met sheet_1
unfolding computed full_ticks charge_of charged_to waits known_after told_by loss bound
met_1 = record {
  lengths = record { shares = refl; used = refl; threads = refl; queue = refl };
  taken = refl;
  three = refl;
  parts = refl;
  stretch = record { opens = refl; closes = refl; ticks = refl; no_resume = refl; full = refl };
  ten = refl;
  always = refl;
  in_fact = refl;
  bound_is = refl;
}

met_2 : Met sheet_2
unfolding computed full_ticks charge_of charged_to waits known_after told_by loss bound
met_2 = record {
  lengths = record { shares = refl; used = refl; threads = refl; queue = refl };
  taken = refl;
  three = refl;
  parts = refl;
  stretch = record { opens = refl; closes = refl; ticks = refl; no_resume = refl; full = refl };
  ten = refl;
  always = refl;
  in_fact = refl;
  bound_is = refl;
}

pub bound_reached : BoundReached
bound_reached = (tight sheet_1 met_1, tight sheet_2 met_2)
