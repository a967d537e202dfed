use borrow.Author.Rules.{rules}
use mathlib.Core.Path.{◌≡◌, refl}
use mathlib.Core.Bool.{cond}
use mathlib.Core.List.{List, ◌∷◌, ◌++◌, map}
use Prim.Native.Nat.{ℕ, zero, suc, ◌≤◌, ◌<◌, ◌+◌, ◌-◌}
use native.Mathlib.Omega.{arith}
use borrow.Author.Tests.{le-leb}
use lib.Dec.{eqb}
use lib.ListN.{set, replicate}
use Rattle.lists.specs.Lists.{below}
use Rattle.lists.proofs.Tables.{table_more}
use Rattle.units.specs.declared.Percent.{Percent}
use Rattle.sheet.specs.Limits.{percent_at}
use Rattle.sheet.specs.Sheet.{value_of, values_for}
use Rattle.sheet.proofs.values_from.Goals as goal
use Rattle.sheet.proofs.values_from.Invariants.{valueBy}

-- what is stored first: the fifth is 0, unless the edition is stated
abbrev stored : (w t p m e : ℕ) → List ℕ
stored w t p m e = w ∷ t ∷ p ∷ m ∷ e ∷ replicate 16 0

starts : (st : ℕ) → st ≤ 1 → (w t p m ed : ℕ) (shares : List Percent)
    → stored w t p m (cond (eqb st 1) ed 0)
    ≡ map (valueBy (4 + st) (stored w t p m (cond (eqb st 1) ed 0)) shares) (below (4 + st + 0)) ++ replicate (21 - (4 + st + 0)) 0
unfolding below
starts zero h w t p m ed shares = refl
starts (suc zero) h w t p m ed shares = refl
starts (suc (suc k)) h w t p m ed shares = let z : ⊥ = omega arith in absurd z

-- one share more
share-more : (head : ℕ) (first values : List ℕ) (shares : List Percent) (p : ℕ) → head + p < 21
    → values ≡ map (valueBy head first shares) (below (head + p)) ++ replicate (21 - (head + p)) 0
    → set values (head + p) (percent_at shares p) ≡ map (valueBy head first shares) (below (head + (p + 1))) ++ replicate (21 - (head + (p + 1))) 0
share-more head first values shares p room e =
    let next : head + (p + 1) ≡ head + p + 1 = omega arith in
    let at : head + p - head ≡ p = omega arith in
    let here : valueBy head first shares (head + p) ≡ percent_at shares p = rw (le-leb head (head + p) (omega arith), at) in
    rw (e, next, ← here) (table_more (valueBy head first shares) 0 21 (head + p) room)

pub loop-p-init : goal.loop-p-init
loop-p-init c =
    let s = c.args.settings in
    rw (c.stated_edition.ensures, c.head-head.ensures) (starts s.stated c.requires s.window.0 s.tick.0 s.policy s.core s.edition s.shares)

pub loop-p-preserved : goal.loop-p-preserved
loop-p-preserved c =
    let turn = c.loop-p in
    let s = c.args.settings in
    let room : 4 + s.stated + turn.p < 21 = omega (arith, c.requires) in
    let first = stored s.window.0 s.tick.0 s.policy s.core c.stated_edition.result in
    rw c.head-head.ensures
    (share-more (4 + s.stated) first turn.values s.shares turn.p room (rw c.head-head.ensures at turn.invariant))

pub returns : goal.returns
unfolding values_for value_of
returns c = search rules
