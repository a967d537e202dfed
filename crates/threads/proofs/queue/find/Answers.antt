use borrow.Author.Rules.{rules}
use borrow.Author.Tests.{tests}
use mathlib.Core.Path.{sym, ◌∙◌}
use native.Mathlib.Omega.{arith}
use Prim.Native.Nat.{ℕ}
use lib.Dec.{eqb}
use Rattle.std.proofs.lemmas.Iterator.{YieldsList-from_slice}
use Rattle.std.proofs.lemmas.Iterator.Search.{position_from_yields_List}
use Rattle.threads.proofs.Searches.{found, not_found}
use Rattle.threads.proofs.queue.find.Goals as goal

pub returns-in_err-at : goal.returns-in_err-at
returns-in_err-at c =
    let a = c.args in
    let p = position_from_yields_List (λ (y : ℕ). eqb y a.t) _ _ _ c.position.ensures.ran (YieldsList-from_slice _ c.iter.ensures.rest) (λ x b q k. search (rules, tests)) in
    rw c.from_residual.ensures (not_found a.entries.now a.t a.n c.skip-from.result (omega arith) c.skip-from.ensures.0 c.skip-from.ensures.1 (sym c.in_err-at.was ∙ p))

pub returns : goal.returns
returns c =
    let a = c.args in
    let p = position_from_yields_List (λ (y : ℕ). eqb y a.t) _ _ _ c.position.ensures.ran (YieldsList-from_slice _ c.iter.ensures.rest) (λ x b q k. search (rules, tests)) in
    found a.entries.now a.t a.n c.skip-from.result (omega arith) c.skip-from.ensures.0 c.skip-from.ensures.1 c.in_ok-at.at (sym c.in_ok-at.was ∙ p)
