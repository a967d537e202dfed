use mathlib.Core.Path.{subst}
use Prim.Native.Nat.{ℕ}
use Rattle.sheet.specs.Settings.{need}
use Rattle.accounts.specs.Solvency.{WeighedIn}
use Rattle.decision.proofs.kept.Cache.begin.Goals as goal

pub returns : goal.returns
unfolding need
returns c =
    let a = c.args in
    let x = c.build.new.self in
    let weighed = c.weigh_all-self in
    record {
      priced = rw (c.build.ensures.rest.budgets, c.build.ensures.rest.paying) c.price-self.ensures;
      led = c.build.ensures.kept;
      weighed = subst (λ (n : ℕ). WeighedIn a.used.now x.budgets n a.settings.count weighed.result) c.need-need.ensures weighed.ensures;
    }
