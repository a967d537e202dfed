use Rattle.std.proofs.Common.{◌≡◌, ℕ, ◌+◌, get_or, refl, rules}
use Rattle.units.specs.declared.Percent.{Percent}
use Rattle.sheet.proofs.Calls.{made_table}
use Rattle.sheet.proofs.shares_from.Goals as goal

pub returns : goal.returns
returns c =
    let share : ℕ → Percent = λ p. record { 0 = get_or c.args.values (c.args.head + p) 0 } in
    made_table _ (λ s. (s.0.now ≡ c.args.values) × (s.1.now ≡ c.args.head)) share (λ s t k y h call. search rules) 16 _ c.from_fn.result (refl, refl) c.from_fn.ensures.items
