use Rattle.std.proofs.Common.{rules, ◌≡◌, ℕ, get_or, refl}
use Rattle.units.specs.declared.Percent.{Percent}
use Rattle.model.specs.Lent.{shares_from}
use Rattle.sheet.proofs.Calls.{made_table}
use Rattle.doors.proofs.words.settings_in.Goals as goal

pub returns : goal.returns
returns c =
    let share : ℕ → Percent = λ p. record { 0 = get_or c.args.shares.now p 0 } in
    let list : c.from_fn.result ≡ shares_from c.args.shares.now = made_table _ (λ s. s.0.now ≡ c.args.shares.now) share (λ s t k y h call. search rules) 16 _ c.from_fn.result refl c.from_fn.ensures.items in
    cc
