use Rattle.std.proofs.Common.{rules, ◌≡◌, ◌<◌, ℕ, get_or, arith, refl}
use mathlib.Core.Path.{ap, ◌∙◌}
use mathlib.Core.List.{List}
use Rattle.lists.proofs.Tables.{table_at}
use Rattle.model.proofs.Flags.{flag_back}
use Rattle.sheet.proofs.Calls.{made_table}
use Rattle.doors.proofs.Shares.{amounts}
use Rattle.doors.proofs.words.keep_settings.Goals as goal

pub returns : goal.returns
returns c =
    let s = c.args.s in
    let byte : s.stated < 256 = omega arith in
    let word : ℕ → ℕ = λ p. (get_or s.shares p (record { 0 = 0 })).0 in
    let made = made_table _ (λ f. f.0.now ≡ s.shares) word (λ f g k y h call. search rules) 16 _ c.from_fn.result refl c.from_fn.ensures.items in
    let list = amounts c.from_fn.result s.shares (search rules) (λ i low. ap (λ (l : List ℕ). get_or l i 0) made ∙ table_at word 16 i 0 low) in
    λ i. record {
      window = s.window;
      tick = s.tick;
      policy = s.policy;
      core = s.core;
      edition = s.edition;
      stated = flag_back s.stated byte i;
      count = s.count;
      shares = list i;
    }
