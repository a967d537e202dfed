-- The shares as they are lent and as the sheet has them: the same numbers, place by place.
use mathlib.Core.Path.{◌≡◌, sym, ap, ◌∙◌}
use Prim.Native.Nat.{ℕ, ◌<◌}
use mathlib.Core.List.{List}
use lib.ListN.{length, get_or}
use lib.Seq.{ext_get_or}
use native.Mathlib.Omega.{arith}
use Rattle.lists.proofs.Tables.{table_length, table_at}
use Rattle.units.specs.declared.Percent.{Percent}
use Rattle.model.specs.Lent.{shares_from}

module _ (words : List ℕ) (shares : List Percent) (n : length shares ≡ 16) where
  pub percents : ((i : ℕ) → i < 16 → get_or shares i (record { 0 = 0 }) ≡ record { 0 = get_or words i 0 }) → shares ≡ shares_from words
  percents at =
      ext_get_or (record { 0 = 0 }) shares (shares_from words) (n ∙ sym (table_length _ 16)) (λ i b.
      let low : i < 16 = omega (arith, n) in at i low ∙ sym (table_at (λ p. record { 0 = get_or words p 0 }) 16 i (record { 0 = 0 }) low))

  pub amounts : ((i : ℕ) → i < 16 → get_or words i 0 ≡ (get_or shares i (record { 0 = 0 })).0) → shares_from words ≡ shares
  amounts at = sym (percents (λ i low. ap (λ (w : ℕ). record { 0 = w }) (sym (at i low))))
