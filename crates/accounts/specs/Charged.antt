-- What the charge needs of the arrays, and what it does to them.
use Rattle.std.specs.Prelude.{◌≢◌, ◌≡◌, ℕ, ◌+◌, ◌*◌, ◌≤◌, ◌<◌, ◌^◌, List, length, get_or}
use Rattle.units.specs.Units.{elapsed_of}
use Rattle.sheet.specs.Settings.{W}
use Rattle.sheet.specs.declared.Settings.{Settings}
use Rattle.model.specs.Arrays.{Columns, with_partition_column, state_of}
use Rattle.model.specs.Step.{saved, charge}
use Rattle.model.specs.declared.Clock.{Clock}

-- the partition of the running thread
abbrev pub payer_of : Clock → List ℕ → ℕ
payer_of k p = get_or p k.running 0

-- what is known where a partition pays e cycles
pub record Pays (c : Settings) (u : List ℕ) (k : Clock) (p h : List ℕ) (e : ℕ) : Type 0 where
  pub running : k.running < 64
  pub sixteen : payer_of k p < 16
  pub total : get_or u (payer_of k p) 0 + e < 2 ^ 32
  pub slot : k.slot.0 < W c
  pub number : get_or h (payer_of k p * W c + k.slot.0) 0 + e < 2 ^ 32
  pub row : payer_of k p * W c + W c ≤ length h

pub record Payable (c : Settings) (u : List ℕ) (k : Clock) (p h : List ℕ) (stamp : ℕ) : Type 0 where
  pub since : k.since.0 + elapsed_of stamp k.stamp < 2 ^ 32
  pub pays : k.running ≢ 255 → Pays c u k p h (elapsed_of stamp k.stamp)

-- whatever the other arrays are, the state after is the model's charge of the state before
abbrev pub Charged : Settings → List ℕ → Clock → List ℕ → List ℕ → List ℕ → Clock → List ℕ → ℕ → Type 0
Charged c u k p h u' k' h' stamp =
    (ts : Columns) (q : List ℕ)
    → saved (state_of c u' k' (with_partition_column ts p) q) h' ≡ charge (saved (state_of c u k (with_partition_column ts p) q) h) stamp
