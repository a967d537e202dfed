-- Clauses of soundness that are tested here, over the arrays.
use Rattle.std.specs.Prelude.{ℕ, Bool, ◌&&◌, ◌||◌, List, ◌==◌, nat_lt, slice_index}
use Rattle.lists.specs.Lists.{below, all}
use Rattle.sheet.specs.Settings.{share}
use Rattle.sheet.specs.declared.Settings.{Settings}
use Rattle.model.specs.State.{allows, idle}
use Rattle.model.specs.Arrays.{Columns, state_of, flags_fit}
use Rattle.model.specs.Sound.{sound}
use Rattle.model.specs.declared.Clock.{Clock}

-- "shares and totals past the last partition all zero"
unfoldable pub rest_zero : Settings → List ℕ → Bool
rest_zero c u = all (λ p. nat_lt p c.count || (share c p == 0 && slice_index u p == 0)) (below 16)

-- "the running one idle, or in the line and allowed", where the ready flags r say who is in the line
unfoldable pub running_fits : List ℕ → List ℕ → ℕ → ℕ → Bool
running_fits r m t core = t == idle || (nat_lt t 64 && slice_index r t == 1 && allows (slice_index m t) core)

-- every flag is 0 or 1, and the state that all this stands for is sound beside the history h
abbrev pub sound_in : Settings → List ℕ → Clock → Columns → List ℕ → List ℕ → Bool
sound_in c u k ts q h = flags_fit ts && sound (state_of c u k ts q) h
