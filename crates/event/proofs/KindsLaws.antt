-- Laws of the kind byte: which numbers are no kind, and which bytes a kind uses.
use mathlib.Core.Path.{◌≡◌}
use Prim.Native.Nat.{ℕ, ◌≤◌}
use mathlib.Core.Bool.{false}
use native.Mathlib.Omega.{arith}
use borrow.Author.Tests.{le-leb, lt-leb, ne_eqb}
use Rattle.model.specs.Event.{known, names_thread, names_place, names_priority}
use Rattle.event.specs.declared.kinds.Action.TheVariants.{Unknown}
use Rattle.event.specs.Kinds.{uses_of, FormOf}

pub unknown_form : (k : ℕ) → 8 ≤ k → FormOf k (record { action = Unknown; uses = record { known = false; thread = false; place = false; priority = false } })
unfolding uses_of known names_thread names_place names_priority
unknown_form k lo =
    let a : k ≡ 2 → ⊥ = omega arith in
    let b : k ≡ 5 → ⊥ = omega arith in
    record {
      action = rw (le-leb 1 k (omega arith), lt-leb k 7 (omega arith));
      uses = rw (le-leb 1 k (omega arith), lt-leb k 7 (omega arith), le-leb 2 k (omega arith), lt-leb k 6 (omega arith), ne_eqb k 2 a, ne_eqb k 5 b);
    }
