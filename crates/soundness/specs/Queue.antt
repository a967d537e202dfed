-- The ready queue q, of which the first n entries are used, beside the flags r of the ready threads: when it is sound.
use Rattle.std.specs.Prelude.{◌≡◌, ℕ, ◌<◌, Bool, true, ◌&&◌, List, take, drop, nat_eq, nat_le, nat_lt, slice_index}
use Rattle.lists.specs.Lists.{below, all, member, distinct}
use Rattle.model.specs.Arrays.{flag}

-- "the line without repeats and holding exactly the ready threads .. unused places of the line .. all zero"
unfoldable pub holds_ready : List ℕ → List ℕ → ℕ → Bool
holds_ready r q n =
    nat_le n 64
    && distinct (take n q)
    && all (λ t. nat_lt t 64) (take n q)
    && all (λ t. nat_eq (slice_index r t) (flag (member t (take n q)))) (below 64)
    && all (nat_eq 0) (drop n q)

-- a flag for each thread: whether it is one of ts
abbrev pub Seen : List ℕ → List ℕ → Type 0
Seen seen ts = (t : ℕ) → t < 64 → slice_index seen t ≡ flag (member t ts)

-- what one pass over the entries ts finds: whether each stands there once and is a thread's number, and then which threads they are
pub record SeenOnce (ts : List ℕ) (fine : Bool) (seen : List ℕ) : Type 0 where
  pub once : fine ≡ (distinct ts && all (λ t. nat_lt t 64) ts)
  pub marks : fine ≡ true → Seen seen ts
