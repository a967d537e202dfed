-- Time slices (request (i) of document 02): a thread's policy, and its task block at a tick that finds it running.
use Rattle.std.specs.Prelude.{ℕ, ◌-◌, Bool, cond, ◌&&◌, eqb}
use Rattle.model.specs.State.{Thread}

-- "Byte 9 of a create event becomes the policy: 0 first-in-first-out, 1 round robin"
abbrev pub round_robin : ℕ
round_robin = 1

-- "A round-robin thread gets a slice of 4 ticks"
abbrev pub full_slice : ℕ
full_slice = 4

-- the whole slice of a thread of this policy; "any other 0"
unfoldable pub slice_for : ℕ → ℕ
slice_for policy = cond (eqb policy round_robin) full_slice 0

abbrev pub with_slice : Thread → ℕ → Thread
with_slice r n =
    record { exists = r.exists; ready = r.ready; partition = r.partition; priority = r.priority; mask = r.mask; policy = r.policy; slice = n }

-- a tick that finds its thread running brings the slice to zero
unfoldable pub spent : ℕ → ℕ → Bool
spent policy slice = eqb policy round_robin && eqb (slice - 1) 0

-- the slice after that tick: it "is counted down .., if it is round robin; at zero the slice is refilled"
unfoldable pub slice_after : ℕ → ℕ → ℕ
slice_after policy slice = cond (spent policy slice) full_slice (cond (eqb policy round_robin) (slice - 1) slice)

-- "the running thread's task block is counted down and its state changed"
abbrev pub counted : Thread → Thread
counted r = with_slice r (slice_after r.policy r.slice)

-- the tick is the last of its slice
abbrev pub ends : Thread → Bool
ends r = spent r.policy r.slice
