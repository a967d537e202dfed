-- Which states are sound beside a history ("Sound means" of document 01): the doors refuse every other with 8.
use Rattle.std.specs.Prelude.{ℕ, ◌*◌, Bool, not, cond, ◌&&◌, ◌||◌, List, get_or, drop, leb, ltb, eqb}
use Rattle.lists.specs.Lists.{below, sum, total, all, member, distinct}
use Rattle.sheet.specs.Settings.{W, C, share, within_limits}
use Rattle.model.specs.State.{thread, queue_of, allows, idle, used, place, row, Thread, State}
use Rattle.model.specs.Slices.{round_robin, full_slice}
use Rattle.model.specs.Policy.{partitions}

-- two flags agree
abbrev pub same_bool : Bool → Bool → Bool
same_bool a b = cond a b (not b)

-- what all partitions were charged in slot k
unfoldable pub slot_sum : State → List ℕ → ℕ → ℕ
slot_sum s h k = total s.settings.count (λ p. get_or h (place s p k) 0)

-- "slot below W; time since tick at most 2 × C; each total equal to its row's sum; each slot's sum over partitions at most 2 × C, and
-- the current slot's at most the time since tick"
unfoldable pub sound_history : State → List ℕ → Bool
sound_history s h =
    ltb s.slot.0 (W s.settings)
    && leb s.since.0 (2 * C s.settings)
    && all (λ p. eqb (used s p) (sum (row s h p))) (partitions s)
    && all (λ k. leb (slot_sum s h k) (2 * C s.settings)) (below (W s.settings))
    && leb (slot_sum s h s.slot.0) s.since.0

-- "In a sound state a round-robin slice is 1 to 4, any other 0"; no policy is above 1, as no flag is
unfoldable pub sound_slice : Thread → Bool
sound_slice r =
    leb r.policy round_robin
    && cond (eqb r.policy round_robin) (leb 1 r.slice && leb r.slice full_slice) (eqb r.slice 0)

-- "existing threads with a valid partition and a mask other than 0", "records of absent threads .. all zero"
unfoldable pub sound_thread : ℕ → Thread → Bool
sound_thread count r =
    cond r.exists
    (ltb r.partition count && not (eqb r.mask 0) && sound_slice r)
    (not r.ready && eqb r.partition 0 && eqb r.priority 0 && eqb r.mask 0 && eqb r.policy 0 && eqb r.slice 0)

-- "the line without repeats and holding exactly the ready threads, all existing; unused places of the line .. all zero"
unfoldable pub sound_queue : State → Bool
sound_queue s =
    leb s.queued 64
    && distinct (queue_of s)
    && all (λ t. ltb t 64) (queue_of s)
    && all (λ t. same_bool (thread s t).ready (member t (queue_of s))) (below 64)
    && all (λ t. not (thread s t).ready || (thread s t).exists) (below 64)
    && all (eqb 0) (drop s.queued s.queue)

-- "shares and totals past the last partition all zero"
unfoldable pub sound_rest : State → Bool
sound_rest s = all (λ p. ltb p s.settings.count || (eqb (share s.settings p) 0 && eqb (used s p) 0)) (below 16)

-- "the running one idle, or in the line and allowed"
unfoldable pub sound_running : State → Bool
sound_running s =
    eqb s.running idle
    || (member s.running (queue_of s) && allows (thread s s.running).mask s.settings.core)

-- "settings within the sheet's limits, 1 to 16 partitions and shares that add up to 100 among them", and all of the above
unfoldable pub sound : State → List ℕ → Bool
sound s h =
    within_limits s.settings && sound_rest s && sound_history s h
    && all (λ t. sound_thread s.settings.count (thread s t)) (below 64)
    && sound_queue s && sound_running s
