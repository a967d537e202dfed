-- Event records ("Event records" of document 01): the fields of the twelve bytes, and which events are refused, with which number.
use Rattle.std.specs.Prelude.{ℕ, ◌+◌, ◌*◌, Bool, not, cond, ◌&&◌, ◌||◌, List, length, get_or, leb, ltb, eqb}
use Rattle.units.specs.Units.{elapsed_of}
use Rattle.sheet.specs.Settings.{C, within_limits}
use Rattle.model.specs.State.{thread, wanted, State}
use Rattle.model.specs.Slices.{round_robin}
use Rattle.model.specs.Sound.{sound}

abbrev pub byte : List ℕ → ℕ → ℕ
byte b i = get_or b i 0

abbrev pub kind_of : List ℕ → ℕ
kind_of b = byte b 0

abbrev pub thread_of : List ℕ → ℕ
thread_of b = byte b 1

abbrev pub partition_of : List ℕ → ℕ
partition_of b = byte b 2

abbrev pub priority_of : List ℕ → ℕ
priority_of b = byte b 3

abbrev pub mask_of : List ℕ → ℕ
mask_of b = byte b 8

-- "Byte 9 of a create event becomes the policy"
abbrev pub policy_of : List ℕ → ℕ
policy_of b = byte b 9

-- the timestamp, low byte first
unfoldable pub stamp_of : List ℕ → ℕ
stamp_of b = byte b 4 + 256 * byte b 5 + 65536 * byte b 6 + 16777216 * byte b 7

-- the kinds' numbers
abbrev pub tick : ℕ
tick = 1

abbrev pub create : ℕ
create = 2

abbrev pub ready : ℕ
ready = 3

abbrev pub block : ℕ
block = 4

abbrev pub set_priority : ℕ
set_priority = 5

abbrev pub end : ℕ
end = 6

abbrev pub resume : ℕ
resume = 7

-- the kinds, and which of the bytes 1 (thread), 2, 8 and 9 (partition, mask and policy) and 3 (priority) each uses
unfoldable pub known : ℕ → Bool
known k = leb tick k && leb k resume

unfoldable pub names_thread : ℕ → Bool
names_thread k = leb create k && leb k end

unfoldable pub names_place : ℕ → Bool
names_place k = eqb k create

unfoldable pub names_priority : ℕ → Bool
names_priority k = eqb k create || eqb k set_priority

abbrev pub blank : List ℕ → ℕ → Bool
blank b i = eqb (byte b i) 0

-- otherwise 9: a known kind, and zero in every byte that it does not use
unfoldable pub well_formed : List ℕ → Bool
well_formed b =
    known (kind_of b)
    && (names_thread (kind_of b) || blank b 1)
    && (names_place (kind_of b) || blank b 2)
    && (names_priority (kind_of b) || blank b 3)
    && (names_place (kind_of b) || blank b 8)
    && (names_place (kind_of b) || blank b 9)
    && blank b 10 && blank b 11

-- the cycles since the last accepted event
abbrev pub elapsed_at : State → List ℕ → ℕ
elapsed_at s b = elapsed_of (stamp_of b) s.stamp

-- 10: "An event whose elapsed would bring the time since the last tick above 2 × C"; not asked of a resume
unfoldable pub too_long : State → List ℕ → Bool
too_long s b = not (eqb (kind_of b) resume) && ltb (2 * C s.settings) (s.since.0 + elapsed_at s b)

-- 11: "thread above 63; create of one that exists; kinds 3 to 6 on one that doesn't"
unfoldable pub wrong_thread : State → List ℕ → Bool
wrong_thread s b =
    names_thread (kind_of b)
    && (leb 64 (thread_of b)
    || (cond (eqb (kind_of b) create) (thread s (thread_of b)).exists (not (thread s (thread_of b)).exists)))

-- 12: "partition not below the count; mask 0 at create", "policy above 1"
unfoldable pub wrong_place : State → List ℕ → Bool
wrong_place s b =
    eqb (kind_of b) create && (leb s.settings.count (partition_of b) || eqb (mask_of b) 0 || ltb round_robin (policy_of b))

-- 13: "ready of a ready thread, block of one not ready"
unfoldable pub wrong_readiness : State → List ℕ → Bool
wrong_readiness s b =
    (eqb (kind_of b) ready && (thread s (thread_of b)).ready)
    || (eqb (kind_of b) block && not (thread s (thread_of b)).ready)

-- what a door that is given a state and a history refuses before all else: 8 for settings outside their limits, because the length
-- wanted is worked out from them; 7 for a history too short; 8 for a state not sound
unfoldable pub refused_state : State → List ℕ → ℕ
refused_state s h =
    cond (not (within_limits s.settings)) 8
    (cond (ltb (length h) (wanted s)) 7
    (cond (not (sound s h)) 8 0))

-- the number by which the event door refuses an event on a sound state, or 0 where it accepts
unfoldable pub refused_event : State → List ℕ → ℕ
refused_event s b =
    cond (not (eqb (length b) 12)) 14
    (cond (not (well_formed b)) 9
    (cond (too_long s b) 10
    (cond (wrong_thread s b) 11
    (cond (wrong_place s b) 12
    (cond (wrong_readiness s b) 13
    0)))))

-- the number by which the event door refuses, or 0 where it accepts
unfoldable pub refused : State → List ℕ → List ℕ → ℕ
refused s h b = cond (not (eqb (refused_state s h) 0)) (refused_state s h) (refused_event s b)
