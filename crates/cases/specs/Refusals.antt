-- Refusals that the definitions compute, alone and two at a time: the first in the paper's order is the number. "Order: 1 to 6 for a sheet; then 7,
-- 8, 14, 9, 10, 11, 12, 13. But a state whose own settings are outside their limits gives 8 before 7". And what the doors answer that decide nothing.
use Rattle.std.specs.Prelude.{ℕ, Bool, true, false, List, [], ◌∷◌, ◌++◌, map, set, take, replicate, eqb, ℤ, pos}
use Rattle.lists.specs.Lists.{all}
use Rattle.sheet.specs.Sheet.{sheet_of, refused_write, length_written, buffer_written}
use Rattle.sheet.specs.declared.Settings.{Settings}
use Rattle.model.specs.State.{State, Thread, cycles}
use Rattle.model.specs.Slices.{with_slice}
use Rattle.model.specs.Event.{refused_state, refused_event, refused}
use Rattle.model.specs.Step.{Saved, saved, with_clock, with_used, with_thread, with_queue, with_running, created, joins}
use Rattle.model.specs.Run.{fresh_state}
use Rattle.model.specs.Answers.{Remainder}
use Rattle.model.specs.Arrays.{columns}
use Rattle.model.specs.Lent.{Lent, lent_settings}
use Rattle.model.specs.Doors.{refused_start}
use Rattle.cases.specs.Written.{percents, kit, kit_with, halves, event, tick, create, create_on, create_as, ready, block, set_priority, end, resume}
use Rattle.cases.specs.Computed.{sheet_number, remains}

infix 70 ◌is◌
-- a number that is computed, and what the paper says
pub record Number : Type 0 where
  pub computed : ℕ
  pub paper : ℕ

abbrev pub ◌is◌ : ℕ → ℕ → Number
a is b = record { computed = a; paper = b }

abbrev pub computed_of : List Number → List ℕ
computed_of l = map (λ n. n.computed) l

abbrev pub papers_of : List Number → List ℕ
papers_of l = map (λ n. n.paper) l

abbrev pub agree : List Number → Bool
agree l = all (λ n. eqb n.computed n.paper) l

-- ---- events

-- thread 0 is ready, thread 1 exists and is not
abbrev pub begun : State
begun = joins (with_thread (with_thread (fresh_state (halves 2)) 0 (created 0 10 1 0)) 1 (created 1 20 1 0)) 0

-- the number by which an event is refused there, or 0
abbrev pub door : List ℕ → ℕ
door b = refused_event begun b

-- and by which it is refused on any state, beside any history
abbrev pub on : Saved → List ℕ → ℕ
on v b = refused v.state v.history b

-- one of each kind, which is accepted
abbrev pub kinds : List Number
kinds =
    door (tick 0) is 0 ∷ door (create 2 1 255 0) is 0 ∷ door (ready 1 0) is 0 ∷ door (block 0 0) is 0 ∷ door (set_priority 0 255 0) is 0
    ∷ door (end 1 0) is 0 ∷ door (resume 0) is 0 ∷ door (create_as 1 1 2 1 255 0) is 0 ∷ []

-- the event with a 1 in each of these bytes, one at a time
abbrev pub spoilt : List ℕ → List ℕ → List Number
spoilt b places = map (λ i. door (set b i 1) is 9) places

-- "Bytes that a kind doesn't use are zero": all 39 of them
abbrev pub reserved : List Number
reserved =
    spoilt (tick 0) (1 ∷ 2 ∷ 3 ∷ 8 ∷ 9 ∷ 10 ∷ 11 ∷ []) ++ (spoilt (create 2 1 10 0) (10 ∷ 11 ∷ [])
    ++ (spoilt (ready 1 0) (2 ∷ 3 ∷ 8 ∷ 9 ∷ 10 ∷ 11 ∷ []) ++ (spoilt (block 0 0) (2 ∷ 3 ∷ 8 ∷ 9 ∷ 10 ∷ 11 ∷ [])
    ++ (spoilt (set_priority 0 5 0) (2 ∷ 8 ∷ 9 ∷ 10 ∷ 11 ∷ []) ++ (spoilt (end 1 0) (2 ∷ 3 ∷ 8 ∷ 9 ∷ 10 ∷ 11 ∷ [])
    ++ spoilt (resume 0) (1 ∷ 2 ∷ 3 ∷ 8 ∷ 9 ∷ 10 ∷ 11 ∷ []))))))

-- a window of 1, beside no history at all
abbrev pub wrong_settings : Saved
wrong_settings = saved (fresh_state (halves 1)) []

-- a total that is not its row's sum, beside a history of so many numbers; four are wanted
abbrev pub unsound : ℕ → Saved
unsound n = saved (with_used (fresh_state (halves 2)) (record { 0 = 1 } ∷ replicate 15 (record { 0 = 0 }))) (replicate n 0)

abbrev pub short : Saved
short = saved (fresh_state (halves 2)) (replicate 3 0)

-- halves 2 of this edition, stated (1) or not (0)
abbrev pub halves_in : ℕ → ℕ → Settings
halves_in edition stated = kit_with edition stated 2 1000 0 0 (50 ∷ 50 ∷ [])

-- the number by which a fresh state of them is refused beside a history of so many numbers; four are wanted
abbrev pub in_edition : ℕ → ℕ → ℕ → ℕ
in_edition edition stated n = refused_state (fresh_state (halves_in edition stated)) (replicate n 0)

-- eleven of the bytes
abbrev pub cut : List ℕ → List ℕ
cut b = take 11 b

-- 8 of the settings before 7; 7 before 8; 7 and 8 before 14
abbrev pub states : List Number
states =
    refused_state begun (replicate 4 0) is 0 ∷ on short (tick 0) is 7 ∷ on (unsound 4) (tick 0) is 8 ∷ on wrong_settings (tick 0) is 8
    ∷ on (unsound 3) (tick 0) is 7 ∷ on short (cut (tick 0)) is 7 ∷ on (unsound 4) (cut (tick 0)) is 8
    -- "1 for the quarter and 2 for the half"; "Where no E is stated, only 1 is within limits: .. 8 in a given state"; and stated or not is 1 or 0
    ∷ in_edition 1 0 4 is 0 ∷ in_edition 1 1 4 is 0 ∷ in_edition 2 1 4 is 0 ∷ in_edition 2 0 4 is 8 ∷ in_edition 0 0 4 is 8 ∷ in_edition 0 1 4 is 8
    ∷ in_edition 3 0 4 is 8 ∷ in_edition 3 1 4 is 8 ∷ in_edition 1 2 4 is 8 ∷ in_edition 2 2 4 is 8 ∷ in_edition 1 255 4 is 8
    -- 8 of the edition before 7, too
    ∷ in_edition 1 0 3 is 7 ∷ in_edition 1 1 3 is 7 ∷ in_edition 2 1 3 is 7 ∷ in_edition 2 0 3 is 8 ∷ in_edition 0 0 3 is 8 ∷ in_edition 3 1 3 is 8
    ∷ in_edition 1 2 3 is 8 ∷ in_edition 0 0 0 is 8
    ∷ []

-- ---- "Sound means": a state for each clause that is on the wrong side of it, and some on the right side

-- the number by which a state is refused beside two rows of two numbers
abbrev pub state : State → List ℕ → ℕ
state s h = refused_state s h

abbrev pub still : List ℕ
still = replicate 4 0

-- the totals of the first partitions
abbrev pub totals : List ℕ → State → State
totals ns s = with_used s (take 16 (map cycles ns ++ replicate 16 (cycles 0)))

-- the whole array of the ready queue, of which one place is used
abbrev pub places : List ℕ → State → State
places q s =
    record {
      settings = s.settings;
      used = s.used;
      stamp = s.stamp;
      slot = s.slot;
      since = s.since;
      threads = s.threads;
      queue = q;
      queued = 1;
      running = s.running;
    }

-- a record of a thread that does not exist
abbrev pub gone : Bool → ℕ → ℕ → ℕ → ℕ → ℕ → Thread
gone on p n m o l = record { exists = false; ready = on; partition = p; priority = n; mask = m; policy = o; slice = l }

-- begun, where thread 2 exists too, with this policy and this slice
abbrev pub counting : ℕ → ℕ → State
counting o l = with_thread begun 2 (with_slice (created 1 0 255 o) l)

-- three shares, of which two count
abbrev pub third : Settings
third =
    record {
      window = record { 0 = 2 };
      tick = record { 0 = 1000 };
      policy = 0;
      core = 0;
      edition = 1;
      stated = 0;
      count = 2;
      shares = percents (50 ∷ 50 ∷ 1 ∷ []);
    }

abbrev pub soundness : List Number
soundness =
    -- slot below W; time since tick at most 2 × C
    state (with_clock begun 0 1 0) still is 0 ∷ state (with_clock begun 0 2 0) still is 8
    ∷ state (with_clock begun 0 0 2000) still is 0 ∷ state (with_clock begun 0 0 2001) still is 8
    -- each total equal to its row's sum
    ∷ state (totals (0 ∷ 1000 ∷ []) begun) (0 ∷ 0 ∷ 0 ∷ 1000 ∷ []) is 0 ∷ state (totals (1000 ∷ []) begun) (0 ∷ 0 ∷ 0 ∷ 1000 ∷ []) is 8
    -- each slot's sum over partitions at most 2 × C
    ∷ state (totals (1000 ∷ 1000 ∷ []) begun) (0 ∷ 1000 ∷ 0 ∷ 1000 ∷ []) is 0 ∷ state (totals (1000 ∷ 1001 ∷ []) begun) (0 ∷ 1000 ∷ 0 ∷ 1001 ∷ []) is 8
    -- the current slot's at most the time since tick
    ∷ state (with_clock (totals (5 ∷ 5 ∷ []) begun) 0 0 10) (5 ∷ 0 ∷ 5 ∷ 0 ∷ []) is 0
    ∷ state (with_clock (totals (5 ∷ 5 ∷ []) begun) 0 0 9) (5 ∷ 0 ∷ 5 ∷ 0 ∷ []) is 8
    -- existing threads with a valid partition and a mask other than 0
    ∷ state (with_thread begun 2 (created 1 0 255 0)) still is 0 ∷ state (with_thread begun 2 (created 2 0 255 0)) still is 8
    ∷ state (with_thread begun 2 (created 1 0 0 0)) still is 8
    -- "a round-robin slice is 1 to 4, any other 0"; no policy is above 1
    ∷ state (counting 1 0) still is 8 ∷ state (counting 1 1) still is 0 ∷ state (counting 1 2) still is 0 ∷ state (counting 1 3) still is 0
    ∷ state (counting 1 4) still is 0 ∷ state (counting 1 5) still is 8 ∷ state (counting 0 0) still is 0 ∷ state (counting 0 1) still is 8
    ∷ state (counting 0 4) still is 8 ∷ state (counting 2 0) still is 8 ∷ state (counting 2 4) still is 8
    -- the line without repeats, and holding exactly the ready threads, all existing
    ∷ state (with_queue begun (0 ∷ 0 ∷ [])) still is 8 ∷ state (with_queue begun (0 ∷ 1 ∷ [])) still is 8 ∷ state (with_queue begun []) still is 8
    ∷ state (with_queue begun (0 ∷ 64 ∷ [])) still is 8 ∷ state (with_queue (with_thread begun 2 (gone true 0 0 0 0 0)) (0 ∷ 2 ∷ [])) still is 8
    -- unused places of the line, records of absent threads, and shares and totals past the last partition all zero
    ∷ state (places (0 ∷ replicate 63 0) begun) still is 0 ∷ state (places (0 ∷ replicate 62 0 ++ (1 ∷ [])) begun) still is 8
    ∷ state (with_thread begun 63 (gone false 1 0 0 0 0)) still is 8 ∷ state (with_thread begun 63 (gone false 0 1 0 0 0)) still is 8
    ∷ state (with_thread begun 63 (gone false 0 0 1 0 0)) still is 8 ∷ state (with_thread begun 63 (gone false 0 0 0 1 0)) still is 8
    ∷ state (with_thread begun 63 (gone false 0 0 0 0 1)) still is 8 ∷ state (with_thread begun 63 (gone false 0 0 0 1 4)) still is 8
    ∷ state (with_thread begun 63 (gone false 0 0 0 0 0)) still is 0 ∷ state (fresh_state third) still is 8
    ∷ state (totals (0 ∷ 0 ∷ 1 ∷ []) begun) still is 8
    -- the running one idle, or in the line and allowed
    ∷ state (with_running begun 0) still is 0 ∷ state (with_running begun 1) still is 8 ∷ state (with_running begun 254) still is 8
    ∷ state (with_running (joins (with_thread begun 2 (created 1 0 2 0)) 2) 2) still is 8
    ∷ []

-- ---- events

abbrev pub events : List Number
events =
    -- each alone
    door (cut (tick 0)) is 14 ∷ door (tick 0 ++ (0 ∷ [])) is 14 ∷ door [] is 14
    ∷ door (event 0 0 0 0 0 0 0) is 9 ∷ door (event 8 0 0 0 0 0 0) is 9 ∷ door (event 255 0 0 0 0 0 0) is 9
    ∷ door (tick 2000) is 0 ∷ door (tick 2001) is 10 ∷ door (resume 2001) is 0 ∷ door (tick 4294967295) is 10
    ∷ door (create 63 0 10 0) is 0 ∷ door (create 64 0 10 0) is 11 ∷ door (create 0 0 10 0) is 11
    ∷ door (ready 2 0) is 11 ∷ door (set_priority 2 5 0) is 11 ∷ door (end 2 0) is 11
    ∷ door (create 2 2 10 0) is 12 ∷ door (create_on 0 2 1 10 0) is 12 ∷ door (create_as 2 1 2 1 10 0) is 12 ∷ door (create_as 255 1 2 1 10 0) is 12
    ∷ door (ready 0 0) is 13 ∷ door (block 1 0) is 13
    -- 14 before 9 and 10; 9 before 10 and 11
    ∷ door (cut (event 8 0 0 0 0 0 0)) is 14 ∷ door (cut (tick 2001)) is 14
    ∷ door (event 8 0 0 0 2001 0 0) is 9 ∷ door (set (tick 2001) 9 1) is 9 ∷ door (set (ready 2 0) 9 1) is 9
    ∷ door (set (create_as 2 1 2 1 10 0) 10 1) is 9
    -- 10 before 11, 12 and 13
    ∷ door (ready 2 2001) is 10 ∷ door (create 2 2 10 2001) is 10 ∷ door (create_as 2 1 2 1 10 2001) is 10 ∷ door (ready 0 2001) is 10
    -- 11 before 12 and 13; no event can have 12 and 13
    ∷ door (create 64 2 10 0) is 11 ∷ door (create_on 0 0 0 10 0) is 11 ∷ door (create_as 2 1 64 1 10 0) is 11 ∷ door (create_as 2 1 1 1 10 0) is 11
    ∷ door (block 2 0) is 11
    ∷ []

-- ---- sheets

-- a sheet with another byte at a place. Record i has its letter at place 12 × i
abbrev pub with : List ℕ → ℕ → ℕ → List ℕ
with bytes i b = set bytes i b

abbrev pub whole : List ℕ
whole = sheet_of (kit 4 1000 0 0 (95 ∷ 5 ∷ []))

-- the number by which two halves of this edition, stated (1) or not (0), are refused in writing them into so many bytes
abbrev pub written : ℕ → ℕ → ℕ → ℕ
written edition stated n = refused_write (halves_in edition stated) n

abbrev pub sheets : List Number
sheets =
    -- each alone: 59 bytes; 4 and 21 records; a letter, a space, a line feed, a two-digit number; `S 01 0000,5`
    sheet_number whole is 0 ∷ sheet_number (take 59 whole) is 1 ∷ sheet_number [] is 1 ∷ sheet_number (take 48 whole) is 1
    ∷ sheet_number (sheet_of (kit 4 1000 0 0 (100 ∷ replicate 16 0))) is 1 ∷ sheet_number (with whole 0 88) is 2 ∷ sheet_number (with whole 1 48) is 2
    ∷ sheet_number (with whole 11 13) is 2 ∷ sheet_number (with whole 3 49) is 2 ∷ sheet_number (with whole 69 44) is 2
    ∷ sheet_number (sheet_of (kit 1 1000 0 0 (100 ∷ []))) is 3 ∷ sheet_number (sheet_of (kit 4 0 0 0 (100 ∷ []))) is 4
    ∷ sheet_number (sheet_of (kit 4 1000 2 0 (100 ∷ []))) is 5 ∷ sheet_number (sheet_of (kit 4 1000 0 8 (100 ∷ []))) is 5
    ∷ sheet_number (sheet_of (kit 4 1000 0 0 (101 ∷ []))) is 6
    -- 1 before 2; 2 before 3; 3 before 4; 4 before 5; 5 before 6
    ∷ sheet_number (take 59 (with whole 0 88)) is 1 ∷ sheet_number (with (sheet_of (kit 1 1000 0 0 (100 ∷ []))) 12 88) is 2
    ∷ sheet_number (sheet_of (kit 1 150 0 0 (100 ∷ []))) is 3 ∷ sheet_number (sheet_of (kit 4 150 2 0 (100 ∷ []))) is 4
    ∷ sheet_number (sheet_of (kit 4 1000 2 0 (99 ∷ []))) is 5
    -- the start door: 6 before 7, and 7 for three numbers where four are wanted
    ∷ refused_start (sheet_of (kit 2 1000 0 0 (99 ∷ []))) [] is 6 ∷ refused_start (sheet_of (halves 2)) (replicate 3 0) is 7
    ∷ refused_start (sheet_of (halves 2)) (replicate 4 0) is 0
    -- the write sheet door: 1, 3, 4, 5, 6, 7
    ∷ refused_write (kit 1 1000 0 0 []) 0 is 1 ∷ refused_write (kit 1 150 0 0 (100 ∷ [])) 60 is 3 ∷ refused_write (kit 4 150 2 0 (100 ∷ [])) 60 is 4
    ∷ refused_write (kit 4 1000 2 0 (99 ∷ [])) 60 is 5 ∷ refused_write (kit 4 1000 0 0 (99 ∷ [])) 0 is 6 ∷ refused_write (halves 2) 71 is 7
    ∷ refused_write (halves 2) 72 is 0 ∷ length_written (halves 2) 71 is 0 ∷ length_written (halves 2) 80 is 72
    -- "a stated 1 is written back too": a record more
    ∷ written 1 1 83 is 7 ∷ written 1 1 84 is 0 ∷ written 2 1 83 is 7 ∷ written 2 1 84 is 0 ∷ written 1 0 72 is 0
    ∷ length_written (halves_in 1 1) 84 is 84 ∷ length_written (halves_in 2 1) 90 is 84 ∷ length_written (halves_in 2 1) 83 is 0
    -- "Where no E is stated, only 1 is within limits: 5 in writing"; "E other than 1 or 2 gives 5"; a flag that is neither 0 nor 1; 5 before 7
    ∷ written 2 0 84 is 5 ∷ written 0 0 84 is 5 ∷ written 3 0 84 is 5 ∷ written 0 1 84 is 5 ∷ written 3 1 84 is 5 ∷ written 1 2 96 is 5
    ∷ written 2 2 96 is 5 ∷ written 1 255 96 is 5 ∷ written 2 0 0 is 5
    -- 1, 3, 4 before 5; P beside E; 5 before 6
    ∷ refused_write (kit_with 2 0 2 1000 0 0 []) 84 is 1 ∷ refused_write (kit_with 2 0 1 1000 0 0 (100 ∷ [])) 84 is 3
    ∷ refused_write (kit_with 2 0 4 150 0 0 (100 ∷ [])) 84 is 4 ∷ refused_write (kit_with 2 0 4 1000 2 0 (100 ∷ [])) 84 is 5
    ∷ refused_write (kit_with 2 0 4 1000 0 0 (99 ∷ [])) 84 is 5 ∷ refused_write (kit_with 2 1 4 1000 0 0 (99 ∷ [])) 84 is 6
    ∷ []

-- a sheet of 72 bytes, written into 74
abbrev pub buffer : List ℕ
buffer = buffer_written (halves 2) (replicate 74 7)

-- ---- the doors of remaining and decision

abbrev pub zeros : ℕ → List ℕ
zeros n = replicate n 0

-- what is lent for two halves of W 2, C 1000, with E and whether it is stated, one thread (0, in partition 0, on core 0), the flag, policy and
-- slice of which are given, and no more; partition 0 was charged x since the last tick
abbrev pub lent_with : ℕ → ℕ → ℕ → ℕ → ℕ → ℕ → List ℕ → Lent
lent_with edition stated flag o l x history =
    record {
      settings = 2 ∷ 1000 ∷ 0 ∷ 0 ∷ edition ∷ stated ∷ 2 ∷ [];
      shares = 50 ∷ 50 ∷ zeros 14;
      used = x ∷ zeros 15;
      clock = x ∷ 0 ∷ x ∷ 1 ∷ 0 ∷ [];
      threads = columns (flag ∷ zeros 63) (1 ∷ zeros 63) (zeros 64) (10 ∷ zeros 63) (1 ∷ zeros 63) (o ∷ zeros 63) (l ∷ zeros 63);
      queue = zeros 64;
      history = history;
    }

-- where no edition is stated
abbrev pub lent_as : ℕ → ℕ → ℕ → ℕ → List ℕ → Lent
lent_as flag o l x history = lent_with 1 0 flag o l x history

-- and first in, first out
abbrev pub lent : ℕ → ℕ → List ℕ → Lent
lent flag x history = lent_as flag 0 0 x history

-- the same of an edition, stated (1) or not (0)
abbrev pub lent_in : ℕ → ℕ → ℕ → List ℕ → Lent
lent_in edition stated x history = lent_with edition stated 1 0 0 x history

abbrev pub left : ℤ → Remainder
left z = record { refusal = 0; remaining = z }

abbrev pub none : ℕ → Remainder
none n = record { refusal = n; remaining = pos 0 }

-- 7 and 8 before 12: a history too short, a total that is not its row's sum, a flag or a policy that is neither 0 nor 1, a slice that is not of the
-- policy
abbrev pub doors : List Number
doors =
    (remains (lent 1 5 (5 ∷ zeros 3)) 1).refusal is 0 ∷ (remains (lent 1 5 (5 ∷ zeros 3)) 2).refusal is 12
    ∷ (remains (lent 1 5 (5 ∷ zeros 2)) 2).refusal is 7 ∷ (remains (lent 1 5 (zeros 4)) 2).refusal is 8
    ∷ (remains (lent 2 5 (5 ∷ zeros 3)) 2).refusal is 8 ∷ (remains (lent_as 1 2 0 5 (5 ∷ zeros 3)) 2).refusal is 8
    ∷ (remains (lent_as 1 1 4 5 (5 ∷ zeros 3)) 1).refusal is 0 ∷ (remains (lent_as 1 4 1 5 (5 ∷ zeros 3)) 2).refusal is 8
    ∷ (remains (lent_as 1 1 5 5 (5 ∷ zeros 3)) 2).refusal is 8
    -- an edition outside its limits, 8 before 7 too
    ∷ (remains (lent_in 1 1 5 (5 ∷ zeros 3)) 1).refusal is 0 ∷ (remains (lent_in 2 1 5 (5 ∷ zeros 3)) 1).refusal is 0
    ∷ (remains (lent_in 2 1 5 (5 ∷ zeros 3)) 2).refusal is 12 ∷ (remains (lent_in 2 0 5 (5 ∷ zeros 3)) 2).refusal is 8
    ∷ (remains (lent_in 0 0 5 (5 ∷ zeros 3)) 1).refusal is 8 ∷ (remains (lent_in 3 1 5 (5 ∷ zeros 3)) 1).refusal is 8
    ∷ (remains (lent_in 1 2 5 (5 ∷ zeros 3)) 1).refusal is 8 ∷ (remains (lent_in 2 1 5 (5 ∷ zeros 2)) 1).refusal is 7
    ∷ (remains (lent_in 2 0 5 (5 ∷ zeros 2)) 1).refusal is 8 ∷ (remains (lent_in 1 2 5 (5 ∷ zeros 2)) 1).refusal is 8
    -- a word whose low byte is a flag, and that is none; and the largest
    ∷ (remains (lent_in 1 256 5 (5 ∷ zeros 3)) 1).refusal is 8 ∷ (remains (lent_in 1 257 5 (5 ∷ zeros 3)) 1).refusal is 8
    ∷ (remains (lent_in 2 65537 5 (5 ∷ zeros 3)) 1).refusal is 8 ∷ (remains (lent_in 2 16777217 5 (5 ∷ zeros 3)) 1).refusal is 8
    ∷ (remains (lent_in 1 255 5 (5 ∷ zeros 3)) 1).refusal is 8 ∷ (remains (lent_in 1 4294967295 5 (5 ∷ zeros 3)) 1).refusal is 8
    ∷ refused_write (lent_settings (lent_in 1 256 5 [])) 84 is 5 ∷ refused_write (lent_settings (lent_in 2 257 5 [])) 84 is 5
    ∷ []
