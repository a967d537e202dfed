-- All that a caller lends the doors for a state and its history: arrays of numbers. Which state they stand for, and when it is refused.
use Rattle.std.specs.Prelude.{◌≡◌, ℕ, ◌*◌, ◌≤◌, ◌<◌, not, cond, ◌&&◌, List, [], ◌∷◌, map, ltb, length, get_or}
use Rattle.lists.specs.Lists.{below}
use Rattle.units.specs.declared.Percent.{Percent}
use Rattle.sheet.specs.Settings.{W, within_limits}
use Rattle.sheet.specs.Sheet.{refused_write}
use Rattle.sheet.specs.declared.Settings.{Settings}
use Rattle.model.specs.State.{State}
use Rattle.model.specs.Arrays.{Columns, state_of, flags_fit}
use Rattle.model.specs.Sound.{sound}
use Rattle.model.specs.Step.{Saved, saved}
use Rattle.model.specs.declared.Clock.{Clock}

pub record Lent : Type 0 where
  -- W, C, P, M, E, the flag that tells whether E is stated, and the count; the shares
  pub settings : List ℕ
  pub shares : List ℕ
  pub used : List ℕ
  -- the stamp, the slot, the time since tick, how many threads are queued, the running one
  pub clock : List ℕ
  pub threads : Columns
  pub queue : List ℕ
  pub history : List ℕ

abbrev pub lent : List ℕ → List ℕ → List ℕ → List ℕ → Columns → List ℕ → List ℕ → Lent
lent a b u k ts q h = record { settings = a; shares = b; used = u; clock = k; threads = ts; queue = q; history = h }

-- ---- the state that they stand for

abbrev pub shares_from : List ℕ → List Percent
shares_from l = map (λ p. record { 0 = get_or l p 0 }) (below 16)

-- the flag of the edition in a lent word: the low byte, where the three others, which are reserved, are 0. A word with another one is no flag, and
-- is not cut to one: 255, which is outside the limits as it is
unfoldable pub flag_from : ℕ → ℕ
flag_from word = cond (ltb word 256) word 255

abbrev pub settings_from : List ℕ → List ℕ → Settings
settings_from a b =
    record {
      window = record { 0 = get_or a 0 0 };
      tick = record { 0 = get_or a 1 0 };
      policy = get_or a 2 0;
      core = get_or a 3 0;
      edition = get_or a 4 0;
      stated = flag_from (get_or a 5 0);
      count = get_or a 6 0;
      shares = shares_from b;
    }

abbrev pub clock_from : List ℕ → Clock
clock_from k =
    record {
      stamp = get_or k 0 0;
      slot = record { 0 = get_or k 1 0 };
      since = record { 0 = get_or k 2 0 };
      queued = get_or k 3 0;
      running = get_or k 4 0;
    }

-- the words that hold a clock
abbrev pub words_of : Clock → List ℕ
words_of k = k.stamp ∷ k.slot.0 ∷ k.since.0 ∷ k.queued ∷ k.running ∷ []

abbrev pub lent_settings : Lent → Settings
lent_settings x = settings_from x.settings x.shares

abbrev pub lent_clock : Lent → Clock
lent_clock x = clock_from x.clock

abbrev pub state_in : Lent → State
state_in x = state_of (lent_settings x) x.used (lent_clock x) x.threads x.queue

abbrev pub saved_in : Lent → Saved
saved_in x = saved (state_in x) x.history

-- ---- when they are refused

-- the number by which settings c, totals u, a clock k, the threads' columns, the queue q and the history h are refused, or 0: 8 for settings
-- outside their limits, "because the buffer length wanted is worked out from them"; 7 for a history too short; 8 for a flag above 1, and where
-- the state that all this stands for is not sound
unfoldable pub refused_arrays : Settings → List ℕ → Clock → Columns → List ℕ → List ℕ → ℕ
refused_arrays c u k ts q h =
    cond (not (within_limits c)) 8
    (cond (ltb (length h) (c.count * W c)) 7
    (cond (not (flags_fit ts && sound (state_of c u k ts q) h)) 8 0))

abbrev pub refused_in : Lent → ℕ
refused_in x = refused_arrays (lent_settings x) x.used (lent_clock x) x.threads x.queue x.history

-- the flag holds 0 or 1, and every other word is refused for what it is: with 8 in a given state, and in writing with the number of the first limit
-- that is broken, before the shares' sum and the buffer's room
abbrev pub OtherFlagsRefused : Type 0
OtherFlagsRefused =
    (x : Lent) → 1 < get_or x.settings 5 0
    → (refused_in x ≡ 8) × ((room : ℕ) → (1 ≤ refused_write (lent_settings x) room) × (refused_write (lent_settings x) room ≤ 5))
