-- What the arrays that are lent satisfy by their types, whatever they hold: their lengths, and each number within its type.
use Rattle.std.specs.Prelude.{ℕ, ◌^◌, ◌<◌, ◌≡◌, List, length, get_or}
use Rattle.sheet.specs.Settings.{W, C, share}
use Rattle.model.specs.State.{thread, used, Thread, State}
use Rattle.sheet.specs.declared.Settings.{Settings}

pub record Lengths (s : State) : Type 0 where
  pub shares : length s.settings.shares ≡ 16
  pub used : length s.used ≡ 16
  pub threads : length s.threads ≡ 64
  pub queue : length s.queue ≡ 64

pub record SettingsTyped (c : Settings) : Type 0 where
  pub window : W c < 2 ^ 32
  pub tick : C c < 2 ^ 32
  pub policy : c.policy < 2 ^ 32
  pub core : c.core < 2 ^ 32
  pub edition : c.edition < 2 ^ 32
  pub stated : c.stated < 256
  pub count : c.count < 2 ^ 32
  pub shares : (p : ℕ) → share c p < 2 ^ 32

pub record ThreadTyped (r : Thread) : Type 0 where
  pub partition : r.partition < 256
  pub priority : r.priority < 256
  pub mask : r.mask < 256
  pub policy : r.policy < 256
  pub slice : r.slice < 256

-- a list of 32-bit numbers, a list of bytes; past the end get_or reads 0
abbrev pub Words : List ℕ → Type 0
Words l = (i : ℕ) → get_or l i 0 < 2 ^ 32

abbrev pub Bytes : List ℕ → Type 0
Bytes l = (i : ℕ) → get_or l i 0 < 256

pub record StateTyped (s : State) : Type 0 where
  pub lengths : Lengths s
  pub settings : SettingsTyped s.settings
  pub totals : (p : ℕ) → used s p < 2 ^ 32
  pub stamp : s.stamp < 2 ^ 32
  pub slot : s.slot.0 < 2 ^ 32
  pub since : s.since.0 < 2 ^ 32
  pub threads : (t : ℕ) → ThreadTyped (thread s t)
  pub queue : Bytes s.queue
  pub queued : s.queued < 2 ^ 32
  pub running : s.running < 2 ^ 32

-- a state and a history
pub record Typed (s : State) (h : List ℕ) : Type 0 where
  pub state : StateTyped s
  pub history : Words h
