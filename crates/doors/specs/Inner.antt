-- What the inner functions of the doors are held to: settings and clock by value, the arrays lent.
use Rattle.std.specs.Prelude.{◌≡◌, true, ℕ, List, length}
use Rattle.sheet.specs.declared.Settings.{Settings}
use Rattle.model.specs.Arrays.{Columns, columns_seen, Sized, flags_fit}
use Rattle.model.specs.Lent.{Lent, lent_settings, settings_from, clock_from, refused_arrays, refused_in, saved_in}
use Rattle.model.specs.Run.{fresh}
use Rattle.model.specs.declared.Clock.{Clock}
use Rattle.model.specs.declared.StateRef.{StateRef}
use Rattle.decision.specs.Decides.{Favoured}
use Rattle.decision.specs.Upkeep.{HeldIn, worked_for}
use Rattle.doors.specs.declared.opening.Opened.{Opened}
use Rattle.doors.specs.declared.opening.Beside.{Beside}

-- every array has its length
pub record Room (c : Settings) (u : List ℕ) (ts : Columns) (q : List ℕ) : Type 0 where
  pub sixteen : length u ≡ 16
  pub shares : length c.shares ≡ 16
  pub sizes : Sized ts
  pub full : length q ≡ 64

-- the settings and the clock that lent words say
abbrev pub read_from : List ℕ → List ℕ → List ℕ → Opened
read_from numbers shares clock = record { settings = settings_from numbers shares; clock = clock_from clock }

-- they are the settings and the clock of what is lent, and the number is what it is refused by; every array has its length
abbrev pub opened_from : Lent → Opened
opened_from x = read_from x.settings x.shares x.clock

pub record OpenedFrom (x : Lent) (o : Opened) (number : ℕ) : Type 0 where
  pub opened : o ≡ opened_from x
  pub refusal : number ≡ refused_in x
  pub room : Room (lent_settings x) x.used x.threads x.queue

-- the number that a state with these settings and this clock was tested to have; and every array has its length
pub record Tested (o : Opened) (s : StateRef) (number : ℕ) : Type 0 where
  pub refusal : number ≡ refused_arrays o.settings s.used.now o.clock (columns_seen s) s.queue.now s.history.now
  pub sixteen : length s.used.now ≡ 16
  pub sizes : Sized (columns_seen s)
  pub full : length s.queue.now ≡ 64

-- what is kept beside a state, and the favoured partition, are right
pub record Begins (c : Settings) (k : Clock) (x : StateRef) (b : Beside) : Type 0 where
  pub held : HeldIn c x.used.now k (columns_seen x) x.queue.now b.cache
  pub favours : Favoured (worked_for x.partitions.now k.running) b.favoured

-- y holds a fresh start with the settings c beside the lent history h
pub record Fresh (c : Settings) (h : List ℕ) (y : Lent) : Type 0 where
  pub after : saved_in y ≡ fresh c h
  pub flags : flags_fit y.threads ≡ true
