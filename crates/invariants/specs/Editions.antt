-- "a sheet without it means 1": where the edition is 1, that it is stated changes no answer.
use Rattle.std.specs.Prelude.{ℕ, ◌≡◌, List, map}
use Rattle.sheet.specs.declared.Settings.{Settings}
use Rattle.model.specs.State.{State}
use Rattle.model.specs.Step.{Saved, saved}
use Rattle.model.specs.Run.{run, after}
use Rattle.model.specs.Answers.{Line, answer_line}

-- the same settings, whose edition is stated (1) or not (0)
abbrev pub with_stated : Settings → ℕ → Settings
with_stated c stated =
    record {
      window = c.window;
      tick = c.tick;
      policy = c.policy;
      core = c.core;
      edition = c.edition;
      stated = stated;
      count = c.count;
      shares = c.shares;
    }

-- the same state beside the same history
abbrev pub restated : ℕ → Saved → Saved
restated stated v =
    let s : State = v.state in
    saved
    (record {
      settings = with_stated s.settings stated;
      used = s.used;
      stamp = s.stamp;
      slot = s.slot;
      since = s.since;
      threads = s.threads;
      queue = s.queue;
      queued = s.queued;
      running = s.running;
    })
    v.history

-- the lines of the answers to a list of events
abbrev pub lines_from : Saved → List (List ℕ) → List Line
lines_from v events = map (λ e. answer_line e.answer) (run v events)

-- from whatever state of edition 1: the same lines, and what is left differs in nothing but whether the edition is stated
abbrev pub StatedOrNot : Type 0
StatedOrNot =
    (v : Saved) → v.state.settings.edition ≡ 1 → (events : List (List ℕ)) →
    (lines_from (restated 1 v) events ≡ lines_from (restated 0 v) events)
    × (after (restated 1 v) events ≡ restated 1 (after (restated 0 v) events))
