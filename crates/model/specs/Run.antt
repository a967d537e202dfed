-- A fresh start, and a list of events, one after the other, each on the state and the history that the one before left.
use Rattle.std.specs.Prelude.{ℕ, List, [], ◌∷◌, replicate}
use Rattle.sheet.specs.declared.Settings.{Settings}
use Rattle.model.specs.State.{absent, idle, State}
use Rattle.model.specs.Step.{Saved, zero_rows, Answer, answer}

-- "A fresh start has history zero, stamp 0, slot 0, no threads, idle"
abbrev pub fresh_state : Settings → State
fresh_state c =
    record {
      settings = c;
      used = replicate 16 (record { 0 = 0 });
      stamp = 0;
      slot = record { 0 = 0 };
      since = record { 0 = 0 };
      threads = replicate 64 absent;
      queue = replicate 64 0;
      queued = 0;
      running = idle;
    }

-- beside a lent history, whose rows become zero
abbrev pub fresh : Settings → List ℕ → Saved
fresh c h = record { state = fresh_state c; history = zero_rows (fresh_state c) h }

-- an event's bytes with the answer that they got
pub record Entry : Type 0 where
  pub event : List ℕ
  pub answer : Answer

unfoldable pub run : Saved → List (List ℕ) → List Entry
run v [] = []
run v (b ∷ bs) = record { event = b; answer = answer v b } ∷ run (answer v b).after bs

-- the state and the history that a list of events leaves
unfoldable pub after : Saved → List (List ℕ) → Saved
after v [] = v
after v (b ∷ bs) = after (answer v b).after bs
