-- Demand 3, of a list of events ("The list that demand 3 speaks of" of document 01): in terms of the events' bytes, the answers that they
-- got, and the starting state.
use Rattle.std.specs.Prelude.{ℕ, ◌+◌, ◌-◌, ◌*◌, ◌/◌, ◌≤◌, ◌<◌, ◌≡◌, Bool, true, false, not, cond, ◌&&◌, List, [], ◌∷◌, ◌++◌, length, take, ℤ, pos, ◌-ℤ◌, ◌≤ℤ◌, eqb}
use Rattle.lists.specs.Lists.{below, any, keep, member}
use Rattle.units.specs.Units.{elapsed_of}
use Rattle.sheet.specs.Settings.{W, C, budget, need, Limits}
use Rattle.sheet.specs.declared.Settings.{Settings}
use Rattle.model.specs.State.{thread, queue_of, allows, State}
use Rattle.model.specs.Policy.{idle_mode}
use Rattle.model.specs.Typed.{Lengths}
use Rattle.model.specs.Event
use Rattle.model.specs.Event.{kind_of, thread_of, partition_of, mask_of, stamp_of, refused_state}
use Rattle.model.specs.Step.{Saved}
use Rattle.model.specs.Run.{Entry, run}

abbrev pub accepted : Entry → Bool
accepted e = eqb e.answer.refusal 0

-- an accepted event of kind k
abbrev pub is_kind : ℕ → Entry → Bool
is_kind k e = accepted e && eqb (kind_of e.event) k

-- ---- charges

-- what an accepted event's charge needs of the accepted event before it: its stamp, and what it chose
pub record Last : Type 0 where
  pub stamp : ℕ
  pub mode : ℕ
  pub partition : ℕ

abbrev pub last_of : Entry → Last
last_of e = record { stamp = stamp_of e.event; mode = e.answer.decision.mode; partition = e.answer.decision.partition }

abbrev pub elapsed_since : Last → Entry → ℕ
elapsed_since l e = elapsed_of (stamp_of e.event) l.stamp

-- the elapsed of an accepted event, if the accepted event before it chose a thread of p
unfoldable pub charge_of : ℕ → Last → Entry → ℕ
charge_of p l e = cond (not (eqb l.mode idle_mode) && eqb l.partition p) (elapsed_since l e) 0

-- "Charged to p in the stretch": what p is charged by the accepted ones of a list of events
unfoldable pub charged_to : ℕ → Last → List Entry → ℕ
charged_to p l [] = 0
charged_to p l (e ∷ es) = cond (accepted e) (charge_of p l e + charged_to p (last_of e) es) (charged_to p l es)

-- ---- the stretch

-- at each accepted tick the elapsed since the tick before, its own included, add up to c; n has elapsed already
unfoldable pub full_ticks : ℕ → ℕ → Last → List Entry → Bool
full_ticks c n l [] = true
full_ticks c n l (e ∷ es) =
    cond (not (accepted e)) (full_ticks c n l es)
    (cond (eqb (kind_of e.event) Event.tick) (eqb (n + elapsed_since l e) c && full_ticks c 0 (last_of e) es)
    (full_ticks c (n + elapsed_since l e) (last_of e) es))

-- "Stretch: from an accepted tick, the opening one, to the 2 × W-th accepted tick after it, the closing one", with no resume
pub record Stretch (c : Settings) (opening : Entry) (within : List Entry) (closing : Entry) : Type 0 where
  pub opens : is_kind Event.tick opening ≡ true
  pub closes : is_kind Event.tick closing ≡ true
  pub ticks : length (keep (is_kind Event.tick) (within ++ (closing ∷ []))) ≡ 2 * W c
  pub no_resume : any (is_kind Event.resume) within ≡ false
  pub full : full_ticks (C c) 0 (last_of opening) (within ++ (closing ∷ [])) ≡ true

-- ---- who is ready

-- what a list of events tells of a thread: whether it is ready, and where its accepted create put it
pub record Known : Type 0 where
  pub ready : Bool
  pub partition : ℕ
  pub mask : ℕ

-- by an accepted event that names it
unfoldable pub told_by : List ℕ → Known → Known
told_by b k =
    cond (eqb (kind_of b) Event.create) (record { ready = false; partition = partition_of b; mask = mask_of b })
    (cond (eqb (kind_of b) Event.ready) (record { ready = true; partition = k.partition; mask = k.mask })
    (cond (eqb (kind_of b) Event.block) (record { ready = false; partition = k.partition; mask = k.mask })
    (cond (eqb (kind_of b) Event.end) (record { ready = false; partition = 0; mask = 0 })
    k)))

unfoldable pub known_after : ℕ → Known → List Entry → Known
known_after t k [] = k
known_after t k (e ∷ es) = known_after t (cond (accepted e && eqb (thread_of e.event) t) (told_by e.event k) k) es

-- "A thread in the line of the starting state is ready from there"
abbrev pub known_at : State → ℕ → Known
known_at s t = record { ready = member t (queue_of s); partition = (thread s t).partition; mask = (thread s t).mask }

-- it is ready, in partition p, and allowed on core m
abbrev pub waits_in : ℕ → ℕ → Known → Bool
waits_in p m k = k.ready && eqb k.partition p && allows k.mask m

-- after the events es from the state s, p has a ready thread allowed on the core
unfoldable pub waits : State → List Entry → ℕ → Bool
waits s es p = any (λ t. waits_in p s.settings.core (known_after t (known_at s t) es)) (below 64)

-- ---- the demand

-- what each other partition may cost one that waits, the part of a tick period that need not remain of its budget: "three quarters of a tick
-- period for each other partition under 1, and half under 2"
unfoldable pub loss : Settings → ℕ
loss c = cond (eqb c.edition 2) (C c / 2) (3 * C c / 4)

-- "Bound: p's budget less 3 × C / 4 for each other partition, a signed number"; less C / 2 for each in edition 2
unfoldable pub bound : Settings → ℕ → ℤ
bound c p = pos (budget c p) -ℤ pos ((c.count - 1) * loss c)

-- of the events and answers es, which follow the state s: in every stretch of them a partition that has a ready thread allowed on the core
-- after the opening tick and after each later event before the closing one is charged at least its bound
abbrev pub Served : State → List Entry → Type 0
Served s es =
    (before : List Entry) (opening : Entry) (within : List Entry) (closing : Entry) (later : List Entry) →
    es ≡ before ++ (opening ∷ (within ++ (closing ∷ later))) →
    Stretch s.settings opening within closing →
    (p : ℕ) → p < s.settings.count →
    ((n : ℕ) → n ≤ length within → waits s (before ++ (opening ∷ take n within)) p ≡ true) →
    bound s.settings p ≤ℤ pos (charged_to p (last_of opening) (within ++ (closing ∷ [])))

-- DEMAND 3: so it is from any state that the event door takes, in every list of events. The lengths are those of the arrays that are lent
abbrev pub Demand3 : Type 0
Demand3 =
    (v : Saved) → Lengths v.state → refused_state v.state v.history ≡ 0 → (events : List (List ℕ)) → Served v.state (run v events)

-- ---- the editions

-- what a partition may lose to each other one, in whole cycles: all of a tick period but what must remain of a budget
pub record Lost (c : Settings) : Type 0 where
  pub rest : loss c + need c ≡ C c
  pub under_1 : c.edition ≡ 1 → 4 * loss c ≡ 3 * C c
  pub under_2 : c.edition ≡ 2 → 2 * loss c ≡ C c

-- "Demand 3 loses three quarters of a tick period for each other partition under 1, and half under 2": of settings within their limits exactly so
abbrev pub LossByEdition : Type 0
LossByEdition = (c : Settings) → Limits c → Lost c

-- a list of events, from a state that the event door takes, with a stretch in which a partition waits beside others as demand 3 asks, and is charged
-- its bound, which is above 0, and not a cycle more
pub record Tight (edition : ℕ) : Type 0 where
  pub start : Saved
  pub lengths : Lengths start.state
  pub taken : refused_state start.state start.history ≡ 0
  pub by_edition : start.state.settings.edition ≡ edition
  pub others : 1 < start.state.settings.count
  pub events : List (List ℕ)
  pub before : List Entry
  pub opening : Entry
  pub within : List Entry
  pub closing : Entry
  pub later : List Entry
  pub parts : run start events ≡ before ++ (opening ∷ (within ++ (closing ∷ later)))
  pub stretch : Stretch start.state.settings opening within closing
  pub partition : ℕ
  pub inside : partition < start.state.settings.count
  pub waiting : (n : ℕ) → n ≤ length within → waits start.state (before ++ (opening ∷ take n within)) partition ≡ true
  pub some : 0 < charged_to partition (last_of opening) (within ++ (closing ∷ []))
  pub exact : pos (charged_to partition (last_of opening) (within ++ (closing ∷ []))) ≡ bound start.state.settings partition

-- so in neither edition can less be lost
abbrev pub BoundReached : Type 0
BoundReached = Tight 1 × Tight 2
