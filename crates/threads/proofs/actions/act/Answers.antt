use mathlib.Core.Path.{◌≡◌, sym, ap, ◌∙◌}
use mathlib.Core.Bool.{false}
use mathlib.Core.List.{List}
use Prim.Native.Nat.{ℕ, ◌<◌, ◌≤◌}
use native.Mathlib.Omega.{arith}
use lib.ListN.{take}
use Rattle.model.specs.State.{State}
use Rattle.model.specs.Event.{kind_of, thread_of, priority_of}
use Rattle.model.specs.Arrays.{Columns, columns, with_ready_column, with_priority_column, threads_in, Tables, tables_in, with_tables}
use Rattle.model.proofs.Table.{ready_put, priority_put}
use Rattle.event.specs.declared.kinds.Action.{Action}
use Rattle.event.specs.declared.kinds.Action.TheVariants.{Ready, Block, SetPriority}
use Rattle.event.specs.Kinds.{kind_number}
use Rattle.event.specs.Bytes.{bytes_of}
use Rattle.threads.specs.Entries.{queue_from}
use Rattle.threads.proofs.ActionsLaws.{act_none, acted_create, acted_ready, acted_block, acted_priority, acted_end, place_of, regular_ready, joined, regular_joined}
use mathlib.Core.Logic.{◌⊎◌}
use borrow.Author.Rules.{rules}
use Rattle.threads.proofs.actions.act.Goals as goal
use Rattle.threads.proofs.actions.act.Goals.{Start}

abbrev bytes : Start → List ℕ
bytes c = bytes_of c.args.event

abbrev threads : Start → Columns
threads c = let a = c.args in columns a.exists.now a.ready.now a.partitions.now a.priorities.now a.masks.now a.policies.now a.slices.now

abbrev old : Start → Tables
old c = tables_in (threads c) c.args.queue.now c.args.queued

-- what is asked of the thread, where the action is told
inside : (c : Start) (a : Action) → c.args.event.action ≡ a → 2 ≤ kind_number a → kind_number a ≤ 6 → thread_of (bytes c) < 64
inside c a t lo hi = let k : kind_of (bytes c) ≡ kind_number a = ap kind_number t in c.requires.thread_inside (rw k lo) (rw k hi)

pub returns-in-Create-clause-acted : goal.returns-in-Create-clause-acted
returns-in-Create-clause-acted c =
    let at = (goal.at.returns-in-Create-clause-acted c).Start in
    acted_create (old at) (bytes at) _ (ap kind_number c.in-Create.is) c.create.ensures.threads

pub returns-in-Ready-clause-acted : goal.returns-in-Ready-clause-acted
returns-in-Ready-clause-acted c =
    let at = (goal.at.returns-in-Ready-clause-acted c).Start in
    let t = c.in-Ready.is in
    let low = inside at Ready t (omega arith) (omega arith) in
    let e = c.join.ensures in
    acted_ready (old at) (bytes at) _ _ c.join.result (ap kind_number t) (joined (threads at) at.requires.sizes (thread_of (bytes at)) low _ _ e.0 e.1) e.2

pub returns-in-Ready-clause-regular : goal.returns-in-Ready-clause-regular
returns-in-Ready-clause-regular c =
    let at = (goal.at.returns-in-Ready-clause-regular c).Start in
    let low = inside at Ready c.in-Ready.is (omega arith) (omega arith) in
    let e = c.join.ensures in
    regular_joined (threads at) at.requires.sizes (thread_of (bytes at)) low _ _ e.0 e.1

pub returns-in-Block-clause-acted : goal.returns-in-Block-clause-acted
returns-in-Block-clause-acted c =
    let at = (goal.at.returns-in-Block-clause-acted c).Start in
    let t = c.in-Block.is in
    let low = inside at Block t (omega arith) (omega arith) in
    let records = ap (λ (l : List ℕ). threads_in (with_ready_column (threads at) l)) c.block.ensures.0
    ∙ ready_put (threads at) at.requires.sizes (thread_of (bytes at)) low false in
    acted_block (old at) (bytes at) _ _ c.block.result (ap kind_number t) records c.block.ensures.1

pub returns-in-Block-clause-regular : goal.returns-in-Block-clause-regular
returns-in-Block-clause-regular c =
    let at = (goal.at.returns-in-Block-clause-regular c).Start in
    let low = inside at Block c.in-Block.is (omega arith) (omega arith) in
    regular_ready (threads at) at.requires.sizes (thread_of (bytes at)) low _ 0 (omega arith) c.block.ensures.0

pub returns-in-SetPriority-clause-acted : goal.returns-in-SetPriority-clause-acted
returns-in-SetPriority-clause-acted c =
    let at = (goal.at.returns-in-SetPriority-clause-acted c).Start in
    let t = c.in-SetPriority.is in
    let low = inside at SetPriority t (omega arith) (omega arith) in
    let e = c.set_priority.ensures in
    let line = take at.args.queued at.args.queue.now in
    let records = ap (λ (l : List ℕ). threads_in (with_priority_column (threads at) l)) e.0
    ∙ priority_put (threads at) at.requires.sizes (thread_of (bytes at)) low (priority_of (bytes at)) in
    let place = place_of (threads at) (thread_of (bytes at)) (priority_of (bytes at)) line low in
    acted_priority (old at) (bytes at) _ _ at.args.queued (ap kind_number t) records (e.1 ∙ ap queue_from place)

pub returns-in-End-clause-acted : goal.returns-in-End-clause-acted
returns-in-End-clause-acted c =
    let at = (goal.at.returns-in-End-clause-acted c).Start in
    acted_end (old at) (bytes at) _ _ c.leave.result (ap kind_number c.in-End.is) c.forget.ensures.threads c.leave.ensures

pub returns-in-Unknown-clause-acted : goal.returns-in-Unknown-clause-acted
returns-in-Unknown-clause-acted c =
    let at = (goal.at.returns-in-Unknown-clause-acted c).Start in
    let none : kind_of (bytes at) ≡ 0 ⊎ (kind_of (bytes at) ≡ 1 ⊎ kind_of (bytes at) ≡ 7) = search rules in
    λ (s : State). sym (act_none (with_tables s (old at)) (bytes at) none)
