use mathlib.Core.Path.{◌≡◌, refl, ◌∙◌}
use mathlib.Core.Bool.{Bool, true, false}
use Rattle.std.specs.Int.{from_bool}
use Rattle.model.specs.Arrays.{flag, Columns, columns}
use Rattle.model.proofs.Table.{thread_put}
use Rattle.threads.specs.Records.{thread_of}
use Rattle.threads.proofs.ActionsLaws.{regular_all}
use Rattle.threads.proofs.actions.store.Goals as goal

-- a flag is stored as its number
stored : (b : Bool) → from_bool b ≡ flag b
stored true = refl
stored false = refl

pub returns : goal.returns
returns c =
    let a = c.args in
    let ts : Columns = columns a.exists.now a.ready.now a.partitions.now a.priorities.now a.masks.now a.policies.now a.slices.now in
    let x = thread_of a.thread in
    rw (c.from.ensures ∙ stored x.exists, c.from-2.ensures ∙ stored x.ready)
    (record { threads = thread_put ts c.requires.1 a.t c.requires.0 x; regular = regular_all ts c.requires.1 a.t c.requires.0 x })
