-- A task block after a tick that finds its thread running.
use Rattle.model.specs.Slices.{slice_after}
use Rattle.threads.specs.declared.tasks.Task.{Task}

unfoldable pub counted_of : Task → Task
counted_of t = record { policy = t.policy; slice = slice_after t.policy t.slice }
