use mathlib.Core.Path.{subst}
use Rattle.model.specs.Arrays.{columns_seen}
use Rattle.decision.specs.Upkeep.{HeldOf}
use Rattle.decision.specs.declared.leads.ReadyQueue.{ReadyQueue}
use Rattle.doors.proofs.Entering.{begins, working}
use Rattle.doors.proofs.opening.Opened.keep.Goals as goal

pub begin-requires : goal.begin-requires
begin-requires c =
    let o = c.args.self.now in
    let x = c.args.state.now in
    rw c.of-queue.ensures (begins o.settings x.used.now o.clock (columns_seen x) x.queue.now x.history.now c.requires.0 c.requires.1)

pub favoured_in-beside-requires : goal.favoured_in-beside-requires
favoured_in-beside-requires c =
    let o = c.args.self.now in
    let x = c.args.state.now in
    working o.settings x.used.now o.clock (columns_seen x) x.queue.now x.history.now c.requires.0 c.requires.1

pub returns : goal.returns
returns c =
    let held = subst (λ (q : ReadyQueue). HeldOf c.args.self.now.settings c.args.state.now.used.now q c.begin.new.self) c.of-queue.ensures c.begin.ensures in
    record { held = held; favours = c.favoured_in-beside.ensures }
