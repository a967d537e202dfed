use Rattle.doors.proofs.Starting.{begun}
use Rattle.doors.proofs.start.begin.Goals as goal

pub returns-clause-fresh : goal.returns-clause-fresh
returns-clause-fresh c =
    let k = c.keep_settings in
    begun c.args.s c.args.state.now.history.now _ k.new.numbers k.new.shares k.ensures c.clear_rows.ensures
