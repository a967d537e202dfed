use Rattle.accounts.proofs.ChargingLaws.{idles, pays_for}
use Rattle.accounts.proofs.charging.charge.Goals as goal

pub returns-then-c-eq-IDLE : goal.returns-then-c-eq-IDLE
returns-then-c-eq-IDLE c =
    let a = c.args in
    let e = c.elapsed-amount in
    idles a.settings a.used.now a.c a.partitions.now a.history.now a.stamp e.result.0 e.ensures c.plus-since.result c.plus-since.ensures c.if-c-eq-IDLE.true

pub returns : goal.returns
returns c =
    let a = c.args in
    let e = c.elapsed-amount in
    let on = c.if-c-eq-IDLE.false in
    pays_for a.settings a.used.now a.c a.partitions.now a.history.now a.stamp e.result.0 e.ensures c.plus-since.result c.plus.result c.plus-since.ensures c.plus.ensures _ on (c.requires.pays on).running c.charge_slot.ensures
