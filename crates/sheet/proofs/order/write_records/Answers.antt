use Rattle.std.proofs.Common.{get_or}
use Rattle.sheet.proofs.OrderWriting.{written_more}
use Rattle.sheet.proofs.order.write_records.Goals as goal

pub loop-i-preserved : goal.loop-i-preserved
loop-i-preserved c =
    rw c.loop-i.invariant
    (written_more c.args.head (λ j. get_or c.args.values j 0) c.args.buffer.now c.loop-i.i c.letter_at.ensures c.number_at.ensures
    c.write_record.ensures)
