use Rattle.doors.proofs.Looking.{remainder_narrow}
use Rattle.saplingloft.proofs.saplingloft_lent_remaining.Goals as goal

pub tell-requires : goal.tell-requires
tell-requires c = rw c.remaining-balance.ensures (remainder_narrow _ _)
