use Rattle.std.proofs.Common.{◌≤◌, length, sym, arith}
use Rattle.lists.specs.Lists.{total}
use Rattle.sheet.specs.Settings.{W, C, share, refused_settings}
use Rattle.sheet.proofs.LimitsLaws.{too_many, first_shares}
use Rattle.sheet.proofs.limits.Goals as goal

pub returns-then-settings-gt16 : goal.returns-then-settings-gt16
unfolding refused_settings
returns-then-settings-gt16 c =
    let s = c.args.settings in
    sym (too_many s.count (W s) (C s) s.policy s.core s.edition s.stated (total s.count (share s)) c.if-settings-gt16.true)

pub returns : goal.returns
unfolding refused_settings
returns c =
    let s = c.args.settings in
    let room : s.count ≤ length s.shares = omega arith in
    rw (c.limits_of.ensures, c.total_share-sum.ensures, first_shares s.shares s.count room)
