use Rattle.std.proofs.Common.{◌≡◌, ◌∙◌, rules}
use Rattle.std.specs.List.{sum_by}
use Rattle.units.specs.declared.Percent.{Percent}
use Rattle.sheet.proofs.LimitsLaws.{shares_summed}
use Rattle.sheet.proofs.bounds.total_share.Goals as goal

pub returns : goal.returns
returns c =
    let e : c.sum.result ≡ sum_by (λ (share : Percent). share.0) c.args.shares.now = search rules in
    e ∙ shares_summed c.args.shares.now
