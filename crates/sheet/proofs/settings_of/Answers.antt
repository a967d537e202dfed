use Rattle.std.proofs.Common.{◌≡◌, ◌∙◌, true, sym, arith}
use Rattle.std.proofs.lemmas.Result.{err_from_is_err_and, IfOk-weaker}
use Rattle.sheet.specs.Order.{whole_records}
use Rattle.sheet.proofs.OrderReading.{whole_of, head_is}
use Rattle.sheet.proofs.Answers.{not_whole, values_refused, values_read}
use Rattle.sheet.proofs.settings_of.Goals as goal

pub returns-then-not-whole_records-clause-number : goal.returns-then-not-whole_records-clause-number
returns-then-not-whole_records-clause-number c = not_whole c.args.bytes.now (sym c.whole_records.ensures ∙ c.if-not-whole_records.true)

pub returns-in_err-values-clause-number : goal.returns-in_err-values-clause-number
returns-in_err-values-clause-number c =
    let (y, e, q) = err_from_is_err_and c.from_residual.result c.from_residual.ensures.1 in
    let whole : whole_records c.args.bytes.now ≡ true = sym c.whole_records.ensures ∙ c.if-not-whole_records.false in
    rw (e, q) (values_refused c.args.bytes.now c.in_err-values.field-0.0 whole c.in_err-values.ensures)

pub settings_from-requires : goal.settings_from-requires
settings_from-requires c =
    let bs = c.args.bytes.now in
    let w = whole_of bs (sym c.whole_records.ensures ∙ c.if-not-whole_records.false) in
    let (low, high) = head_is bs in
    rw c.head_of.ensures (low, high, omega (arith, w.low), w.high)

pub returns-clause-number : goal.returns-clause-number
returns-clause-number c =
    let whole : whole_records c.args.bytes.now ≡ true = sym c.whole_records.ensures ∙ c.if-not-whole_records.false in
    c.settings_from.ensures.number ∙ (values_read c.args.bytes.now c.in_ok-values.values c.head_of.result whole c.in_ok-values.ensures c.head_of.ensures).0

pub returns-clause-settings : goal.returns-clause-settings
returns-clause-settings c =
    let whole : whole_records c.args.bytes.now ≡ true = sym c.whole_records.ensures ∙ c.if-not-whole_records.false in
    let (_, same) = values_read c.args.bytes.now c.in_ok-values.values c.head_of.result whole c.in_ok-values.ensures c.head_of.ensures in
    IfOk-weaker c.settings_from.result _ _ (λ settings e. e ∙ same) c.settings_from.ensures.settings
