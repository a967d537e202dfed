use mathlib.Core.Path.{◌≡◌, sym, ◌∙◌}
use native.Mathlib.Omega.{arith}
use lib.ListN.{length}
use Rattle.std.proofs.lemmas.Option.{MatchOption-at_some}
use Rattle.std.proofs.lemmas.Result.{err_from_is_err_and}
use Rattle.refusals.specs.declared.Refusal.TheVariants.{Length}
use Rattle.model.specs.Typed.{Bytes}
use Rattle.event.proofs.EventLaws.{decoded_length, decoded_form, decoded_event}
use Rattle.event.proofs.decode.Goals as goal

pub returns-in_err-record : goal.returns-in_err-record
returns-in_err-record c =
    let (y, e, q) = err_from_is_err_and c.from_residual.result c.from_residual.ensures.1 in
    let n : length c.args.bytes.now ≡ 12 → ⊥ = grind arith in
    let f : c.in_err-record.field-0.0 ≡ Length = grind arith in
    rw (e, q, f) (decoded_length c.args.bytes.now n)

pub returns-then-not-formed : goal.returns-then-not-formed
returns-then-not-formed c =
    let form = c.from-action in
    let whole = MatchOption-at_some _ _ _ c.in_ok-record.ensures.ok_part c.as_array.ensures.cases in
    rw (← whole.same) (decoded_form c.in_ok-record.record.now (rw whole.same whole.long) form.result.uses form.ensures.uses (sym c.formed.ensures ∙ c.if-not-formed.true))

pub returns : goal.returns
returns c =
    let form = c.from-action in
    let whole = MatchOption-at_some _ _ _ c.in_ok-record.ensures.ok_part c.as_array.ensures.cases in
    let fits : Bytes c.in_ok-record.record.now = rw whole.same (λ i. (c.type_inv.bytes i).fits) in
    rw (← whole.same) (decoded_event c.in_ok-record.record.now (rw whole.same whole.long) form.result.uses form.ensures.uses form.result.action c.stamp_of.result
    (sym c.formed.ensures ∙ c.if-not-formed.false) fits form.ensures.action c.stamp_of.ensures)
