use Rattle.std.proofs.Common.{◌≡◌, ◌<◌, ◌*◌, true, length, length-drop, sym, ap, ◌∙◌, arith, rules}
use Rattle.std.specs.Prelude.{Ok}
use Rattle.std.specs.Iterator.Adapters.{enumerate_count}
use Rattle.lists.specs.Lists.{below, all}
use Rattle.lists.proofs.Tests.{and}
use Rattle.lists.proofs.Tables.{table_more}
use Rattle.lists.proofs.Loops.{all_next}
use Rattle.refusals.proofs.Laws.{never_zero}
use Rattle.sheet.specs.Records.{accepted, says}
use Rattle.sheet.specs.Order.{record_count, field_at, value_at, records_formed, values_or_refusal}
use Rattle.sheet.proofs.OrderReading.{whole_of, count_high, chunk_is, field_is, value_is, formed_not, values_are}
use Rattle.sheet.proofs.order.read_values.Goals as goal

pub loop-i-init : goal.loop-i-init
unfolding all below
loop-i-init c = search rules

pub number_at-requires : goal.number_at-requires
number_at-requires c =
    let bs = c.args.bytes.now in
    let turn = c.loop-i.invariant in
    let ((_, (taken, long), _), at, _, _) = c.in-Some.ensures.steps in
    let (_, _, room) = chunk_is bs _ c.in-Some.record.now _ _ (enumerate_count c.loop-i.i-iterator) turn.size turn.rest taken long in
    omega (arith, count_high bs (whole_of bs c.requires))

pub returns-in_default : goal.returns-in_default
unfolding values_or_refusal
returns-in_default c =
    let bs = c.args.bytes.now in
    let i = c.in-Some.i in
    let turn = c.loop-i.invariant in
    let ((_, (taken, long), _), at, _, _) = c.in-Some.ensures.steps in
    let (chunk, _, room) = chunk_is bs _ c.in-Some.record.now _ _ i turn.size (rw at turn.rest) taken long in
    let field = field_is bs i c.head_of-head.result c.head_of-head.ensures c.letter_at.ensures c.number_at.ensures chunk c.in_default.ensures in
    rw (formed_not bs i room (rw field (never_zero c.in_default.field-0)))

pub bounds-values-i : goal.bounds-values-i
bounds-values-i c =
    let bs = c.args.bytes.now in
    let turn = c.loop-i.invariant in
    let ((_, (taken, long), _), at, _, _) = c.in-Some.ensures.steps in
    let (_, _, room) = chunk_is bs _ c.in-Some.record.now _ _ (enumerate_count c.loop-i.i-iterator) turn.size turn.rest taken long in
    omega (arith, count_high bs (whole_of bs c.requires))

pub loop-i-preserved : goal.loop-i-preserved
loop-i-preserved c =
    let bs = c.args.bytes.now in
    let i = c.in-Some.i in
    let turn = c.loop-i.invariant in
    let ((size, (taken, long), _), at, next, _) = c.in-Some.ensures.steps in
    let (chunk, after, room) = chunk_is bs _ c.in-Some.record.now _ _ i turn.size (rw at turn.rest) taken long in
    let field : field_at bs i ≡ says c.in-Ok.value =
    field_is bs i c.head_of-head.result c.head_of-head.ensures c.letter_at.ensures c.number_at.ensures chunk c.in-Ok.ensures in
    let value = value_is bs i c.in-Ok.value field in
    let few : i < 21 = omega (arith, count_high bs (whole_of bs c.requires)) in
    record {
      size = size ∙ turn.size;
      rest = rw (next, ← at) after;
      count = rw (next, ← at) (omega arith);
      formed = rw (next, ← at) (sym (all_next (λ j. accepted (field_at bs j)) i) ∙ and (rw at turn.formed) value.1);
      values = rw (next, ← at, turn.values, ← at, ← value.0) (table_more (value_at bs) 0 21 i few);
    }

pub returns : goal.returns
unfolding values_or_refusal records_formed
returns c =
    let bs = c.args.bytes.now in
    let turn = c.loop-i.invariant in
    let n = enumerate_count c.loop-i.i-iterator in
    let ((_, (short, _), _), _) = c.in-None.ensures.steps in
    let whole = whole_of bs c.requires in
    let last : n ≡ record_count bs = omega (arith, short, turn.size, ap length turn.rest, length-drop (12 * n) bs, whole.exact) in
    let formed : records_formed bs ≡ true = rw (← last) turn.formed in
    rw formed (ap Ok (turn.values ∙ rw last (values_are bs whole)))
