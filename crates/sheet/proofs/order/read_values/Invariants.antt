use Rattle.std.proofs.Common.{◌≡◌, ◌≤◌, ◌-◌, ◌*◌, true, ◌++◌, map, drop}
use Rattle.std.proofs.Math.ListN.{replicate}
use Rattle.std.specs.Iterator.Adapters.{enumerate_source, enumerate_count}
use Rattle.std.specs.Slice.Iter.{chunks_exact_rest, chunks_exact_size}
use Rattle.lists.specs.Lists.{below, all}
use Rattle.sheet.specs.Records.{accepted}
use Rattle.sheet.specs.Order.{record_count, field_at, value_at}
use Rattle.sheet.proofs.order.read_values.Given as goal

-- so many records are read, none of them is refused, and the values hold what they say; the others are left
abbrev pub invariant-loop-i : goal.invariant-loop-i
invariant-loop-i l =
    let n = enumerate_count l.i-iterator in
    record {
      size : chunks_exact_size (enumerate_source l.i-iterator) ≡ 12;
      rest : chunks_exact_rest (enumerate_source l.i-iterator) ≡ drop (12 * n) l.bytes;
      count : n ≤ record_count l.bytes;
      formed : all (λ j. accepted (field_at l.bytes j)) (below n) ≡ true;
      values : l.values ≡ map (value_at l.bytes) (below n) ++ replicate (21 - n) 0;
    }
