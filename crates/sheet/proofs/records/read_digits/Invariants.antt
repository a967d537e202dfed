use Rattle.std.proofs.Common.{◌≡◌, ◌<◌, ◌^◌, drop}
use Rattle.sheet.specs.Records.{number_from}
use Rattle.sheet.proofs.records.read_digits.Given as goal

abbrev pub invariant-loop-byte : goal.invariant-loop-byte
invariant-loop-byte l = (l.value < 10 ^ l.byte-index) × (number_from 0 l.digits ≡ number_from l.value (drop l.byte-index l.digits))
