use Rattle.sheet.proofs.RecordsLaws.{written_record}
use Rattle.sheet.proofs.records.write_record.Goals as goal

pub returns : goal.returns
returns c =
    written_record c.args.letter c.args.number c.args.value c.args.out.now c.requires _ _
    c.write_digits.ensures c.write_digits-2.ensures
