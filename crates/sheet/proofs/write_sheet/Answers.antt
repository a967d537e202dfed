use mathlib.Core.Path.{◌≡◌, sym, ap, ◌∙◌}
use mathlib.Core.List.{List, ◌++◌}
use Prim.Native.Nat.{ℕ, ◌≤◌}
use native.Mathlib.Omega.{arith}
use lib.ListN.{length, drop}
use Rattle.sheet.specs.Settings.{refused_settings}
use Rattle.sheet.specs.Sheet.{sheet_length}
use Rattle.sheet.specs.declared.Settings.{Settings}
use Rattle.sheet.proofs.Within.{limits_of, not_refused}
use Rattle.sheet.proofs.Sheets.{sheet_is}
use Rattle.sheet.proofs.Answers.{refused_number, write_room, nothing_written, all_written}
use Rattle.sheet.proofs.write_sheet.Goals as goal

few : (c : Settings) → refused_settings c ≡ 0 → (c.stated ≤ 1) × (c.count ≤ 16)
few c e = let l = limits_of c (not_refused c e) in (l.stated, l.count_high)

pub returns-in-Err : goal.returns-in-Err
returns-in-Err c =
    let number = c.in-Err.ensures in
    let (l, b) =
    nothing_written c.args.settings c.args.buffer.now (refused_number c.in-Err.refusal c.in-Err.is c.refused_write.ensures) in
    (number, sym l, sym b)

pub values_from-requires : goal.values_from-requires
values_from-requires c =
    let (limits, room) = write_room c.args.settings (length c.args.buffer.now) (sym (c.in_default.ensures)) in
    (few c.args.settings limits).0

pub write_records-requires : goal.write_records-requires
write_records-requires c =
    let (limits, room) = write_room c.args.settings (length c.args.buffer.now) (sym (c.in_default.ensures)) in
    let (one, most) = few c.args.settings limits in
    rw c.records-n.ensures (omega arith, room)

pub returns : goal.returns
returns c =
    let settings = c.args.settings in
    let buffer = c.args.buffer.now in
    let number = c.in_default.ensures in
    let none = sym number in
    let (l, b) = all_written settings buffer none in
    let (one, most) = few settings (write_room settings (length buffer) none).0 in
    let same = sheet_is settings one most c.values_from.ensures in (
      number,
      rw c.records-n.ensures (sym l),
      rw (c.head.ensures, c.records-n.ensures) at c.write_records.ensures ∙ ap (λ (x : List ℕ). x ++ drop (sheet_length settings) buffer) same ∙ sym b,
    )
