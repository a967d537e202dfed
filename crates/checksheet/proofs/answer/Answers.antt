use Rattle.std.proofs.Common.{ℕ, ◌≡◌, ◌≤◌, List, length, sym, length-take-le}
use Rattle.sheet.specs.Sheet.{length_written}
use Rattle.sheet.specs.declared.Settings.{Settings}
use Rattle.sheet.proofs.Answers.{written-fits}
use Rattle.checksheet.proofs.answer.Goals as goal

-- the sheet is no longer than the buffer, which has room for so many bytes
fits : (c : Settings) (room n : ℕ) (written : List ℕ) → length written ≡ room → n ≡ length_written c room → n ≤ length written
fits c room n written long is = rw (long, is) (written-fits _ _)

pub slice_bounds-buffer-end : goal.slice_bounds-buffer-end
slice_bounds-buffer-end g c = let w = c.write_sheet-writing in fits _ _ _ _ w.auto.buffer w.ensures.1

pub slice_bounds-write_all-end-2 : goal.slice_bounds-write_all-end-2
slice_bounds-write_all-end-2 g c = let w = c.write_sheet-writing in sym (length-take-le _ _ (fits _ _ _ _ w.auto.buffer w.ensures.1))
