use Rattle.image.proofs.Tests.{word_number, all_registers, with_immediate}
use Rattle.image.proofs.records.word_fits.Goals as goal

pub returns-then-registers-w : goal.returns-then-registers-w
returns-then-registers-w c = let w = c.args.w in rw (← word_number w, all_registers w _ c.if-registers-w.true) c.is_operation.ensures

pub returns : goal.returns
returns c =
    let w = c.args.w in
    rw (← word_number w, with_immediate w _ c.if-registers-w.false, ← c.is_operation-2.ensures, ← c.is_compare.ensures)
