use Rattle.records.specs.CoreRecord.{registers_in}
use Rattle.records.proofs.read_registers.Goals as goal

pub returns : goal.returns
unfolding registers_in
returns c = rw (c.words_from.ensures, c.words_from-2.ensures, c.words_from-3.ensures)
