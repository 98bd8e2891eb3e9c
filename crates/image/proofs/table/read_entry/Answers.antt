use Rattle.image.specs.Table.{entry_at}
use Rattle.image.proofs.table.read_entry.Goals as goal

pub returns : goal.returns
unfolding entry_at
returns c = rw (c.word_at.ensures, c.word_at-2.ensures, c.word_at-3.ensures)
