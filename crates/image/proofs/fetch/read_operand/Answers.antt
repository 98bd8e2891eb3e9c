use Rattle.std.proofs.Common.{refl}
use Rattle.image.specs.Fetch.{instruction_at}
use Rattle.image.proofs.fetch.read_operand.Goals as goal

pub returns : goal.returns
unfolding instruction_at
returns c = λ pc. (rw (← c.operation_number.ensures) c.access_of.ensures, refl, c.word_at.ensures)
