use Rattle.moves.specs.Moves.{integer_of}
use Rattle.moves.proofs.execute_integer.Goals as goal

pub returns : goal.returns
unfolding integer_of
returns c = rw (← c.second.ensures, ← c.compute-r.ensures)
