use Rattle.jumps.specs.Jumps.{target_of}
use Rattle.jumps.proofs.destination.Goals as goal

pub returns : goal.returns
unfolding target_of
returns c = rw (c.new_pc.ensures, c.plus.ensures)
