use Rattle.walk.specs.Start.{start_registers}
use Rattle.walk.proofs.start.start_registers.Goals as goal

pub returns : goal.returns
unfolding start_registers
returns c = rw c.first_address-pc.ensures
