use Rattle.calls.specs.Saves.{called_then}
use Rattle.calls.proofs.saves.set_called.Goals as goal

pub returns : goal.returns
unfolding called_then
returns c = rw (c.new_pc.ensures, c.called.ensures)
