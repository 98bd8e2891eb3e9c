use Rattle.acts.specs.Acts.{done_of}
use Rattle.system.specs.Instructions.{enable_of}
use Rattle.system.proofs.instructions.set_enable.Goals as goal

pub returns-then-user0 : goal.returns-then-user0
unfolding enable_of
returns-then-user0 c = rw (← c.user0.ensures, c.if-user0.true)

pub returns : goal.returns
unfolding enable_of done_of
returns c = rw (← c.user0.ensures, c.if-user0.false, c.settled.ensures, c.control_of-before.ensures, c.written.ensures, c.priority.ensures)
