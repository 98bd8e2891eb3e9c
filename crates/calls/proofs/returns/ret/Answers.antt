use Rattle.acts.specs.Acts.{done_of}
use Rattle.calls.specs.Returns.{ret_of}
use Rattle.calls.proofs.returns.ret.Goals as goal

pub returns-then-underflows : goal.returns-then-underflows
unfolding ret_of
returns-then-underflows c = rw (← c.underflows.ensures, c.if-underflows.true)

pub returns-in-Err : goal.returns-in-Err
unfolding ret_of
returns-in-Err c = rw (← c.underflows.ensures, c.if-underflows.false, ← c.previous_context.ensures, c.in-Err.is)

pub returns-in-Err-restore : goal.returns-in-Err-restore
unfolding ret_of
returns-in-Err-restore c = rw (← c.underflows.ensures, c.if-underflows.false, ← c.previous_context.ensures, c.in_default.is, ← c.restore.ensures, c.in-Err-restore.is)

pub returns-in-Ok : goal.returns-in-Ok
unfolding ret_of done_of
returns-in-Ok c = rw (← c.underflows.ensures, c.if-underflows.false, ← c.previous_context.ensures, c.in_default.is, ← c.restore.ensures, c.in-Ok.is, c.settled.ensures, c.control_of-before.ensures, c.new_pc-to.ensures)
