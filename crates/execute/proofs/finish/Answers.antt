use Rattle.execute.specs.Execute.{finish_of}
use Rattle.execute.proofs.finish.Goals as goal

pub returns-in-Done : goal.returns-in-Done
unfolding finish_of
returns-in-Done c = rw c.in-Done.is

pub returns-in-Switched : goal.returns-in-Switched
unfolding finish_of
returns-in-Switched c = rw c.in-Switched.is

pub returns-in-Depleted : goal.returns-in-Depleted
unfolding finish_of
returns-in-Depleted c = rw (c.in-Depleted.is, c.passed_on.ensures) c.enter_fcd.ensures

pub returns-in-Trap : goal.returns-in-Trap
unfolding finish_of
returns-in-Trap c = rw (c.in-Trap.is, c.passed_on-in-Trap.ensures) c.trap.ensures

pub returns-in-TrapAfter : goal.returns-in-TrapAfter
unfolding finish_of
returns-in-TrapAfter c = rw (c.in-TrapAfter.is, c.passed_on-in-TrapAfter.ensures) c.trap-in-TrapAfter.ensures

pub returns-in-Stopped : goal.returns-in-Stopped
unfolding finish_of
returns-in-Stopped c = rw c.in-Stopped.is
