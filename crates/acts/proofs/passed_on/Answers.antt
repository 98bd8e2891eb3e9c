use Rattle.acts.proofs.passed_on.Goals as goal

pub returns-in-Trap : goal.returns-in-Trap
returns-in-Trap c = rw c.in-Trap.is

pub returns-in-TrapAfter : goal.returns-in-TrapAfter
returns-in-TrapAfter c = rw c.in-TrapAfter.is

pub returns-in-Stopped : goal.returns-in-Stopped
returns-in-Stopped c = rw c.in-Stopped.is
