use Rattle.entries.proofs.entry.set_entry.Goals as goal

pub returns-in-Trap : goal.returns-in-Trap
returns-in-Trap c = rw c.in-Trap.is c.enter_trap.ensures

pub returns-in-Interrupt : goal.returns-in-Interrupt
returns-in-Interrupt c = rw c.in-Interrupt.is c.enter_interrupt.ensures
