use Rattle.walk.proofs.Texts.{roomier}
use native.Mathlib.Omega.{arith}
use Rattle.walk.proofs.lines.put_name.Goals as goal

pub returns-in-Instruction : goal.returns-in-Instruction
returns-in-Instruction c = rw c.in-Instruction.is (roomier (omega arith) c.put.ensures)

pub returns-in-Interrupt : goal.returns-in-Interrupt
returns-in-Interrupt c = rw c.in-Interrupt.is (roomier (omega arith) c.put-in-Interrupt.ensures)

pub returns-in-Trap : goal.returns-in-Trap
returns-in-Trap c = rw c.in-Trap.is (roomier (omega arith) c.put-in-Trap.ensures)
