use Rattle.system.specs.CoreRegisters.{core_at}
use native.Mathlib.Omega.{arith}
use Rattle.system.proofs.core_registers.read_core.Goals as goal

pub offset_bounds-core-k : goal.offset_bounds-core-k
offset_bounds-core-k c = omega (arith, rw (c.in-Some-Register.is, c.in-Some-Register.field-0-is) at c.named_at.ensures.1)

pub bounds-core-k : goal.bounds-core-k
bounds-core-k c = omega (arith, rw (c.in-Some-Register.is, c.in-Some-Register.field-0-is) at c.named_at.ensures.1)

pub returns-in-Some-Pc : goal.returns-in-Some-Pc
unfolding core_at
returns-in-Some-Pc c = rw (← c.named_at.ensures.0, c.in-Some-Pc.is, c.in-Some-Pc.field-0-is)

pub returns-in-Some-Register : goal.returns-in-Some-Register
unfolding core_at
returns-in-Some-Register c = rw (← c.named_at.ensures.0, c.in-Some-Register.is, c.in-Some-Register.field-0-is)

pub returns-in-None : goal.returns-in-None
unfolding core_at
returns-in-None c = rw (← c.named_at.ensures.0, c.in-None.is)
