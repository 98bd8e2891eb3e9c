use Rattle.answers.proofs.Numbers.{stop_small}
use native.Mathlib.Omega.{arith}
use Rattle.answers.proofs.unmade_answer.Goals as goal

pub overflow_cast-stop_number : goal.overflow_cast-stop_number
overflow_cast-stop_number c = omega (arith, c.stop_number.ensures, stop_small c.in-Stopped.s)

pub returns-in-Stopped : goal.returns-in-Stopped
returns-in-Stopped c = rw (c.in-Stopped.is, ← c.stop_number.ensures) c.packed.ensures

pub returns-in-Refused : goal.returns-in-Refused
returns-in-Refused c = rw c.in-Refused.is c.refusal_answer.ensures
