use Rattle.answers.proofs.Numbers.{number_small}
use native.Mathlib.Omega.{arith}
use Rattle.answers.proofs.refusal_answer.Goals as goal

pub overflow_cast-number : goal.overflow_cast-number
overflow_cast-number c = omega (arith, c.number.ensures, number_small c.args.x)

pub returns : goal.returns
returns c = rw (← c.number.ensures, ← c.fault.ensures) c.packed.ensures
