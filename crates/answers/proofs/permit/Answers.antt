use native.Mathlib.Omega.{arith}
use Rattle.answers.proofs.permit.Goals as goal

pub returns-in-Some : goal.returns-in-Some
returns-in-Some c = (rw c.in-Some.is, omega arith)
