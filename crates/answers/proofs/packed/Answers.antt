use Rattle.answers.specs.Answers.{packed_of}
use native.Mathlib.Omega.{arith}
use Rattle.answers.proofs.packed.Goals as goal

pub returns : goal.returns
unfolding packed_of
returns c = omega arith
