use mathlib.Core.Path.{ap, ◌∙◌}
use mir.Syntax.{w64}
use Rattle.words.proofs.Exact.{returned}
use Rattle.words.specs.Result.{carried_of}
use Rattle.arithmetic.specs.Arithmetic.{addx_of}
use Rattle.arithmetic.proofs.sums.addx.Goals as goal

pub returns : goal.returns
unfolding addx_of
returns c = c.with_carry.ensures ∙ ap (carried_of _) (returned w64 c.sum.type_inv c.sum.ensures)
