use mathlib.Core.Path.{ap, ◌∙◌}
use mir.Syntax.{w64}
use Rattle.words.proofs.Exact.{returned}
use Rattle.words.specs.Result.{carried_of}
use Rattle.arithmetic.specs.Arithmetic.{subx_of}
use Rattle.arithmetic.proofs.sums.subx.Goals as goal

pub returns : goal.returns
unfolding subx_of
returns c = c.with_carry.ensures ∙ ap (carried_of _) (returned w64 c.difference.type_inv c.difference.ensures)
