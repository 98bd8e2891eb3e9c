use mathlib.Core.Path.{ap, ◌∙◌}
use mir.Syntax.{w64}
use Rattle.words.specs.Value.{least, largest}
use Rattle.words.proofs.Exact.{returned}
use Rattle.words.specs.Result.{saturated_of}
use Rattle.arithmetic.specs.Arithmetic.{adds_of}
use Rattle.arithmetic.proofs.saturating.adds.Goals as goal

pub returns : goal.returns
unfolding adds_of
returns c = c.saturated.ensures ∙ ap (saturated_of least largest) (returned w64 c.sum.type_inv c.sum.ensures)
