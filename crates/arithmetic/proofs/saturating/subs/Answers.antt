use mathlib.Core.Path.{ap, ◌∙◌}
use mir.Syntax.{w64}
use Rattle.words.specs.Value.{least, largest}
use Rattle.words.proofs.Exact.{returned}
use Rattle.words.specs.Result.{saturated_of}
use Rattle.arithmetic.specs.Arithmetic.{subs_of}
use Rattle.arithmetic.proofs.saturating.subs.Goals as goal

pub returns : goal.returns
unfolding subs_of
returns c = c.saturated.ensures ∙ ap (saturated_of least largest) (returned w64 c.difference.type_inv c.difference.ensures)
