use mathlib.Core.Path.{ap, ◌∙◌}
use mir.Syntax.{w64}
use Rattle.words.proofs.Exact.{returned}
use Rattle.words.specs.Result.{wrapped_of}
use Rattle.arithmetic.specs.Arithmetic.{add_of}
use Rattle.arithmetic.proofs.sums.add.Goals as goal

pub returns : goal.returns
unfolding add_of
returns c = c.wrapped.ensures ∙ ap wrapped_of (returned w64 c.sum.type_inv c.sum.ensures)
