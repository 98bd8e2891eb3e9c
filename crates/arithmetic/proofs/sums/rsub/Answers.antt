use mathlib.Core.Path.{ap, ◌∙◌}
use mir.Syntax.{w64}
use Rattle.words.proofs.Exact.{returned}
use Rattle.words.specs.Result.{wrapped_of}
use Rattle.arithmetic.specs.Arithmetic.{rsub_of}
use Rattle.arithmetic.proofs.sums.rsub.Goals as goal

pub returns : goal.returns
unfolding rsub_of
returns c = c.wrapped.ensures ∙ ap wrapped_of (returned w64 c.difference.type_inv c.difference.ensures)
