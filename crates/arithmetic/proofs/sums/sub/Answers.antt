use mathlib.Core.Path.{ap, ◌∙◌}
use mir.Syntax.{w64}
use Rattle.words.proofs.Exact.{returned}
use Rattle.words.specs.Result.{wrapped_of}
use Rattle.arithmetic.specs.Arithmetic.{sub_of}
use Rattle.arithmetic.proofs.sums.sub.Goals as goal

pub returns : goal.returns
unfolding sub_of
returns c = c.wrapped.ensures ∙ ap wrapped_of (returned w64 c.difference.type_inv c.difference.ensures)
