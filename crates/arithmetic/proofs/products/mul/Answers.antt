use mathlib.Core.Path.{ap, ◌∙◌}
use mir.Syntax.{w64}
use Rattle.words.proofs.Exact.{returned}
use Rattle.words.specs.Result.{wrapped_of}
use Rattle.arithmetic.specs.Arithmetic.{mul_of}
use Rattle.arithmetic.proofs.products.mul.Goals as goal

pub returns : goal.returns
unfolding mul_of
returns c = c.wrapped.ensures ∙ ap wrapped_of (returned w64 c.product.type_inv c.product.ensures)
