use mathlib.Core.Path.{refl}
use Rattle.contexts.specs.Context.{upper_of}
use Rattle.contexts.proofs.context.upper.Goals as goal

pub returns : goal.returns
unfolding upper_of
returns c = refl
