use mathlib.Core.Path.{refl}
use Rattle.contexts.specs.Context.{lower_of}
use Rattle.contexts.proofs.context.lower.Goals as goal

pub returns : goal.returns
unfolding lower_of
returns c = refl
