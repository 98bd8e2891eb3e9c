use mathlib.Core.Path.{refl}
use Rattle.fields.specs.Request.{cleared_of}
use Rattle.fields.proofs.request.cleared.Goals as goal

pub returns : goal.returns
unfolding cleared_of
returns c = refl
