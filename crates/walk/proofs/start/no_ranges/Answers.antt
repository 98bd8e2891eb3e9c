use mathlib.Core.Path.{refl}
use Rattle.walk.specs.Start.{no_ranges}
use Rattle.walk.proofs.start.no_ranges.Goals as goal

pub returns : goal.returns
unfolding no_ranges
returns c = refl
