use mathlib.Core.Path.{sym}
use lib.Seq.{length-take-le}
use Rattle.walk.proofs.start.image_in.Goals as goal

pub slice_bounds-result-end : goal.slice_bounds-result-end
slice_bounds-result-end c = sym (length-take-le _ _ c.requires.1)
