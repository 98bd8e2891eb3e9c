use Rattle.std.proofs.Common.{refl}
use Rattle.image.specs.Marks.{slot_of}
use Rattle.image.proofs.marks.slot_of.Goals as goal

pub returns : goal.returns
unfolding slot_of
returns c = refl
