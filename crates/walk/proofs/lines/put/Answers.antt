use native.Mathlib.Omega.{arith}
use Rattle.walk.proofs.Texts.{copied}
use Rattle.walk.proofs.lines.put.Goals as goal

pub returns : goal.returns
returns c = rw c.copy_from_slice.ensures.after (copied _ _ _ _ (omega arith) c.requires)
