use Rattle.bitwise.proofs.Runs.{ones}
use Rattle.bitwise.specs.Leading.{clo_of}
use Rattle.bitwise.proofs.leading.clo.Goals as goal

pub returns : goal.returns
unfolding clo_of
returns c = ones c.ranges.a
