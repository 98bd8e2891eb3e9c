use Rattle.bitwise.proofs.Runs.{zeros}
use Rattle.bitwise.specs.Leading.{clz_of}
use Rattle.bitwise.proofs.leading.clz.Goals as goal

pub returns : goal.returns
unfolding clz_of
returns c = zeros c.ranges.a
