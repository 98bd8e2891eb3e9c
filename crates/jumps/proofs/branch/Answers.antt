use Rattle.jumps.specs.Jumps.{branch_of}
use Rattle.jumps.proofs.branch.Goals as goal

pub returns-then-taken : goal.returns-then-taken
unfolding branch_of
returns-then-taken c = rw c.if-taken.true c.destination.ensures

pub returns : goal.returns
unfolding branch_of
returns c = rw c.if-taken.false
