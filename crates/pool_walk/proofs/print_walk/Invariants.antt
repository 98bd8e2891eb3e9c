use Rattle.std.proofs.Common.{◌≤◌, length}
use Rattle.pool_walk.proofs.Ends.{left}
use Rattle.pool_walk.proofs.print_walk.Given as goal

abbrev pub invariant-loop-out : goal.invariant-loop-out
invariant-loop-out g l = l.w.len ≤ length l.out

abbrev pub decreases-loop-out : goal.decreases-loop-out
decreases-loop-out g l = left l.w
