use Rattle.std.proofs.Common.{◌≡◌, length}
use Rattle.memory.specs.Memory.{lent}
use Rattle.machine.proofs.Loops.{Turn}
use Rattle.machine.proofs.run_steps.run_by_reference.Given as goal

abbrev pub invariant-loop-left : goal.invariant-loop-left
invariant-loop-left l = ((length l.window ≡ length l.initial.window) × (length l.window2 ≡ length l.initial.window2)) × Turn l.n l.image l.ranges l.initial.registers l.initial.requests (lent l.base l.initial.window l.base2 l.initial.window2) l.left l.last l.registers l.requests (lent l.base l.window l.base2 l.window2) l.best

abbrev pub decreases-loop-left : goal.decreases-loop-left
decreases-loop-left l = l.left
