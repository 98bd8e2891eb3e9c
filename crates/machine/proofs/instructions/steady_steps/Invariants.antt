use Rattle.std.proofs.Common.{◌≡◌, length}
use Rattle.memory.specs.Memory.{lent}
use Rattle.machine.proofs.Walks.{Goes}
use Rattle.machine.proofs.instructions.steady_steps.Given as goal

abbrev pub invariant-loop-left : goal.invariant-loop-left
invariant-loop-left l = ((length l.window ≡ length l.initial.window) × (length l.window2 ≡ length l.initial.window2))
    × Goes l.n l.image l.ranges l.initial.registers (lent l.base l.initial.window l.base2 l.initial.window2) l.guide.long l.s l.left l.at l.k l.next l.after l.registers (lent l.base l.window l.base2 l.window2)

abbrev pub decreases-loop-left : goal.decreases-loop-left
decreases-loop-left l = l.left
