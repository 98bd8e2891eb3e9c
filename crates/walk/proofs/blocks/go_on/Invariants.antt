use Prim.Native.Nat.{◌-◌}
use Rattle.walk.proofs.Walks.{Turn}
use Rattle.walk.proofs.blocks.go_on.Given as goal

abbrev pub invariant-loop-made : goal.invariant-loop-made
invariant-loop-made l = Turn l.image l.initial.made l.initial.registers l.initial.requests l.initial.window l.initial.out l.out l.made l.registers l.requests l.window l.at

abbrev pub decreases-loop-made : goal.decreases-loop-made
decreases-loop-made l = 100000 - l.made
