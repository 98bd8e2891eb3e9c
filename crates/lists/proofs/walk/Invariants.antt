use mathlib.Core.Path.{◌≡◌}
use lib.ListN.{length}
use Rattle.memory.specs.Memory.{lent}
use Rattle.lists.specs.Walk.{list_walk}
use Rattle.lists.proofs.Fuel.{unmet}
use Rattle.lists.proofs.walk.Given as goal

abbrev pub invariant-loop-l : goal.invariant-loop-l
invariant-loop-l l = (length l.met ≡ 2048) × (list_walk 2049 (lent l.base l.window l.base2 l.window2) l.l l.met ≡ list_walk 2049 (lent l.base l.window l.base2 l.window2) l.initial.l l.initial.met)

abbrev pub decreases-loop-l : goal.decreases-loop-l
decreases-loop-l l = unmet l.met
