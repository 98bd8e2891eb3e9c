use mathlib.Core.Path.{◌≡◌}
use Rattle.interrupts.specs.Sources.{best_below}
use Rattle.interrupts.proofs.best_source.Given as goal

abbrev pub invariant-loop-i : goal.invariant-loop-i
invariant-loop-i l = l.b ≡ best_below l.i l.sources
