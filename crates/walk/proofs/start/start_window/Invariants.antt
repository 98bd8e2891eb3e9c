use mathlib.Core.Path.{◌≡◌}
use Rattle.walk.specs.Start.{linked}
use Rattle.walk.proofs.start.start_window.Given as goal

abbrev pub invariant-loop-k : goal.invariant-loop-k
invariant-loop-k l = l.bytes ≡ linked l.k
