use Rattle.std.proofs.Common.{◌≡◌}
use Rattle.image.specs.Lengths.{address_after}
use Rattle.image.proofs.lengths.address_after.Given as goal

abbrev pub invariant-loop-k : goal.invariant-loop-k
invariant-loop-k l = l.here ≡ address_after l.k l.image l.at l.from
