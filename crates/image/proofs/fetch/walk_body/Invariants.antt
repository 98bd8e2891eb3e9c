use Rattle.std.proofs.Common.{◌≡◌, ◌+◌, ◌-◌, ◌*◌}
use Rattle.image.specs.Lengths.{address_after}
use Rattle.image.specs.Rest.{body_walk}
use Rattle.image.proofs.fetch.walk_body.Given as goal

abbrev pub invariant-loop-k : goal.invariant-loop-k
invariant-loop-k l = (l.here ≡ address_after l.k l.image l.at l.from) × (body_walk (l.n - l.k) l.image (l.at + 8 * l.k) l.here l.pc ≡ body_walk l.n l.image l.at l.from l.pc)
