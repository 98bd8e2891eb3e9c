use Rattle.std.proofs.Common.{◌≡◌, ◌-◌}
use Rattle.image.specs.Table.{entries_of}
use Rattle.image.specs.Rest.{rest_from, rest_of}
use Rattle.image.proofs.fetch.rest_long.Given as goal

abbrev pub invariant-loop-i : goal.invariant-loop-i
invariant-loop-i l = rest_from (entries_of l.image - l.i) l.image l.i l.pc ≡ rest_of l.image l.pc
