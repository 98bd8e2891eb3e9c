use Rattle.std.proofs.Common.{◌≡◌, ◌-◌, ◌<◌}
use Rattle.image.specs.Table.{entries_of}
use Rattle.image.specs.Rest.{rest_from, rest_of, entry_from, entry_of}
use Rattle.image.proofs.fetch.rest_at.Given as goal

abbrev pub invariant-loop-r : goal.invariant-loop-r
invariant-loop-r l = (l.i < entries_of l.image) × (rest_from (entries_of l.image - l.i) l.image l.i l.pc ≡ rest_of l.image l.pc) × (entry_from (entries_of l.image - l.i) l.image l.i l.pc ≡ entry_of l.image l.pc)

abbrev pub decreases-loop-r : goal.decreases-loop-r
decreases-loop-r l = entries_of l.image - l.i
