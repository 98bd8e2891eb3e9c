use Rattle.std.proofs.Common.{◌≡◌, ◌+◌, ◌-◌, ◌*◌, ◌≤◌, length}
use Rattle.image.specs.Table.{range_end, entries_from}
use Rattle.image.proofs.table.check_entries.Given as goal

abbrev pub invariant-loop-i : goal.invariant-loop-i
invariant-loop-i l = (l.start ≤ length l.image)
    × (l.last.offset + 8 * l.last.records ≤ length l.image)
    × (l.last.records ≤ 0x1_0000)
    × (entries_from (l.n - l.i) l.image l.i l.start (range_end l.image l.last) ≡ entries_from l.n l.image 0 (4 + 12 * l.n) 0)
