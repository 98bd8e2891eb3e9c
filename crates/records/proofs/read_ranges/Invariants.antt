use mathlib.Core.Path.{◌≡◌}
use lib.ListN.{length}
use Rattle.records.proofs.Readings.{ReadRanges}
use Rattle.records.proofs.read_ranges.Given as goal

abbrev pub invariant-loop-k : goal.invariant-loop-k
invariant-loop-k l = (length l.range-items ≡ 32) × ReadRanges l.core l.range-items l.k
