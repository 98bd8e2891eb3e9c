use Rattle.std.proofs.Common.{◌≡◌, ◌<◌, ℕ, ◌+◌}
use mathlib.Core.Bool.{false}
use Rattle.protection.specs.Range.{permits_at}
use Rattle.protection.proofs.range.search.Given as goal

abbrev pub invariant-loop-i : goal.invariant-loop-i
invariant-loop-i l = (j : ℕ) → j < l.i → permits_at l.ranges (l.from + j) l.right l.address ≡ false
