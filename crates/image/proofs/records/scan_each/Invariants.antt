use Rattle.std.proofs.Common.{◌≤◌, eqb}
use Rattle.image.proofs.Scanning.{Scanned}
use Rattle.image.proofs.records.scan_each.Given as goal

abbrev pub invariant-loop-k : goal.invariant-loop-k
invariant-loop-k l = Scanned l.image l.k (eqb l.short 0) × (l.short ≤ l.k)
