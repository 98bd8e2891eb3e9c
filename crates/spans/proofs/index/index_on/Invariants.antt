use Rattle.std.proofs.Common.{◌≡◌}
use Rattle.spans.specs.Spans.{index_on}
use Rattle.spans.proofs.Spans.{Here}
use Rattle.spans.proofs.index.index_on.Given as goal

abbrev pub invariant-loop-j : goal.invariant-loop-j
invariant-loop-j l = Here l.image l.s l.j l.a × (index_on l.image l.s l.j l.pc ≡ index_on l.image l.s l.k l.pc)
