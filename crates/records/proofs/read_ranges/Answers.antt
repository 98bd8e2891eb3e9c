use mathlib.Core.Path.{◌∙◌}
use lib.ListN.{length-set}
use Rattle.records.specs.CoreRecord.{ranges_of}
use Rattle.records.proofs.Readings.{ranges_turn, ranges_end}
use native.Mathlib.Omega.{arith}
use Rattle.records.proofs.read_ranges.Goals as goal

pub loop-k-preserved : goal.loop-k-preserved
loop-k-preserved c =
    let l = c.loop-k in
    (length-set _ _ _ ∙ l.invariant.0, ranges_turn _ _ _ _ l.invariant.0 (omega arith) c.word_at.ensures c.word_at-in-loop-k.ensures c.word_at-in-loop-k-2.ensures l.invariant.1)

pub returns : goal.returns
unfolding ranges_of
returns c = ranges_end _ _ _ c.loop-k.invariant.0 (omega arith) c.loop-k.invariant.1
