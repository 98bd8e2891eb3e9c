use Rattle.std.proofs.Common.{refl, to_z-of_z, w64}
use Rattle.words.proofs.Exact.{returned}
use Rattle.words.proofs.Results.{saturated_is}
use Rattle.words.proofs.result.saturated.Goals as goal

pub returns : goal.returns
returns c = let s = c in saturated_is (to_z-of_z s.ranges.lo) (to_z-of_z s.ranges.hi) (to_z-of_z s.ranges.z) c.low_bits-unsaturated.ensures c.clamped.ensures (returned w64 c.clamped.type_inv refl) c.low_bits-written.ensures c.in_range.ensures c.advanced.ensures
