use Rattle.std.proofs.Common.{to_z-of_z}
use Rattle.words.proofs.Results.{wrapped_is}
use Rattle.words.proofs.result.wrapped.Goals as goal

pub returns : goal.returns
returns c = wrapped_is (to_z-of_z c.ranges.z) c.low_bits-w.ensures c.in_range.ensures c.advanced.ensures
