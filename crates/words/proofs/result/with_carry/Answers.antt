use Rattle.std.proofs.Common.{to_z-of_z}
use Rattle.words.proofs.Results.{carried_is}
use Rattle.words.proofs.result.with_carry.Goals as goal

pub returns : goal.returns
returns c = carried_is c.args.carry (to_z-of_z c.ranges.z) c.wrapped-f.ensures
