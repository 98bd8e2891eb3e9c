use Rattle.words.proofs.Masks.{masked, low_masked}
use Rattle.words.proofs.value.low_bits.Goals as goal

pub returns : goal.returns
returns c = rw (masked c.args.z) (low_masked c.ranges.z)
