use Rattle.std.proofs.Common.{refl}
use Rattle.words.specs.Bits.{bit}
use Rattle.words.specs.Result.{advance}
use Rattle.words.proofs.result.advanced.Goals as goal

pub returns : goal.returns
unfolding advance bit
returns c = refl
