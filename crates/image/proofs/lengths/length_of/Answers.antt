use Rattle.std.proofs.Common.{refl, arith}
use Rattle.image.proofs.Addresses.{byte_length}
use Rattle.image.proofs.lengths.length_of.Goals as goal

pub returns : goal.returns
returns c = byte_length _ (omega arith) _ refl
