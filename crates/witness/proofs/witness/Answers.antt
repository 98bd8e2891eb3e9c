use Rattle.witness.proofs.Applied.{applied}
use Rattle.witness.proofs.witness.Goals as goal

pub returns : goal.returns
returns c = applied
