use Rattle.bench.proofs.Inputs.{pool_accepted}
use Rattle.bench.proofs.accepted.Goals as goal

pub returns : goal.returns
returns c = pool_accepted
