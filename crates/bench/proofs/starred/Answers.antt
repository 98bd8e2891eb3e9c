use Rattle.bench.proofs.Values.{starred}
use Rattle.bench.proofs.starred.Goals as goal

pub returns : goal.returns
returns c = starred
