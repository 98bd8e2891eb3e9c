use Rattle.operations.proofs.Compares.{compares_by}
use Rattle.operations.proofs.is_compare.Goals as goal

pub returns : goal.returns
returns c = compares_by c.args.number
