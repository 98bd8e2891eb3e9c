use Rattle.compare.proofs.tests.ne.Goals as goal

pub returns : goal.returns
returns c = rw c.equal.ensures
