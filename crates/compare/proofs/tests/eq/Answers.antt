use Rattle.compare.proofs.tests.eq.Goals as goal

pub returns : goal.returns
returns c = rw c.equal.ensures
