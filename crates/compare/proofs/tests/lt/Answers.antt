use Rattle.compare.proofs.tests.lt.Goals as goal

pub returns : goal.returns
returns c = rw c.less.ensures
